use Rattle.std.proofs.Common.{◌≡◌, ◌<◌, ◌≤◌, length, get_or, set, refl, sym, ap, ◌∙◌, arith, length-set}
use Rattle.std.specs.Vec.{with_items, with_item}
use Rattle.std.proofs.lemmas.List.{with_items_is}
use Rattle.rules.specs.declared.standing.Standing.TheVariants.{Corner, Held}
use Rattle.rules.specs.Placing.{turned, placed, retired, from_lowest}
use Rattle.rules.specs.Trying.{all_inside, held_count}
use Rattle.rules.proofs.Placements.{all_inside_length}
use Rattle.envelope.proofs.HeldCounts.{held_less, held_inside}
use Rattle.envelope.proofs.Cornered.{cornered_length, cornered_under, retired_slice}
use Rattle.envelope.proofs.table.Table.take_in.Given as given
use Rattle.envelope.proofs.table.Table.take_in.Goals as goal

pub place-requires-clause-room : goal.place-requires-clause-room
place-requires-clause-room g c =
    let t = c.self.invariant in
    let h : get_or c.self.inside.standings.items c.args.k Corner ≡ Held = rw (← c.self.view_is) at c.requires.held in
    let l = held_less c.self.inside.standings.items c.args.k Corner refl h in omega arith

module _ (g : given.Over) (c : goal.After-rotate_left-2 g) where
  ring_is : c.rotate_left-2.new.self.items ≡ from_lowest (placed c.args.run.rights (turned c.args.run.start c.self.inside.ring.items) c.args.k)
  ring_is = rw (c.rotate_left-2.ensures.items, c.lowest_at-lowest.ensures.value, c.deref-2.ensures.value, c.place.ensures.items, c.rotate_left.ensures.items) refl

  standings_are : c.retire.new.standings ≡ all_inside (retired c.args.run.rights (turned c.args.run.start c.self.inside.ring.items)) (set c.self.inside.standings.items c.args.k Corner)
  standings_are = rw (c.retire.ensures, c.deref_mut.ensures.value, c.deref.ensures.value, c.rotate_left.ensures.items, retired_slice c.args.run.rights (turned c.args.run.start c.self.inside.ring.items) c.requires.some) refl

  kept : (with_items (with_item c.self.inside.standings c.args.k Corner) c.retire.new.standings).items ≡ all_inside (retired c.args.run.rights (turned c.args.run.start c.self.inside.ring.items)) (set c.self.inside.standings.items c.args.k Corner)
  kept =
      with_items_is (with_item c.self.inside.standings c.args.k Corner) c.retire.new.standings
      (ap length standings_are ∙ all_inside_length (retired c.args.run.rights (turned c.args.run.start c.self.inside.ring.items)) (set c.self.inside.standings.items c.args.k Corner)
      ∙ length-set c.self.inside.standings.items c.args.k Corner ∙ sym c.self.inside.standings.ok.0)
      ∙ standings_are

pub invariant_of-self : goal.invariant_of-self
invariant_of-self g c =
    let t = c.self.invariant in
    let n = c.args.run.rights in
    let ring = c.self.inside.ring.items in
    let st = c.self.inside.standings.items in
    let held : get_or c.self.inside.standings.items c.args.k Corner ≡ Held = rw (← c.self.view_is) at c.requires.held in
    let most : c.args.run.rights ≤ length c.self.inside.ring.items = rw (← c.self.view_is) at c.requires.most in
    let number : c.args.k < length c.self.inside.readings.items = rw (← c.self.view_is) at c.requires.number in
    let long = ap length (ring_is g c) in
    let longer = cornered_length n ring c.args.run.start c.args.k c.requires.some most in
    let fewer = held_less st c.args.k Corner refl held in
    let none = held_inside (retired n (turned c.args.run.start ring)) (set st c.args.k Corner) in
    let count = ap held_count (kept g c) in
    record {
      level = t.level;
      numbers = λ p l. rw (ring_is g c) (cornered_under n _ ring c.args.run.start c.args.k (omega arith) (λ q h. t.numbers q (omega arith)) p (omega arith));
      places = omega arith;
      standings_room = t.standings_room;
      ring_room = omega arith;
      few = t.few;
    }

pub returns : goal.returns
returns g c = rw (← c.self.view_is, kept g c, ring_is g c) refl
