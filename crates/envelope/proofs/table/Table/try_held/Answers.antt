use Rattle.std.proofs.Common.{◌<◌, length, vec_capacity, refl, ap, ◌∙◌, arith}
use Rattle.judge.specs.declared.word.Word.TheVariants.{Undecided}
use Rattle.rules.specs.declared.standing.Standing.TheVariants.{Inside}
use Rattle.rules.specs.Asking.{asked}
use Rattle.envelope.specs.Rooms.{year_of}
use Rattle.envelope.proofs.HeldCounts.{held_less}
use Rattle.envelope.proofs.SideWords.{all_asked}
use Rattle.envelope.proofs.Tryings.{Taken, found_within, taken_held, stays_held, goes_inside, becomes_corner}
use Rattle.envelope.proofs.table.Table.try_held.Goals as goal

pub invariant_of-self : goal.invariant_of-self
invariant_of-self g c =
    let k : c.args.k < length c.self.inside.readings.items = rw (← c.self.view_is) at c.requires in
    let t : Taken (year_of c.self.inside).envelope c.args.k c.index.result.now c.index-2.result.now =
    record { within = k; level = let l = c.self.invariant.level in omega arith; stands = c.index.ensures; held = c.in-Held.is; reads = c.index-2.ensures } in
    let fewer = held_less c.self.inside.standings.items c.args.k Inside refl (taken_held _ c.args.k _ _ t) in
    record {
      level = c.self.invariant.level;
      numbers = c.self.invariant.numbers;
      places = omega arith;
      standings_room = c.self.invariant.standings_room;
      ring_room = c.self.invariant.ring_room;
      few = c.self.invariant.few;
    }

pub take_in-requires-clause-start : goal.take_in-requires-clause-start
take_in-requires-clause-start g c =
    let e = c.args.self.now.envelope in
    let word = g.J.Judge.word c.args.judge.now in
    let f = found_within (asked word e c.index-2.result.now) c.in-Some.run' c.in-Some.ensures in
    let n = all_asked word e.readings c.index-2.result.now Undecided e.ring in omega arith

pub take_in-requires-clause-most : goal.take_in-requires-clause-most
take_in-requires-clause-most g c =
    let e = c.args.self.now.envelope in
    let word = g.J.Judge.word c.args.judge.now in
    let f = found_within (asked word e c.index-2.result.now) c.in-Some.run' c.in-Some.ensures in
    let n = all_asked word e.readings c.index-2.result.now Undecided e.ring in omega arith

pub returns-in-None : goal.returns-in-None
returns-in-None g c x =
    let k : c.args.k < length c.self.inside.readings.items = rw (← c.self.view_is) at c.requires in
    let e = (year_of c.self.inside).envelope in
    let t : Taken (year_of c.self.inside).envelope c.args.k c.index.result.now c.index-2.result.now =
    record { within = k; level = let l = c.self.invariant.level in omega arith; stands = c.index.ensures; held = c.in-Held.is; reads = c.index-2.ensures } in
    let n = rw (← c.self.view_is) at c.in-None.ensures in
    rw (← c.self.view_is) (ap (λ f. record { envelope = f; capacity = vec_capacity c.self.inside.readings }) (stays_held (g.J.Judge.word c.args.judge.now) e c.args.k _ _ t x n))

pub returns-in-Some : goal.returns-in-Some
returns-in-Some g c x =
    let k : c.args.k < length c.self.inside.readings.items = rw (← c.self.view_is) at c.requires in
    let e = (year_of c.self.inside).envelope in
    let t : Taken (year_of c.self.inside).envelope c.args.k c.index.result.now c.index-2.result.now =
    record { within = k; level = let l = c.self.invariant.level in omega arith; stands = c.index.ensures; held = c.in-Held.is; reads = c.index-2.ensures } in
    let n = rw (← c.self.view_is) at c.in-Some.ensures in
    rw (← c.self.view_is) (ap (λ f. record { envelope = f; capacity = vec_capacity c.self.inside.readings }) (goes_inside (g.J.Judge.word c.args.judge.now) e c.args.k _ _ t x c.in-Some.run' n c.if-run-eq0.true))

pub returns-in-Some-2 : goal.returns-in-Some-2
returns-in-Some-2 g c x =
    let k : c.args.k < length c.self.inside.readings.items = rw (← c.self.view_is) at c.requires in
    let e = (year_of c.self.inside).envelope in
    let t : Taken (year_of c.self.inside).envelope c.args.k c.index.result.now c.index-2.result.now =
    record { within = k; level = let l = c.self.invariant.level in omega arith; stands = c.index.ensures; held = c.in-Held.is; reads = c.index-2.ensures } in
    let n = rw (← c.self.view_is) at c.in-Some.ensures in
    c.take_in.ensures
    ∙ rw (← c.self.view_is) (ap (λ f. record { envelope = f; capacity = vec_capacity c.self.inside.readings }) (becomes_corner (g.J.Judge.word c.args.judge.now) e c.args.k _ _ t x c.in-Some.run' n (let z = c.if-run-eq0.false in omega arith)))
