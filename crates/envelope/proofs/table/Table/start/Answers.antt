use Rattle.std.proofs.Common.{◌≡◌, [], ◌∷◌, length, refl, ap, arith}
use Rattle.envelope.specs.Corners.{Three}
use Rattle.envelope.proofs.HeldCounts.{held_three}
use Rattle.envelope.proofs.Starting.{three_under}
use Rattle.envelope.proofs.table.Table.start.Goals as goal

pub invariant_of-self : goal.invariant_of-self
invariant_of-self g c =
    let v = c.self.invariant in
    let none : c.self.inside.ring.items ≡ [] = rw (← c.self.view_is) at c.requires.none in
    let ring : c.push_reserved-3.new.self.items ≡ c.args.a ∷ c.args.b ∷ c.args.c ∷ [] = rw (c.push_reserved-3.ensures.items, c.push_reserved-2.ensures.items, c.push_reserved.ensures.items, none) refl in
    let long = ap length ring in
    let three : Three (length c.self.inside.readings.items) c.args.a c.args.b c.args.c = rw (← c.self.view_is) at c.requires.three in
    let count = held_three c.self.inside.standings.items (length c.self.inside.readings.items) c.args.a c.args.b c.args.c (omega arith) three in
    record {
      level = v.level;
      numbers = λ p h. rw ring (let u = three_under (length c.self.inside.readings.items) c.args.a c.args.b c.args.c three p (omega arith) in omega arith);
      places = omega arith;
      standings_room = v.standings_room;
      ring_room = let r = v.ring_room in omega arith;
      few = v.few;
    }
