use Rattle.std.proofs.Common.{ap, ◌∙◌, arith}
use Rattle.rules.specs.Trying.{held_count}
use Rattle.envelope.proofs.HeldCounts.{held_push}
use Rattle.envelope.proofs.table.Table.add.Goals as goal

pub invariant_of-self : goal.invariant_of-self
invariant_of-self g c =
    let t = c.self.invariant in
    let h = ap held_count c.push_reserved-2.ensures.items ∙ held_push c.self.inside.standings.items in
    record {
      level = omega arith;
      numbers = λ p l. let n = t.numbers p l in omega arith;
      places = omega arith;
      standings_room = omega arith;
      ring_room = omega arith;
      few = omega arith;
    }
