use Rattle.std.proofs.Common.{ap, arith}
use Rattle.rules.specs.Trying.{held_count}
use Rattle.envelope.proofs.Fewer.{held_fewer}
use Rattle.envelope.proofs.Callings.{rechecks}
use Rattle.envelope.proofs.open.OpenYear.recheck.Goals as goal

pub overflow_sub-result : goal.overflow_sub-result
overflow_sub-result g c =
    let h = held_fewer (g.J.Judge.word c.args.judge.now) c.self.inside.table.envelope in
    let s = ap (λ y. held_count y.envelope.standings) c.settle.ensures in omega (arith, h, s, c.held.ensures, c.held-before.ensures)

pub returns : goal.returns
returns g c =
    rw (c.held.ensures, c.held-before.ensures, c.settle.ensures, ← c.self.view_is)
    (rechecks g.R.Kind.stands (g.J.Judge.word c.args.judge.now) (g.met.J.Judge.certain c.args.judge.now) c.self.inside.table)
