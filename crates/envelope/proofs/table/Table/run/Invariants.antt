use Rattle.rules.specs.Asking.{asked}
use Rattle.envelope.proofs.Walks.{Walked}
use Rattle.envelope.proofs.table.Table.run.Given as goal

abbrev pub invariant-loop-i : goal.invariant-loop-i
invariant-loop-i g l = Walked (asked (g.J.Judge.word l.judge) l.self.envelope l.x) l.i l.rights l.start l.first l.before
