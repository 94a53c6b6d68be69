use Rattle.std.proofs.Common.{◌≡◌}
use Rattle.envelope.proofs.PassSteps.{Passing}
use Rattle.envelope.proofs.table.Table.passes.Given as goal

abbrev pub invariant-loop-held : goal.invariant-loop-held
invariant-loop-held g l = record {
  passing : Passing (g.J.Judge.word l.judge) l.fn.self.envelope l.self.envelope l.held;
  capacity : l.self.capacity ≡ l.fn.self.capacity;
}

abbrev pub decreases-loop-held : goal.decreases-loop-held
decreases-loop-held g l = l.held
