use Rattle.std.proofs.Common.{arith}
use Rattle.envelope.proofs.LowestSoFar.{lowest_first}
use Rattle.envelope.proofs.ring.lowest_at.Goals as goal

pub loop-p-init : goal.loop-p-init
loop-p-init c = record { found = lowest_first c.args.ring.now; within = omega arith }
