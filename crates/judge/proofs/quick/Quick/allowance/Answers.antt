use Rattle.orientation.specs.Filter.{allowance}
use Rattle.judge.proofs.quick.Quick.allowance.Goals as goal

pub returns : goal.returns
unfolding allowance
returns c = cc
