use Rattle.orientation.specs.Filter.{weight}
use Rattle.judge.proofs.quick.Quick.weight.Goals as goal

pub returns : goal.returns
unfolding weight
returns c = cc
