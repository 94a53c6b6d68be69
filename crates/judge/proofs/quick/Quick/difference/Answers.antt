use Rattle.orientation.specs.Filter.{difference}
use Rattle.judge.proofs.quick.Quick.difference.Goals as goal

pub returns : goal.returns
unfolding difference
returns c = cc
