use Rattle.rules.proofs.Keeps.{kept}
use Rattle.rules.proofs.promise.promise.Goals as goal

pub returns : goal.returns
returns g c = λ capacity s m h. kept g.R.Kind.stands (λ r. (g.R.Kind.sample r, g.met.R.Kind.some r)) capacity s m h
