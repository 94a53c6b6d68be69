-- A word that two tests give is certain where each test is.
use Rattle.std.specs.Prelude.{Bool, true, false, T}
use Rattle.plane.specs.Points.{Point}
use Rattle.judge.specs.declared.word.Word.TheVariants.{Left, Right}
use Rattle.judge.specs.Words.{Certain, worded}

pub worded_certain : {R : Type 0} (stands : R → Point → Type 0) (a b c : R) (l r : Bool) → (T l → Certain stands a b c Left) → (T r → Certain stands a b c Right) → Certain stands a b c (worded l r)
worded_certain stands a b c true r h k = h tt
worded_certain stands a b c false true h k = k tt
worded_certain stands a b c false false h k = tt
