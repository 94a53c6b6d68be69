-- A judge's call on a year, in the words of the rules.
use Rattle.std.specs.Prelude.{◌≡◌}
use Rattle.plane.specs.Points.{Point}
use Rattle.judge.specs.declared.word.Word.{Word}
use Rattle.rules.specs.Calls.{Judging, Call, Answer, answer, after}
use Rattle.envelope.specs.Years.{Year}

-- with a judge of this word, whose left and right are certain, the call on year y answers a and leaves year z
pub record Called {R : Type 0} (stands : R → Point → Type 0) (word : R → R → R → Word) (call : Judging stands → Call stands) (y : Year R) (a : Answer) (z : Year R) : Type 0 where
  pub judging : Judging stands
  pub words : judging.word ≡ word
  pub answers : a ≡ answer stands y.capacity y.envelope (call judging)
  pub leaves : z ≡ record y { envelope = after stands y.capacity y.envelope (call judging) }
