-- What a judge's words on the sides say of every choice of true points.
use Rattle.std.proofs.Common.{◌≡◌, ℕ, List, length, get_or, subst}
use Rattle.plane.specs.Points.{Point}
use Rattle.plane.specs.Rings.{sides, In}
use Rattle.plane.proofs.Ways.{side_ends}
use Rattle.judge.specs.declared.word.Word.{Word}
use Rattle.judge.specs.declared.word.Word.TheVariants.{Left, Right}
use Rattle.judge.specs.Words.{Certain}
use Rattle.rules.specs.Promise.{Chosen}
use Rattle.rules.proofs.Geometry.{LeftOf, RightOf, Under}

module _ {R : Type 0} (stands : R → Point → Type 0) (word : R → R → R → Word) (certain : (a b c : R) → Certain stands a b c (word a b c))
    (rs : List R) (ring : List ℕ) (under : Under (length rs) ring) (x : R) where
  -- the word on a side, with x third
  abbrev pub W : ℕ × ℕ → Word
  W s = word (get_or rs s.0 x) (get_or rs s.1 x) x

  module _ (at : ℕ → Point) (ch : Chosen stands rs at) (c : ℕ) (hc : stands x (at c)) (s : ℕ × ℕ) (i : In s (sides ring)) where
    pub said_left : W s ≡ Left → LeftOf at s c
    said_left e =
        let ends = side_ends ring s i in
        subst (Certain stands (get_or rs s.0 x) (get_or rs s.1 x) x) e (certain _ _ _) (at s.0) (at s.1) (at c) (ch s.0 x (under s.0 ends.0)) (ch s.1 x (under s.1 ends.1)) hc

    pub said_right : W s ≡ Right → RightOf at s c
    said_right e =
        let ends = side_ends ring s i in
        subst (Certain stands (get_or rs s.0 x) (get_or rs s.1 x) x) e (certain _ _ _) (at s.0) (at s.1) (at c) (ch s.0 x (under s.0 ends.0)) (ch s.1 x (under s.1 ends.1)) hc
