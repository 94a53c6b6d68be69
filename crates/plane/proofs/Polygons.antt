-- Rings of numbered points: which points are left of their sides, which are inside, and which rings are convex.
use Rattle.std.proofs.Common.{◌≡◌, ℕ, ◌⊎◌, List, [], ◌∷◌, ◌++◌, ℤ, pos, ◌+ℤ◌, ◌*ℤ◌, ◌<ℤ◌}
use Rattle.std.specs.List.{AllByRecursion}
use Rattle.plane.specs.Whole.{WholePoint, area}
use Rattle.plane.specs.Rings.{steps, sides, In}

-- c is strictly left, or strictly right, of the line from a to b
abbrev pub Left : WholePoint → WholePoint → WholePoint → Type 0
Left a b c = pos 0 <ℤ area a b c

abbrev pub Right : WholePoint → WholePoint → WholePoint → Type 0
Right a b c = area a b c <ℤ pos 0

-- how far out a point lies in the direction u, v
abbrev pub whole_reach : ℤ → ℤ → WholePoint → ℤ
whole_reach u v q = (u *ℤ q.level) +ℤ (v *ℤ q.head)

-- no number twice
abbrev pub Distinct : List ℕ → Type 0
Distinct [] = Unit {0}
Distinct (x ∷ l) = (In x l → ⊥) × Distinct l

-- one ring, begun at another corner
pub record Rotated (ring ring' : List ℕ) : Type 0 where
  pub front : List ℕ
  pub back : List ℕ
  pub was : ring ≡ front ++ back
  pub is : ring' ≡ back ++ front

module _ (p : ℕ → WholePoint) where
  -- q is left, or right, of the side s
  abbrev pub LeftOf : WholePoint → ℕ × ℕ → Type 0
  LeftOf q s = Left (p s.0) (p s.1) q

  abbrev pub RightOf : WholePoint → ℕ × ℕ → Type 0
  RightOf q s = Right (p s.0) (p s.1) q

  -- q is not on the line of s
  abbrev pub Decided : WholePoint → ℕ × ℕ → Type 0
  Decided q s = LeftOf q s ⊎ RightOf q s

  abbrev pub AllLeft : WholePoint → List (ℕ × ℕ) → Type 0
  AllLeft q ss = AllByRecursion (LeftOf q) ss

  abbrev pub AllRight : WholePoint → List (ℕ × ℕ) → Type 0
  AllRight q ss = AllByRecursion (RightOf q) ss

  -- q is left of s, or Same says that it is an end of s
  abbrev pub EndOrLeft : (ℕ → Type 0) → WholePoint → ℕ × ℕ → Type 0
  EndOrLeft Same q s = Same s.0 ⊎ (Same s.1 ⊎ LeftOf q s)

  -- the point of number c is an end of s or left of it
  abbrev pub Sees : ℕ → ℕ × ℕ → Type 0
  Sees c s = EndOrLeft (λ x. c ≡ x) (p c) s

  -- the point of number c is that of every side
  abbrev pub Inside : List ℕ → ℕ → Type 0
  Inside ring c = (s : ℕ × ℕ) → In s (sides ring) → Sees c s

  -- every corner is inside
  abbrev pub Convex : List ℕ → Type 0
  Convex ring = (c : ℕ) → In c ring → Inside ring c

  -- in the direction u, v the point q lies farther out than all corners
  abbrev pub Beyond : ℤ → ℤ → WholePoint → List ℕ → Type 0
  Beyond u v q ring = AllByRecursion (λ c. whole_reach u v (p c) <ℤ whole_reach u v q) ring

-- the ring from a: first the sides that have q on the right, up to b, and then those that have it on the left
pub record Run (p : ℕ → WholePoint) (q : WholePoint) (ring : List ℕ) : Type 0 where
  pub a : ℕ
  pub removed : List ℕ
  pub b : ℕ
  pub rest : List ℕ
  pub rotated : Rotated ring (a ∷ (removed ++ b ∷ rest))
  pub rights : AllRight p q (steps a removed b)
  pub lefts : AllLeft p q (steps b rest a)
