-- The steps of a way, and the sides of a ring that begins elsewhere.
use Rattle.std.proofs.Common.{◌≡◌, ℕ, List, [], ◌∷◌, ◌++◌, refl, ap, inl, inr, ⊎_elim, append-nil}
use Rattle.plane.specs.Rings.{steps, sides, In}
use Rattle.plane.proofs.Members.{in_turns}

-- a way through two lists is one way after the other
pub steps_append : (a : ℕ) (l : List ℕ) (b : ℕ) (m : List ℕ) (z : ℕ) → steps a (l ++ b ∷ m) z ≡ steps a l b ++ steps b m z
steps_append a [] b m z = refl
steps_append a (c ∷ l) b m z = ap (λ r. (a, c) ∷ r) (steps_append c l b m z)

pub first_step : (a : ℕ) (l : List ℕ) (z : ℕ) → (n : ℕ) × In (a, n) (steps a l z)
first_step a [] z = (z, inl refl)
first_step a (b ∷ l) z = (b, inl refl)

pub last_step : (a : ℕ) (l : List ℕ) (z : ℕ) → (o : ℕ) × In (o, z) (steps a l z)
last_step a [] z = (a, inl refl)
last_step a (b ∷ l) z = let s = last_step b l z in (s.0, inr s.1)

step_ends : (a : ℕ) (l : List ℕ) (z : ℕ) (s : ℕ × ℕ) → In s (steps a l z) → In s.0 (a ∷ l) × In s.1 (z ∷ l)
step_ends a [] z s (inl e) = (inl (ap (λ t. t.0) e), inl (ap (λ t. t.1) e))
step_ends a [] z s (inr i) = absurd i
step_ends a (b ∷ l) z s (inl e) = (inl (ap (λ t. t.0) e), inr (inl (ap (λ t. t.1) e)))
step_ends a (b ∷ l) z s (inr i) = let t = step_ends b l z s i in (inr t.0, ⊎_elim inl (λ j. inr (inr j)) t.1)

-- both ends of a side are corners
pub side_ends : (ring : List ℕ) (s : ℕ × ℕ) → In s (sides ring) → In s.0 ring × In s.1 ring
side_ends [] s i = absurd i
side_ends (a ∷ l) s i = step_ends a l a s i

pub sides_turn : (l m : List ℕ) (s : ℕ × ℕ) → In s (sides (l ++ m)) → In s (sides (m ++ l))
sides_turn [] m s i = rw append-nil i
sides_turn (x ∷ l) [] s i = rw (append-nil l) at i
sides_turn (x ∷ l) (y ∷ m) s i = rw (steps_append y m x l y) (in_turns s (steps x l y) (steps y m x) (rw (steps_append x l y m x) at i))
