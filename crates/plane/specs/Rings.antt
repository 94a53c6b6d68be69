-- Rings: the corners of a polygon by their numbers, and its sides.
use Rattle.std.specs.Prelude.{◌≡◌, ℕ, ◌⊎◌, List, [], ◌∷◌}

-- the steps of the way from a through l to z
abbrev pub steps : ℕ → List ℕ → ℕ → List (ℕ × ℕ)
steps a [] z = (a, z) ∷ []
steps a (b ∷ l) z = (a, b) ∷ steps b l z

-- a side runs from each corner to the next, and from the last to the first
abbrev pub sides : List ℕ → List (ℕ × ℕ)
sides [] = []
sides (a ∷ l) = steps a l a

-- x is a member of the list
abbrev pub In : {X : Type 0} → X → List X → Type 0
In x [] = ⊥
In x (y ∷ ys) = (x ≡ y) ⊎ In x ys
