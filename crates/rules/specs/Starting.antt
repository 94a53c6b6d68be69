-- The start search: the first three readings, in order of arrival, that the judge decides.
use Rattle.std.specs.Prelude.{ℕ, ◌+◌, List, [], ◌∷◌, Some, None, Option, slice_set}
use Rattle.judge.specs.declared.word.Word.{Word}
use Rattle.judge.specs.declared.word.Word.TheVariants.{Left, Right, Undecided}
use Rattle.rules.specs.declared.standing.Standing.TheVariants.{Corner}
use Rattle.rules.specs.Envelopes.{Envelope}

-- the three counterclockwise, if the judge decides
abbrev pub counterclockwise : Word → ℕ → ℕ → ℕ → Option (ℕ × ℕ × ℕ)
counterclockwise Left a b c = Some (a, b, c)
counterclockwise Right a b c = Some (a, c, b)
counterclockwise Undecided a b c = None

abbrev pub or_next : {X : Type 0} → Option X → Option X → Option X
or_next (Some t) next = Some t
or_next None next = next

module _ {R : Type 0} (word : R → R → R → Word) where
  -- of reading a, which is x, reading b, which is y, and the readings from number c on
  abbrev pub third_from : R → R → ℕ → ℕ → ℕ → List R → Option (ℕ × ℕ × ℕ)
  third_from x y a b c [] = None
  third_from x y a b c (z ∷ zs) = or_next (counterclockwise (word x y z) a b c) (third_from x y a b (c + 1) zs)

  abbrev pub second_from : R → ℕ → ℕ → List R → Option (ℕ × ℕ × ℕ)
  second_from x a b [] = None
  second_from x a b (y ∷ ys) = or_next (third_from x y a b (b + 1) ys) (second_from x a (b + 1) ys)

  abbrev pub first_from : ℕ → List R → Option (ℕ × ℕ × ℕ)
  first_from a [] = None
  first_from a (x ∷ xs) = or_next (second_from x a (a + 1) xs) (first_from (a + 1) xs)

-- the ring of three
abbrev pub started : {R : Type 0} → Envelope R → Option (ℕ × ℕ × ℕ) → Envelope R
started e None = e
started e (Some t) = record {
  readings = e.readings;
  standings = slice_set (slice_set (slice_set e.standings t.0 Corner) t.1 Corner) t.2 Corner;
  ring = t.0 ∷ t.1 ∷ t.2 ∷ [];
}
