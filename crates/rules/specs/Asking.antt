-- Asking a judge about every side of the ring, and locating a reading.
use Rattle.std.specs.Prelude.{ℕ, Bool, true, false, cond, List, [], ◌∷◌, slice_index_or}
use Rattle.plane.specs.Rings.{sides}
use Rattle.judge.specs.declared.word.Word.{Word}
use Rattle.judge.specs.declared.word.Word.TheVariants.{Left, Right, Undecided}
use Rattle.rules.specs.declared.location.Location.{Location}
use Rattle.rules.specs.declared.location.Location.TheVariants as location
use Rattle.rules.specs.Envelopes.{Envelope}

-- the words on sides given by their ends' numbers, with x third
abbrev pub words_of : {R : Type 0} → (R → R → R → Word) → List R → List (ℕ × ℕ) → R → List Word
words_of word rs [] x = []
words_of word rs (s ∷ ss) x = word (slice_index_or rs s.0 x) (slice_index_or rs s.1 x) x ∷ words_of word rs ss x

-- the words on all sides of the ring, in ring order
abbrev pub asked : {R : Type 0} → (R → R → R → Word) → Envelope R → R → List Word
asked word e x = words_of word e.readings (sides e.ring) x

abbrev pub all_left : List Word → Bool
all_left [] = true
all_left (Left ∷ ws) = all_left ws
all_left (Right ∷ ws) = false
all_left (Undecided ∷ ws) = false

abbrev pub some_right : List Word → Bool
some_right [] = false
some_right (Left ∷ ws) = some_right ws
some_right (Right ∷ ws) = true
some_right (Undecided ∷ ws) = some_right ws

abbrev pub some_undecided : List Word → Bool
some_undecided [] = false
some_undecided (Left ∷ ws) = some_undecided ws
some_undecided (Right ∷ ws) = some_undecided ws
some_undecided (Undecided ∷ ws) = true

-- outside where a side says right; inside where there is a ring and all its sides say left
abbrev pub location_of : List Word → Location
location_of [] = location.Undecided
location_of (w ∷ ws) = cond (some_right (w ∷ ws)) location.Outside (cond (all_left (w ∷ ws)) location.Inside location.Undecided)

abbrev pub located : {R : Type 0} → (R → R → R → Word) → Envelope R → R → Location
located word e x = location_of (asked word e x)
