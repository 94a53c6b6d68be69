-- Trying a held reading, a pass over the held readings, and passes until one settles nothing.
use Rattle.std.specs.Prelude.{ℕ, zero, suc, ◌+◌, Bool, true, false, cond, List, [], ◌∷◌, ◌==◌, slice_index_or, slice_set}
use Rattle.judge.specs.declared.word.Word.{Word}
use Rattle.rules.specs.declared.standing.Standing.{Standing}
use Rattle.rules.specs.declared.standing.Standing.TheVariants.{Corner, Inside, Held}
use Rattle.rules.specs.Envelopes.{Envelope}
use Rattle.rules.specs.Asking.{asked, all_left, some_undecided}
use Rattle.rules.specs.Placing.{rights, run_start, turned, placed, retired, from_lowest}

-- what the words on all sides make of a reading: inside where all say left, held where one is undecided, else a corner; without a ring nothing is tried
abbrev pub verdict : List Word → Standing
verdict ws = cond (all_left ws) Inside (cond (some_undecided ws) Held Corner)

-- each of these readings becomes inside
abbrev pub all_inside : List ℕ → List Standing → List Standing
all_inside [] st = st
all_inside (i ∷ is) st = all_inside is (slice_set st i Inside)

-- the envelope after reading k was tried, by the verdict and the words
abbrev pub judged : {R : Type 0} → Standing → Envelope R → ℕ → List Word → Envelope R
judged Inside e k ws = record { readings = e.readings; standings = slice_set e.standings k Inside; ring = e.ring }
judged Held e k ws = e
judged Corner e k ws =
    let ring = turned (run_start ws) e.ring in
    record {
      readings = e.readings;
      standings = all_inside (retired (rights ws) ring) (slice_set e.standings k Corner);
      ring = from_lowest (placed (rights ws) ring k);
    }

abbrev pub is_held : Standing → Bool
is_held Corner = false
is_held Inside = false
is_held Held = true

-- reading k, which is x, is tried where it is held
abbrev pub tried : {R : Type 0} → (R → R → R → Word) → Envelope R → ℕ → R → Envelope R
tried word e k x = cond (is_held (slice_index_or e.standings k Corner)) (judged (verdict (asked word e x)) e k (asked word e x)) e

-- the readings from number k on are tried, in rising number
abbrev pub pass : {R : Type 0} → (R → R → R → Word) → List R → ℕ → Envelope R → Envelope R
pass word [] k e = e
pass word (x ∷ xs) k e = pass word xs (k + 1) (tried word e k x)

abbrev pub held_count : List Standing → ℕ
held_count [] = 0
held_count (s ∷ st) = cond (is_held s) (suc (held_count st)) (held_count st)

-- passes until one settles nothing, at most n
abbrev pub passes : {R : Type 0} → (R → R → R → Word) → ℕ → Envelope R → Envelope R
passes word zero e = e
passes word (suc n) e = let f = pass word e.readings 0 e in cond (held_count f.standings == held_count e.standings) f (passes word n f)
