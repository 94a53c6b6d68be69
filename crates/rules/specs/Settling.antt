-- Settling, and what enter and recheck make of an envelope.
use Rattle.std.specs.Prelude.{ℕ, suc, ◌+◌, cond, not, ◌&&◌, List, [], ◌∷◌, ◌++◌}
use Rattle.judge.specs.declared.word.Word.{Word}
use Rattle.rules.specs.declared.standing.Standing.{Standing}
use Rattle.rules.specs.declared.standing.Standing.TheVariants.{Held}
use Rattle.rules.specs.Envelopes.{Envelope}
use Rattle.rules.specs.Trying.{is_held, held_count, passes}
use Rattle.rules.specs.Starting.{first_from, started}

module _ {R : Type 0} (word : R → R → R → Word) where
  -- without a ring, the start search
  abbrev pub begun : Envelope R → List ℕ → Envelope R
  begun e [] = started e (first_from word 0 e.readings)
  begun e (a ∷ l) = e

  -- with a ring, passes; one more than there are held readings is enough
  abbrev pub continued : Envelope R → List ℕ → Envelope R
  continued e [] = e
  continued e (a ∷ l) = passes word (suc (held_count e.standings)) e

  abbrev pub settled : Envelope R → Envelope R
  settled e = let f = begun e e.ring in continued f f.ring

-- one reading more, held
abbrev pub added : {R : Type 0} → Envelope R → R → Envelope R
added e x = record { readings = e.readings ++ x ∷ []; standings = e.standings ++ Held ∷ []; ring = e.ring }

-- how many are held before and no more after
abbrev pub settled_count : List Standing → List Standing → ℕ
settled_count [] after = 0
settled_count (s ∷ before) [] = 0
settled_count (s ∷ before) (t ∷ after) = cond (is_held s && not (is_held t)) 1 0 + settled_count before after
