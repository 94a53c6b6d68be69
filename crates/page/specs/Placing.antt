-- Text in lent memory.
use Rattle.std.specs.Prelude.{ℕ, cond, List, ◌++◌, length, drop, Ok, Err, Result, nat_le}
use Rattle.reading.specs.declared.cause.Cause.{Cause}
use Rattle.reading.specs.declared.cause.Cause.TheVariants.{OutputMemory}

-- what a call answers, and the memory after it
pub record Outcome : Type 0 where
  pub answer : Result ℕ Cause
  pub memory : List ℕ

abbrev pub came : Result ℕ Cause → List ℕ → Outcome
came a m = record { answer = a; memory = m }

-- a text that fits stands at the front, before what was beyond it; one that does not changes nothing
unfoldable pub paged : List ℕ → List ℕ → Outcome
paged text out = cond (nat_le (length text) (length out)) (came (Ok (length text)) (text ++ drop (length text) out)) (came (Err OutputMemory) out)
