-- What an envelope holds, and what is read off it.
use Rattle.std.specs.Prelude.{ℕ, cond, List, [], length, Ok, Err, Result, nat_lt, slice_index, slice_index_or}
use Rattle.reading.specs.declared.cause.Cause.{Cause}
use Rattle.reading.specs.declared.cause.Cause.TheVariants.{NoSuchReading, NoSuchCorner}
use Rattle.rules.specs.declared.standing.Standing.{Standing}
use Rattle.rules.specs.declared.standing.Standing.TheVariants.{Held}

-- the readings in order of arrival, their standings, and the corners' numbers counterclockwise, read from the lowest
pub record Envelope (R : Type 0) : Type 0 where
  pub readings : List R
  pub standings : List Standing
  pub ring : List ℕ

abbrev pub empty : {R : Type 0} → Envelope R
empty = record { readings = []; standings = []; ring = [] }

-- the standing of the reading of a number
abbrev pub standing_at : {R : Type 0} → Envelope R → ℕ → Result Standing Cause
standing_at e i = cond (nat_lt i (length e.standings)) (Ok (slice_index_or e.standings i Held)) (Err NoSuchReading)

-- the number of the corner at a position of the ring
abbrev pub corner_at : {R : Type 0} → Envelope R → ℕ → Result ℕ Cause
corner_at e p = cond (nat_lt p (length e.ring)) (Ok (slice_index e.ring p)) (Err NoSuchCorner)
