-- What becomes of an envelope when a held reading becomes a corner, and which three may be the first corners.
use Rattle.std.specs.Prelude.{ℕ, ◌<◌, ◌≢◌, slice_set}
use Rattle.rules.specs.declared.standing.Standing.TheVariants.{Corner}
use Rattle.rules.specs.Envelopes.{Envelope}
use Rattle.rules.specs.Placing.{turned, placed, retired, from_lowest}
use Rattle.rules.specs.Trying.{all_inside}
use Rattle.envelope.specs.declared.run.Run.{Run}

abbrev pub with_corner : {R : Type 0} → Envelope R → ℕ → Run → Envelope R
with_corner e k run =
    let ring = turned run.start e.ring in
    record {
      readings = e.readings;
      standings = all_inside (retired run.rights ring) (slice_set e.standings k Corner);
      ring = from_lowest (placed run.rights ring k);
    }

-- three different numbers below n, of which the first is the lowest
pub record Three (n a b c : ℕ) : Type 0 where
  pub lowest : (a < b) × (a < c)
  pub apart : b ≢ c
  pub second : b < n
  pub third : c < n
