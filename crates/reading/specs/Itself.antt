-- What is recorded is among what it stands for.
use Rattle.std.specs.Prelude.{◌≡◌, ℕ, ◌*◌, ◌^◌, ◌≤◌, ℤ, pos, ◌-ℤ◌, ◌*ℤ◌, unsigned_abs}
use Rattle.std.proofs.Common.{ap, arith, le→leb}
use Rattle.std.specs.Int.Signed.{le_z_yes}
use Rattle.std.proofs.lemmas.Int.{ints}
use Rattle.plane.specs.Fractions.{Fraction, whole, minus, times, size, AtMost}
use Rattle.reading.specs.TruePoints.{DippedNumber}

none : (z : ℤ) → unsigned_abs (z -ℤ z) ≡ 0
none z = ap unsigned_abs e
  where
    e : z -ℤ z ≡ pos 0
    e = omega (arith, ints)

-- 2^53 · |x - x| ≤ |x|
pub no_distance : (x : Fraction) → AtMost (times (whole (pos (2 ^ 53))) (size (minus x x))) (size x)
no_distance x = le_z_yes (le→leb _ _ (few (unsigned_abs x.num * (1 * (x.den * x.den))) x.den _ (none (x.num *ℤ pos x.den))))
  where
    few : (z d n : ℕ) → n ≡ 0 → 2 ^ 53 * n * d ≤ z
    few z d n e = rw e (omega arith)

pub within : (v : ℤ) (h : ℕ) → DippedNumber v h (whole v)
within v h = (omega (arith, ints), omega (arith, ints))
