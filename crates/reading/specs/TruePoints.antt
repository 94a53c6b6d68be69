-- The true points that a reading stands for.
use Rattle.std.specs.Prelude.{ℕ, ◌*◌, ◌^◌, true, false, ℤ, pos, ◌+ℤ◌, ◌-ℤ◌, neg_ℤ, Float}
use Rattle.std.specs.Float.{nan, inf, fin}
use Rattle.std.specs.Float.Ieee.{up, down}
use Rattle.std.specs.Float.Ieee.Fits.{down_pos}
use Rattle.plane.specs.Fractions.{Fraction, whole, minus, times, size, AtMost}
use Rattle.plane.specs.Points.{Point}

-- the number that a finite binary64 value is: ±m · 2^e; what is not finite is never logged, and counts as 0 here
abbrev pub value_of : Float → Fraction
value_of nan = whole (pos 0)
value_of (inf s) = whole (pos 0)
value_of (fin false m e) = record { num = pos (m * up e); den = down e; some = down_pos e }
value_of (fin true m e) = record { num = neg_ℤ (pos (m * up e)); den = down e; some = down_pos e }

-- a logged number v stands for t where 2^53 · |t - v| ≤ |v|: at least all that rounds to v, and zero for zero alone
abbrev pub LoggedNumber : Float → Fraction → Type 0
LoggedNumber v t = AtMost (times (whole (pos (2 ^ 53))) (size (minus t (value_of v)))) (size (value_of v))

-- a dipped number v of tolerance h stands for t where v - h ≤ t ≤ v + h
abbrev pub DippedNumber : ℤ → ℕ → Fraction → Type 0
DippedNumber v h t = AtMost (whole (v -ℤ pos h)) t × AtMost t (whole (v +ℤ pos h))

abbrev pub LoggedPoint : Float → Float → Point → Type 0
LoggedPoint level head p = LoggedNumber level p.level × LoggedNumber head p.head

abbrev pub DippedPoint : ℤ → ℕ → ℤ → ℕ → Point → Type 0
DippedPoint level level_tolerance head head_tolerance p = DippedNumber level level_tolerance p.level × DippedNumber head head_tolerance p.head

-- the recorded point itself is one of them
abbrev pub logged_sample : Float → Float → Point
logged_sample level head = record { level = value_of level; head = value_of head }

abbrev pub dipped_sample : ℤ → ℤ → Point
dipped_sample level head = record { level = whole level; head = whole head }
