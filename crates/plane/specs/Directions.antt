-- Directions: two whole numbers, u to the right and v upward.
use Rattle.std.specs.Prelude.{ℤ}
use Rattle.plane.specs.Fractions.{Fraction, whole, plus, times}
use Rattle.plane.specs.Points.{Point}

-- how far out a point lies: u·x + v·y, x being level and y head
abbrev pub reach : ℤ → ℤ → Point → Fraction
reach u v p = plus (times (whole u) p.level) (times (whole v) p.head)
