-- The corner judge's word on three dips.
use Rattle.std.specs.Prelude.{ℕ, ◌+◌, ◌*◌, ℤ, pos, ◌+ℤ◌, ◌-ℤ◌, ◌*ℤ◌, int_lt, unsigned_abs}
use Rattle.std.specs.Int.{int_min, int_max}
use Rattle.plane.specs.Whole.{area}
use Rattle.judge.specs.declared.word.Word.{Word}
use Rattle.judge.specs.Words.{worded}
use Rattle.judge.specs.Dips.{Coordinate, Dip, level, head, low, high, at}

-- f at both ends of a coordinate, and of the two the one that `pick` takes
abbrev pub ends : (ℤ → ℤ → ℤ) → Coordinate → (ℤ → ℤ) → ℤ
ends pick x f = pick (f (low x)) (f (high x))

-- the doubled areas of given heads and all 8 settings of the levels, and of them the one that `pick` takes
unfoldable pub at_heads : (ℤ → ℤ → ℤ) → Dip → Dip → Dip → ℤ → ℤ → ℤ → ℤ
at_heads pick a b c ya yb yc = ends pick (level a) (λ xa. ends pick (level b) (λ xb. ends pick (level c) (λ xc. area (at xa ya) (at xb yb) (at xc yc))))

-- in closed form the least of them is middle - reach, and the greatest middle + reach: the doubled area at the levels' centres, and how far the levels' tolerances move it
abbrev pub middle : Dip → Dip → Dip → ℤ → ℤ → ℤ → ℤ
middle a b c ya yb yc = a.0 *ℤ (yb -ℤ yc) +ℤ b.0 *ℤ (yc -ℤ ya) +ℤ c.0 *ℤ (ya -ℤ yb)

abbrev pub reach : Dip → Dip → Dip → ℤ → ℤ → ℤ → ℕ
reach a b c ya yb yc = a.1 * unsigned_abs (yb -ℤ yc) + b.1 * unsigned_abs (yc -ℤ ya) + c.1 * unsigned_abs (ya -ℤ yb)

-- of both ends of the third head too, and of the second
unfoldable pub over_third : (ℤ → ℤ → ℤ) → Dip → Dip → Dip → ℤ → ℤ → ℤ
over_third pick a b c ya yb = ends pick (head c) (λ yc. at_heads pick a b c ya yb yc)

unfoldable pub over_second : (ℤ → ℤ → ℤ) → Dip → Dip → Dip → ℤ → ℤ
over_second pick a b c ya = ends pick (head b) (λ yb. over_third pick a b c ya yb)

-- of all 64 settings of the six coordinates
unfoldable pub swept : (ℤ → ℤ → ℤ) → Dip → Dip → Dip → ℤ
swept pick a b c = ends pick (head a) (λ ya. over_second pick a b c ya)

abbrev pub least : Dip → Dip → Dip → ℤ
least = swept int_min

abbrev pub greatest : Dip → Dip → Dip → ℤ
greatest = swept int_max

-- left where the least is positive, right where the greatest is negative
abbrev pub corner_word : Dip → Dip → Dip → Word
corner_word a b c = worded (int_lt (pos 0) (least a b c)) (int_lt (greatest a b c) (pos 0))
