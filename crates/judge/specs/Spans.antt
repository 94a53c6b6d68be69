-- The least and the greatest of some numbers.
use Rattle.std.specs.Prelude.{◌≡◌, ℤ}
use Rattle.std.specs.Int.{int_min, int_max}
use Rattle.judge.specs.declared.span.Span.{Span}
use Rattle.judge.specs.Dips.{Coordinate, low, high}

-- what f picks by the lesser and by the greater
abbrev pub IsSpan : ((ℤ → ℤ → ℤ) → ℤ) → Span → Type 0
IsSpan f r = (r.least ≡ f int_min) × (r.greatest ≡ f int_max)

-- both ends of a coordinate together, of what `at` allows at each
abbrev pub AtEnds : (ℤ → Span → Type 0) → Coordinate → Span → Type 0
AtEnds at x r = (p q : Span) × at (low x) p × at (high x) q × (r.least ≡ int_min p.least q.least) × (r.greatest ≡ int_max p.greatest q.greatest)
