-- What holds at both ends of a coordinate holds of the span of both.
use Rattle.std.proofs.Common.{◌≡◌, ℤ, ◌∙◌, ap₂, subst}
use Rattle.std.specs.Int.{int_min, int_max}
use Rattle.judge.specs.declared.span.Span.{Span}
use Rattle.judge.specs.Dips.{Coordinate, low, high}
use Rattle.judge.specs.Corner.{ends}
use Rattle.judge.specs.Spans.{IsSpan}

-- the code's coordinate z is x
module _ (x z : Coordinate) (is : z ≡ x) where
  pub swept_ends : (f : (ℤ → ℤ → ℤ) → ℤ → ℤ) (p q r : Span) → IsSpan (λ pick. f pick (low z)) p → IsSpan (λ pick. f pick (high z)) q → r.least ≡ int_min p.least q.least → r.greatest ≡ int_max p.greatest q.greatest → IsSpan (λ pick. ends pick x (f pick)) r
  swept_ends f p q r l u e g = subst (λ z. IsSpan (λ pick. ends pick z (f pick)) r) is (e ∙ ap₂ int_min l.0 u.0, g ∙ ap₂ int_max l.1 u.1)
