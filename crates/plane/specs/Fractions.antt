-- Fractions: a whole number over a positive whole number, not reduced.
use Rattle.std.specs.Prelude.{ℕ, ◌*◌, ◌<◌, ℤ, pos, ◌+ℤ◌, ◌-ℤ◌, ◌*ℤ◌, ◌≤ℤ◌, ◌<ℤ◌, unsigned_abs}
use Rattle.std.proofs.Common.{lit<, mul-pos}

pub record Fraction : Type 0 where
  pub num : ℤ
  pub den : ℕ
  pub some : 0 < den

-- a whole number, over 1
abbrev pub whole : ℤ → Fraction
whole z = record { num = z; den = 1; some = lit< tt }

-- a/b + c/d is (a·d + c·b)/(b·d)
abbrev pub plus : Fraction → Fraction → Fraction
plus x y = record { num = (x.num *ℤ pos y.den) +ℤ (y.num *ℤ pos x.den); den = x.den * y.den; some = mul-pos x.some y.some }

-- a/b - c/d is (a·d - c·b)/(b·d)
abbrev pub minus : Fraction → Fraction → Fraction
minus x y = record { num = (x.num *ℤ pos y.den) -ℤ (y.num *ℤ pos x.den); den = x.den * y.den; some = mul-pos x.some y.some }

-- a/b · c/d is (a·c)/(b·d)
abbrev pub times : Fraction → Fraction → Fraction
times x y = record { num = x.num *ℤ y.num; den = x.den * y.den; some = mul-pos x.some y.some }

-- the magnitude |x|
abbrev pub size : Fraction → Fraction
size x = record { num = pos (unsigned_abs x.num); den = x.den; some = x.some }

-- a/b is at most c/d where a·d is at most c·b
abbrev pub AtMost : Fraction → Fraction → Type 0
AtMost x y = (x.num *ℤ pos y.den) ≤ℤ (y.num *ℤ pos x.den)

-- a/b is below c/d where a·d is below c·b
abbrev pub Less : Fraction → Fraction → Type 0
Less x y = (x.num *ℤ pos y.den) <ℤ (y.num *ℤ pos x.den)

abbrev pub Positive : Fraction → Type 0
Positive x = pos 0 <ℤ x.num

abbrev pub Negative : Fraction → Type 0
Negative x = x.num <ℤ pos 0
