-- What a coefficient must satisfy for its allowance to cover every error.
use Rattle.std.proofs.Common.{ℕ, ◌+◌, ◌*◌, ◌^◌, ◌≤◌, pos, refl, inr, le_trans, le_of_eq, mul-le-mul_right, mul_assoc, lit<, lit≤}
use native.Mathlib.Nat.{le_of_mul-le-mul_left}
use lib.Ieee.{Float, binary64, of_bits}
use Rattle.orientation.proofs.Near.{U, V}
use Rattle.orientation.proofs.Units.{K, Val}
use Rattle.orientation.proofs.Ranges.{Sized}

-- k is c units, at most 1
pub record Coefficient (k : Float) : Type 0 where
  pub c : ℕ
  pub is : Val k (pos c)
  pub small : c ≤ K
  -- (1 + u)(5u + 4u² + u³) ≤ (c / K) (1 - u)^5, multiplied out
  pub enough : (U + 1) * (5 * U * U + 4 * U + 1) * U * K ≤ V * V * V * V * V * c

-- which makes it at least 2^-51
least : {k : Float} (f : Coefficient k) → K ≤ 2 ^ 51 * f.c
least f =
    let low : 2 ^ 214 * K ≤ _ = le_trans (mul-le-mul_right K (lit≤ tt)) f.enough in
    let high : _ ≤ 2 ^ 265 * f.c = mul-le-mul_right f.c (lit≤ tt) in
    le_of_mul-le-mul_left {k = 2 ^ 214} (le_trans low (le_trans high (le_of_eq (mul_assoc (2 ^ 214) (2 ^ 51) f.c)))) (lit< tt)

pub coefficient_sized : {k : Float} (f : Coefficient k) → Sized 1023 1074 f.c
unfolding K
coefficient_sized f = record { low = inr (le_of_mul-le-mul_left {k = 2 ^ 51} (least f) (lit< tt)); high = f.small }

-- 6 · 2^-53
pub six : Coefficient (of_bits binary64 0x3cc8_0000_0000_0000)
unfolding of_bits K
six = record { c = 6 * 2 ^ 1021; is = refl; small = lit≤ tt; enough = lit≤ tt }
