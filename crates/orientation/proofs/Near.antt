-- What it is for a whole number to be within 1/2^53 of another.
use Rattle.std.proofs.Common.{◌≡◌, ℕ, ◌+◌, ◌-◌, ◌*◌, ◌^◌, ◌<◌, ◌≤◌, [], ◌∷◌, ℤ, pos, ◌-ℤ◌, ◌*ℤ◌, nat_abs, sym, ap, ◌∙◌, le_trans, le_of_eq, mul-le-mul_right, mul_assoc, le_of_mul-le-mul_right, arith}
use borrow.Author.Differences.{ints}
use Rattle.plane.proofs.Integers.{abs_mul}
use Rattle.plane.proofs.Ring.{var, ◌⊖◌, ◌⊗◌, ring}

-- u is 1/U, and 1 - u is V/U
abbrev pub U : ℕ
U = 2 ^ 53

abbrev pub V : ℕ
V = U - 1

-- v is e but for 1/U of it
pub record Near (v e : ℤ) : Type 0 where
  pub within : U * nat_abs (v -ℤ e) ≤ nat_abs e

-- ---- a factor on both sides
pub gap_times : (v e : ℤ) (k : ℕ) → nat_abs (v *ℤ pos k -ℤ e *ℤ pos k) ≡ nat_abs (v -ℤ e) * k
gap_times v e k = ap nat_abs (ring (v ∷ e ∷ pos k ∷ []) (var 0 ⊗ var 2 ⊖ var 1 ⊗ var 2) ((var 0 ⊖ var 1) ⊗ var 2) tt) ∙ abs_mul (v -ℤ e) (pos k)

pub near_times : {v e : ℤ} (k : ℕ) → Near v e → Near (v *ℤ pos k) (e *ℤ pos k)
near_times {v} {e} k n = record { within = simp (gap_times v e k, abs_mul e (pos k)) (le_trans (le_of_eq (sym (mul_assoc U (nat_abs (v -ℤ e)) k))) (mul-le-mul_right k n.within)) }

pub near_over : {v e : ℤ} (k : ℕ) → 0 < k → Near (v *ℤ pos k) (e *ℤ pos k) → Near v e
near_over {v} {e} k K n = record { within = le_of_mul-le-mul_right (le_trans (le_of_eq (mul_assoc U (nat_abs (v -ℤ e)) k)) (simp (gap_times v e k, abs_mul e (pos k)) at n.within)) K }

-- ---- a difference is at most both sizes
pub size_of : (x z : ℤ) → nat_abs (x -ℤ z) ≤ nat_abs x + nat_abs z
size_of x z = omega (arith, ints)
