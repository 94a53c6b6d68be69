-- The area of true points has the sign of the recorded points' area, where that is clear.
use Rattle.std.proofs.Common.{◌≡◌, ℕ, ◌+◌, ◌*◌, ◌<◌, ◌≤◌, [], ◌∷◌, ℤ, pos, ◌-ℤ◌, ◌*ℤ◌, neg_ℤ, nat_abs, ◌<ℤ◌, subst, mul-pos, arith}
use borrow.Author.Differences.{ints}
use Rattle.plane.specs.Whole.{WholePoint, area}
use Rattle.plane.proofs.Integers.{abs_mul}
use Rattle.plane.proofs.Ring.{var, num, minus, ◌⊖◌, ◌⊗◌, ring}
use Rattle.plane.proofs.Signs.{mul_positive, factor_positive, factor_negative}
use Rattle.orientation.proofs.Near.{U, Near, size_of}
use Rattle.orientation.proofs.ErrorBound.{product_gap, Clear, mass}

abbrev pub NearPoint : WholePoint → WholePoint → Type 0
NearPoint A a = Near A.level a.level × Near A.head a.head

-- ---- how far the area moves
gap_moves : (x z x' z' : ℤ) → Near x' x → Near z' z → U * nat_abs ((x' -ℤ z') -ℤ (x -ℤ z)) ≤ nat_abs x + nat_abs z
gap_moves x z x' z' h k = omega (arith, ints)

apart : (p q r s : ℤ) (m n : ℕ) → U * U * nat_abs (p -ℤ r) ≤ (2 * U + 1) * m → U * U * nat_abs (q -ℤ s) ≤ (2 * U + 1) * n → U * U * nat_abs ((p -ℤ q) -ℤ (r -ℤ s)) ≤ (2 * U + 1) * (m + n)
apart p q r s m n h k = omega (arith, ints)

area_moves : (A B C a b c : WholePoint) → NearPoint A a → NearPoint B b → NearPoint C c → U * U * nat_abs (area A B C -ℤ area a b c) ≤ (2 * U + 1) * mass a b c
area_moves A B C a b c α β γ =
    apart ((A.level -ℤ C.level) *ℤ (B.head -ℤ C.head)) ((B.level -ℤ C.level) *ℤ (A.head -ℤ C.head)) ((a.level -ℤ c.level) *ℤ (b.head -ℤ c.head)) ((b.level -ℤ c.level) *ℤ (a.head -ℤ c.head)) _ _
    (product_gap (A.level -ℤ C.level) (a.level -ℤ c.level) (B.head -ℤ C.head) (b.head -ℤ c.head) _ _ (gap_moves _ _ _ _ α.0 γ.0) (gap_moves _ _ _ _ β.1 γ.1) (size_of a.level c.level) (size_of b.head c.head))
    (product_gap (B.level -ℤ C.level) (b.level -ℤ c.level) (A.head -ℤ C.head) (a.head -ℤ c.head) _ _ (gap_moves _ _ _ _ β.0 γ.0) (gap_moves _ _ _ _ α.1 γ.1) (size_of b.level c.level) (size_of a.head c.head))

-- ---- k times as large
abbrev pub larger : ℕ → WholePoint → WholePoint
larger k a = record { level = a.level *ℤ pos k; head = a.head *ℤ pos k }

over : (n : ℕ) → 0 < n → pos 0 <ℤ pos n
over n h = omega (arith, ints)

area_larger : (k : ℕ) (a b c : WholePoint) → area (larger k a) (larger k b) (larger k c) ≡ area a b c *ℤ pos (k * k)
area_larger k a b c = ring (pos k ∷ a.level ∷ a.head ∷ b.level ∷ b.head ∷ c.level ∷ c.head ∷ [])
    ((var 1 ⊗ var 0 ⊖ var 5 ⊗ var 0) ⊗ (var 4 ⊗ var 0 ⊖ var 6 ⊗ var 0) ⊖ (var 3 ⊗ var 0 ⊖ var 5 ⊗ var 0) ⊗ (var 2 ⊗ var 0 ⊖ var 6 ⊗ var 0))
    (((var 1 ⊖ var 5) ⊗ (var 4 ⊖ var 6) ⊖ (var 3 ⊖ var 5) ⊗ (var 2 ⊖ var 6)) ⊗ (var 0 ⊗ var 0)) tt

mass_larger : (k : ℕ) (a b c : WholePoint) → mass (larger k a) (larger k b) (larger k c) ≡ mass a b c * (k * k)
mass_larger k a b c = simp abs_mul (omega arith)

clear_larger : (k : ℕ) {r : ℤ} {m : ℕ} → 0 < k → Clear r m → Clear (r *ℤ pos k) (m * k)
clear_larger k {r} {m} K h = record {
  above = subst (λ z. pos 0 <ℤ z)
      (ring (r ∷ pos m ∷ pos k ∷ []) ((num (pos (U * U)) ⊗ var 0 ⊖ num (pos (2 * U + 1)) ⊗ var 1) ⊗ var 2) (num (pos (U * U)) ⊗ (var 0 ⊗ var 2) ⊖ num (pos (2 * U + 1)) ⊗ (var 1 ⊗ var 2)) tt)
      (mul_positive _ _ h.above (over k K));
}

-- ---- the sign
left_kept : (R r : ℤ) (m : ℕ) → U * U * nat_abs (R -ℤ r) ≤ (2 * U + 1) * m → Clear r m → pos 0 <ℤ R
left_kept R r m h c = omega (arith, ints)

right_kept : (R r : ℤ) (m : ℕ) → U * U * nat_abs (R -ℤ r) ≤ (2 * U + 1) * m → Clear (neg_ℤ r) m → R <ℤ pos 0
right_kept R r m h c = omega (arith, ints)

-- A, B and C, k times as large, are near a, b and c, d times as large
module _ (k d : ℕ) (A B C a b c : WholePoint) (K : 0 < k) (D : 0 < d) (α : NearPoint (larger k A) (larger d a)) (β : NearPoint (larger k B) (larger d b)) (γ : NearPoint (larger k C) (larger d c)) where
  moves : U * U * nat_abs (area A B C *ℤ pos (k * k) -ℤ area a b c *ℤ pos (d * d)) ≤ (2 * U + 1) * (mass a b c * (d * d))
  moves = simp (area_larger, mass_larger) at (area_moves _ _ _ _ _ _ α β γ)

  pub true_left : Clear (area a b c) (mass a b c) → pos 0 <ℤ area A B C
  true_left h = factor_positive (area A B C) (pos (k * k)) (left_kept _ _ _ moves (clear_larger (d * d) (mul-pos D D) h)) (over (k * k) (mul-pos K K))

  pub true_right : Clear (neg_ℤ (area a b c)) (mass a b c) → area A B C <ℤ pos 0
  true_right h = factor_negative (area A B C) (pos (k * k))
      (right_kept _ (area a b c *ℤ pos (d * d)) _ moves (subst (λ z. Clear z (mass a b c * (d * d))) (ring (area a b c ∷ pos (d * d) ∷ []) (minus (var 0) ⊗ var 1) (minus (var 0 ⊗ var 1)) tt) (clear_larger (d * d) (mul-pos D D) h)))
      (over (k * k) (mul-pos K K))
