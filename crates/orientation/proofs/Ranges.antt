-- Bounds by powers of two on sizes that may be zero, and how they pass through sums, products and roundings.
use Rattle.std.proofs.Common.{◌≡◌, ℕ, zero, suc, ◌+◌, ◌*◌, ◌^◌, ◌<◌, ◌≤◌, ◌⊎◌, ℤ, nat_abs, sym, ap, ◌∙◌, inl, inr, le_trans, le_of_eq, mul-le-mul_right, mul-le-mul, mul-zero, zero-mul, le_of_mul-le-mul_right, arith, pow_pos, pow_mono, pow-add}
use native.Mathlib.Nat.{pow-succ'}
use borrow.Author.Differences.{ints}
use Rattle.orientation.proofs.Near.{Near}

-- n is zero, or at least 2^l; and at most 2^h
pub record Sized (l h n : ℕ) : Type 0 where
  pub low : (n ≡ 0) ⊎ (2 ^ l ≤ n)
  pub high : n ≤ 2 ^ h

pub sized_wider : {l h l' h' n : ℕ} → l' ≤ l → h ≤ h' → Sized l h n → Sized l' h' n
sized_wider i j s = record { low = elim s.low [ inl z ↦ inl z | inr b ↦ inr (le_trans (pow_mono i) b) ]; high = le_trans s.high (pow_mono j) }

pub sized_multiple : (j h n : ℕ) → n ≤ 2 ^ h → Sized j (h + j) (n * 2 ^ j)
sized_multiple j h n b = record { low = low n; high = le_trans (mul-le-mul_right (2 ^ j) b) (le_of_eq (sym (pow-add 2 h j))) }
  where
    low : (n : ℕ) → (n * 2 ^ j ≡ 0) ⊎ (2 ^ j ≤ n * 2 ^ j)
    low zero = inl (zero-mul (2 ^ j))
    low (suc n) = inr (omega arith)

pub sized_over : (k : ℕ) {l h n : ℕ} → Sized (l + k) (h + k) (n * 2 ^ k) → Sized l h n
sized_over k {l} {h} {n} s = record {
  low = elim s.low [ inl z ↦ inl (none n (2 ^ k) (pow_pos k) z) | inr b ↦ inr (le_of_mul-le-mul_right (le_trans (le_of_eq (sym (pow-add 2 l k))) b) (pow_pos k)) ];
  high = le_of_mul-le-mul_right (le_trans s.high (le_of_eq (pow-add 2 h k))) (pow_pos k);
}
  where
    none : (n t : ℕ) → 0 < t → n * t ≡ 0 → n ≡ 0
    none n t T e = omega (arith, mul-le-mul_right n T)

pub sized_sum : {l h a b : ℕ} → Sized l h a → Sized l h b → Sized l (suc h) (a + b)
sized_sum {l} {h} s t = record { low = elim s.low [ inl z ↦ elim t.low [ inl y ↦ inl (omega arith) | inr c ↦ inr (omega arith) ] | inr c ↦ inr (omega arith) ]; high = omega (arith, pow-succ' 2 h) }

pub sized_product : {l h l' h' a b : ℕ} → Sized l h a → Sized l' h' b → Sized (l + l') (h + h') (a * b)
sized_product {l} {h} {l'} {h'} {a} {b} s t = record {
  low = elim s.low [
    | inl z ↦ inl (ap (λ m. m * b) z ∙ zero-mul b)
    | inr c ↦ elim t.low [ inl z ↦ inl (ap (λ m. a * m) z ∙ mul-zero a) | inr d ↦ inr (le_trans (le_of_eq (pow-add 2 l l')) (mul-le-mul c d)) ]
  ];
  high = le_trans (mul-le-mul s.high t.high) (le_of_eq (sym (pow-add 2 h h')));
}

pub sized_near : {l h : ℕ} {v e : ℤ} → Near v e → Sized (suc l) h (nat_abs e) → Sized l (suc h) (nat_abs v)
sized_near {l} {h} {v} {e} n s = record { low = elim s.low [ inl z ↦ inl (omega (arith, ints)) | inr b ↦ inr (omega (arith, ints, pow-succ' 2 l)) ]; high = omega (arith, ints, pow-succ' 2 h) }
