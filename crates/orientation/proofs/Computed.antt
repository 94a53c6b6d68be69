-- The rounded results of three points in range: no step underflows or overflows.
use Rattle.std.proofs.Common.{ℕ, suc, ◌+◌, ◌*◌, ◌^◌, ◌<◌, ◌≤◌, ℤ, pos, negsuc, ◌-ℤ◌, ◌*ℤ◌, neg_ℤ, nat_abs, sym, subst, le_trans, le_refl, zero-lt-suc, add-mul, mul-pos, arith, lit≤}
use lib.Ieee.{Float}
use borrow.Author.Differences.{ints}
use Rattle.plane.proofs.Integers.{abs_mul}
use Rattle.orientation.specs.Filter.{◌⊕◌, ◌⊖◌, ◌⊗◌, ∣◌∣, difference, weight, allowance}
use Rattle.orientation.proofs.Near.{Near, gap_times, size_of}
use Rattle.orientation.proofs.Units.{K, K_some, Val, size_val}
use Rattle.orientation.proofs.Ranges.{Sized, sized_wider, sized_multiple, sized_over, sized_sum, sized_product, sized_near}
use Rattle.orientation.proofs.Operations.{Rounded, add_near, sub_near, mul_near}
use Rattle.orientation.proofs.Results.{Results}
use Rattle.orientation.proofs.Coefficients.{Coefficient, coefficient_sized}
use Rattle.orientation.proofs.Grains.{G, Grains, units, PointGrains, point}

-- x is v units, zero or from 2^l to 2^h in size
record Known (l h : ℕ) (x : Float) (v : ℤ) : Type 0 where
  val : Val x v
  sized : Sized l h (nat_abs v)

-- ---- rounded from what is not negative
never : {m n : ℕ} → 0 < m → Near (neg_ℤ (pos m)) (pos n) → ⊥
never M h = omega (arith, ints)

natural : {l h n : ℕ} {x : Float} {v : ℤ} → Known l h x v → Near v (pos n) → (m : ℕ) × Known l h x (pos m) × Near (pos m) (pos n)
natural {v = pos m} k h = (m, k, h)
natural {v = negsuc m} k h = absurd (never (zero-lt-suc m) h)

natural_product : {l h n : ℕ} {x : Float} {v : ℤ} → Known l h x v → Near (v *ℤ pos K) (pos n) → (m : ℕ) × Known l h x (pos m) × Near (pos (m * K)) (pos n)
natural_product {v = pos m} k h = (m, k, h)
natural_product {v = negsuc m} k h = absurd (never (mul-pos (zero-lt-suc m) K_some) h)

-- ---- a difference or a sum of two logged numbers
sum_known : {l h : ℕ} {x : Float} {e : ℤ} (r : Rounded x e) → Sized (suc l) h (nat_abs e) → Known l (suc h) x r.v
sum_known r s = record { val = r.val; sized = sized_near r.near s }

module _ {x y : Float} (a : Grains x) (b : Grains y) where
  gap_sized : Sized 1002 1095 (nat_abs (units a -ℤ units b))
  unfolding G
  gap_sized = simp gap_times (sized_multiple 1002 93 (nat_abs (a.i -ℤ b.i)) (apart a.i b.i a.few b.few))
    where
      apart : (i j : ℤ) → nat_abs i ≤ 2 ^ 92 → nat_abs j ≤ 2 ^ 92 → nat_abs (i -ℤ j) ≤ 2 ^ 93
      apart i j p q = omega (arith, ints)

  total_sized : Sized 1002 1095 (nat_abs (units a) + nat_abs (units b))
  unfolding G
  total_sized = simp (abs_mul, ← add-mul) (sized_multiple 1002 93 (nat_abs a.i + nat_abs b.i) (together (nat_abs a.i) (nat_abs b.i) a.few b.few))
    where
      together : (i j : ℕ) → i ≤ 2 ^ 92 → j ≤ 2 ^ 92 → i + j ≤ 2 ^ 93
      together i j p q = omega arith

  gap : (v : ℤ) × Known 1001 1096 (x ⊖ y) v × Near v (units a -ℤ units b)
  gap = let r = sub_near x y (units a) (units b) a.is b.is (le_trans gap_sized.high (lit≤ tt)) in (r.v, sum_known r gap_sized, r.near)

  total : (m : ℕ) × Known 1001 1096 (∣ x ∣ ⊕ ∣ y ∣) (pos m) × Near (pos m) (pos (nat_abs (units a) + nat_abs (units b)))
  total = let r = add_near ∣ x ∣ ∣ y ∣ _ _ (size_val x (units a) a.is) (size_val y (units b) b.is) (le_trans total_sized.high (lit≤ tt)) in natural (sum_known r total_sized) r.near

-- ---- a product
product_known : (l h : ℕ) (x y : Float) (v w : ℤ) → Val x v → Val y w → Sized (suc (l + 1074)) (h + 1074) (nat_abs v * nat_abs w) → 1126 ≤ suc (l + 1074) → h + 1074 ≤ 3170
    → (u : ℤ) × Known l (suc h) (x ⊗ y) u × Near (u *ℤ pos K) (v *ℤ w)
unfolding K
product_known l h x y v w p q s i j =
    let t = subst (λ n. Sized (suc (l + 1074)) (h + 1074) n) (sym (abs_mul v w)) s in
    let r = mul_near x y v w p q (sized_wider i j t) in
    let wider : suc (h + 1074) ≤ suc h + 1074 = omega arith in
    (r.v, record { val = r.val; sized = sized_over 1074 (subst (λ n. Sized (l + 1074) (suc h + 1074) n) (abs_mul r.v (pos K)) (sized_wider (le_refl _) wider (sized_near r.near t))) }, r.near)

module _ {x y : Float} where
  product : {v w : ℤ} → Known 1001 1096 x v → Known 1001 1096 y w → (u : ℤ) × Known 927 1119 (x ⊗ y) u × Near (u *ℤ pos K) (v *ℤ w)
  product {v} {w} a b = product_known 927 1118 x y v w a.val b.val (sized_product a.sized b.sized) (lit≤ tt) (lit≤ tt)

  weight_product : {m n : ℕ} → Known 1001 1096 x (pos m) → Known 1001 1096 y (pos n) → (u : ℕ) × Known 927 1119 (x ⊗ y) (pos u) × Near (pos (u * K)) (pos (m * n))
  weight_product a b = let r = product a b in natural_product r.1 r.2

  -- ---- D, T and E
  difference_known : {v w : ℤ} → Known 927 1119 x v → Known 927 1119 y w → Rounded (x ⊖ y) (v -ℤ w)
  difference_known {v} {w} a b = sub_near x y v w a.val b.val (le_trans (size_of v w) (le_trans (sized_sum a.sized b.sized).high (lit≤ tt)))

  weight_known : {m n : ℕ} → Known 927 1119 x (pos m) → Known 927 1119 y (pos n) → (t : ℕ) × Known 926 1121 (x ⊕ y) (pos t) × Near (pos t) (pos (m + n))
  weight_known {m} {n} a b =
      let s = sized_sum a.sized b.sized in
      let r = add_near x y (pos m) (pos n) a.val b.val (le_trans s.high (lit≤ tt)) in
      natural (sum_known r s) r.near

  allowance_known : {t : ℕ} (f : Coefficient x) → Known 926 1121 y (pos t) → (n : ℕ) × Known 874 1122 (x ⊗ y) (pos n) × Near (pos (n * K)) (pos (f.c * t))
  allowance_known {t} f a =
      let r = product_known 874 1121 x y (pos f.c) (pos t) f.is a.val (sized_product (coefficient_sized f) a.sized) (lit≤ tt) (lit≤ tt) in
      natural_product r.1 r.2

-- ---- all of them
pub results : {k : Float} (f : Coefficient k) (a b c : Float × Float) (α : PointGrains a) (β : PointGrains b) (γ : PointGrains c) → Results (point α) (point β) (point γ) f.c (difference a b c) (weight a b c) (allowance k a b c)
unfolding difference weight allowance
results {k} f a b c α β γ =
    let p = gap α.0 γ.0 in
    let q = gap β.1 γ.1 in
    let r = gap β.0 γ.0 in
    let s = gap α.1 γ.1 in
    let w₁ = product p.1 q.1 in
    let w₂ = product r.1 s.1 in
    let d = difference_known w₁.1 w₂.1 in
    let P = total α.0 γ.0 in
    let Q = total β.1 γ.1 in
    let R = total β.0 γ.0 in
    let S = total α.1 γ.1 in
    let W₁ = weight_product P.1 Q.1 in
    let W₂ = weight_product R.1 S.1 in
    let T = weight_known W₁.1 W₂.1 in
    let E = allowance_known f T.1 in
    record {
      p = p.0;
      q = q.0;
      r = r.0;
      s = s.0;
      w₁ = w₁.0;
      w₂ = w₂.0;
      D = d.v;
      near_p = p.2;
      near_q = q.2;
      near_r = r.2;
      near_s = s.2;
      near_w₁ = w₁.2;
      near_w₂ = w₂.2;
      near_D = d.near;
      P = P.0;
      Q = Q.0;
      R = R.0;
      S = S.0;
      W₁ = W₁.0;
      W₂ = W₂.0;
      T = T.0;
      E = E.0;
      near_P = P.2;
      near_Q = Q.2;
      near_R = R.2;
      near_S = S.2;
      near_W₁ = W₁.2;
      near_W₂ = W₂.2;
      near_T = T.2;
      near_E = E.2;
      is_D = d.val;
      is_T = T.1.val;
      is_E = E.1.val;
    }
