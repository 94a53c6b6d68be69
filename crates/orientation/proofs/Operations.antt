-- A rounded sum, difference or product is within 1/2^53 of the exact one, where it neither underflows nor overflows.
use Rattle.std.proofs.Common.{◌≡◌, ℕ, zero, suc, ◌+◌, ◌-◌, ◌*◌, ◌^◌, ◌<◌, ◌≤◌, Bool, true, false, ◌⊎◌, [], ◌∷◌, ℤ, pos, negsuc, ◌+ℤ◌, ◌-ℤ◌, ◌*ℤ◌, neg_ℤ, nat_abs, sym, refl, ap, ◌∙◌, subst, ap₂, inl, inr, lt_of_le_of_lt, mul-le-mul_right, zero-lt-suc, lt_of_mul-lt-mul_right, mul-le-mul_left, mul-pos, zero-mul, mul-one, arith, lit<}
use lib.Ieee.{Float, nan, inf, fin, binary64, up, down, unlike, round, sum, add, sub, mul, neg}
use lib.Ieee.Exact.{HasValue, units_val}
use lib.Ieee.Fits.{down_pos, round_is}
use lib.Ieee.Order.{drop, kept}
use lib.Ieee.Scale.{round_same}
use borrow.Author.Differences.{ints}
use Rattle.std.proofs.lemmas.Bool.Decides.{leb_tells}
use Rattle.plane.proofs.Integers.{abs_mul}
use Rattle.plane.proofs.Ring.{var, ◌⊕◌, ◌⊗◌, ring}
use Rattle.orientation.proofs.Near.{Near, near_over}
use Rattle.orientation.proofs.Nearest.{rounded, rounded_near}
use Rattle.orientation.proofs.Ranges.{Sized}
use Rattle.orientation.proofs.Units.{K, K_some, signed, abs_signed, signed_times, signed_scaled, Val, neg_val}

-- x, rounded from e units, is v units
pub record Rounded (x : Float) (e : ℤ) : Type 0 where
  pub v : ℤ
  pub val : Val x v
  pub near : Near v e

-- x, rounded from e/K units, is v units
pub record Product (x : Float) (e : ℤ) : Type 0 where
  pub v : ℤ
  pub val : Val x v
  pub near : Near (v *ℤ pos K) e

-- ---- one rounding
round_value : (s : Bool) (a c : ℕ) → rounded (a * K) c < 2 ^ 2098 → HasValue (round binary64 s a c) s (rounded (a * K) c) K
unfolding K
round_value s a c h = subst (λ x. HasValue x s (rounded (a * K) c) K) (sym (round_is binary64 s a c)) (units_val binary64 s (kept 53 (a * K) c) (drop 53 (a * K) c) h)

has_val : (x : Float) (s : Bool) (a : ℕ) → HasValue x s a K → Val x (signed s a)
has_val nan s a h = absurd h
has_val (inf t) s a h = absurd h
has_val (fin t m e) s a h = signed_scaled s a (down e) ∙ ap₂ signed (sym h.0) (sym h.1) ∙ sym (signed_scaled t (m * up e) K)

sign_is : (r : Bool) (y : ℤ) (c n d : ℕ) → 0 < c → y *ℤ pos c ≡ signed r n *ℤ pos d → y ≡ signed r (nat_abs y)
sign_is true (pos zero) c n d C e = refl
sign_is true (pos (suc a)) c n d C e = absurd (omega (arith, ints, mul-pos (zero-lt-suc a) C, e ∙ signed_scaled true n d))
sign_is true (negsuc a) c n d C e = refl
sign_is false (pos a) c n d C e = refl
sign_is false (negsuc a) c n d C e = absurd (omega (arith, ints, mul-pos (zero-lt-suc a) C))

near_signed : (r : Bool) (g a : ℕ) → Near (pos g) (pos a) → Near (signed r g) (signed r a)
near_signed true g a n = record { within = omega (arith, ints) }
near_signed false g a n = n

-- of ±n/c, which is y/j units: at least 2^52 of them, or a whole number
round_near : (r : Bool) (n c j : ℕ) (y : ℤ) → 0 < c → 0 < j → y *ℤ pos c ≡ signed r n *ℤ pos (K * j)
    → (2 ^ 52 * j ≤ nat_abs y) ⊎ ((q : ℕ) × (nat_abs y ≡ q * j)) → 2 * nat_abs y < 2 ^ 2098 * j → (v : ℤ) × Val (round binary64 r n c) v × Near (v *ℤ pos j) y
round_near r n c j y C J e w h =
    let a = nat_abs y in
    let g = rounded (a * K) (K * j) in
    let KJ = mul-pos K_some J in
    let sizes : n * (K * j) ≡ a * c = sym (sym (abs_mul y (pos c)) ∙ ap nat_abs e ∙ abs_mul (signed r n) (pos (K * j)) ∙ ap (λ m. m * (K * j)) (abs_signed r n)) in
    let near : Near (pos (g * j)) (pos a) = near_over K K_some (subst (λ m. Near (pos m) (pos (a * K))) (regroup g K j) (rounded_near (a * K) (K * j) KJ (in_units a K j w))) in (
      signed r g,
      subst (λ x. Val x (signed r g)) (sym (round_same binary64 r n c a (K * j) C KJ sizes)) (has_val _ r g (round_value r a (K * j) (lt_of_mul-lt-mul_right j (lt_of_le_of_lt (double (g * j) a near) h)))),
      subst (λ z. Near z y) (sym (signed_scaled r g j)) (subst (λ z. Near (signed r (g * j)) z) (sym (sign_is r y c n (K * j) C e)) (near_signed r (g * j) a near)),
    )
  where
    regroup : (g k j : ℕ) → g * (k * j) ≡ g * j * k
    regroup g k j = omega arith

    double : (g a : ℕ) → Near (pos g) (pos a) → g ≤ 2 * a
    double g a n = omega (arith, ints)

    in_units : (a k j : ℕ) → (2 ^ 52 * j ≤ a) ⊎ ((q : ℕ) × (a ≡ q * j)) → (2 ^ 52 * (k * j) ≤ a * k) ⊎ ((q : ℕ) × (a * k ≡ q * (k * j)))
    in_units a k j (inl b) = inl (omega (arith, mul-le-mul_right k b))
    in_units a k j (inr w) = inr (w.0, ap (λ m. m * k) w.1 ∙ omega arith)

-- ---- sums
sum_rounds : (s t : Bool) (a b c : ℕ) → (r : Bool) × (n : ℕ) × (sum binary64 s a t b c ≡ round binary64 r n c) × (signed s a +ℤ signed t b ≡ signed r n)
unfolding sum
sum_rounds true true a b c = (true, a + b, refl, omega (arith, ints))
sum_rounds false false a b c = (false, a + b, refl, omega (arith, ints))
sum_rounds true false a b c = elim (leb_tells (suc a) b) [
  | inl l ↦ (false, b - a, rw l.0 refl, omega (arith, ints, l.1))
  | inr l ↦ elim (leb_tells (suc b) a) [
    | inl m ↦ (true, a - b, rw (l.0, m.0) refl, omega (arith, ints, l.1))
    | inr m ↦ (false, a - b, rw (l.0, m.0) refl, omega (arith, ints, l.1, m.1))
  ]
]
sum_rounds false true a b c = elim (leb_tells (suc a) b) [
  | inl l ↦ (true, b - a, rw l.0 refl, omega (arith, ints, l.1))
  | inr l ↦ (false, a - b, rw l.0 refl, omega (arith, ints, l.1))
]

sum_scales : (z w d e x y k : ℤ) → z *ℤ d ≡ x *ℤ k → w *ℤ e ≡ y *ℤ k → (z +ℤ w) *ℤ (d *ℤ e) ≡ (x *ℤ e +ℤ y *ℤ d) *ℤ k
sum_scales z w d e x y k p q =
    ring (z ∷ w ∷ d ∷ e ∷ []) ((var 0 ⊕ var 1) ⊗ (var 2 ⊗ var 3)) ((var 0 ⊗ var 2) ⊗ var 3 ⊕ (var 1 ⊗ var 3) ⊗ var 2) tt
    ∙ ap₂ (λ m n. m *ℤ e +ℤ n *ℤ d) p q
    ∙ ring (x ∷ y ∷ d ∷ e ∷ k ∷ []) ((var 0 ⊗ var 4) ⊗ var 3 ⊕ (var 1 ⊗ var 4) ⊗ var 2) ((var 0 ⊗ var 3 ⊕ var 1 ⊗ var 2) ⊗ var 4) tt

pub add_near : (x y : Float) (z w : ℤ) → Val x z → Val y w → nat_abs (z +ℤ w) ≤ 2 ^ 2096 → Rounded (add binary64 x y) (z +ℤ w)
unfolding add
add_near nan y z w p q h = absurd p
add_near (inf s) y z w p q h = absurd p
add_near (fin s m e) nan z w p q h = absurd q
add_near (fin s m e) (inf t) z w p q h = absurd q
add_near (fin s m e) (fin t n d) z w p q h =
    let r = sum_rounds s t (m * up e * down d) (n * up d * down e) (down e * down d) in
    let exact : (z +ℤ w) *ℤ pos (down e * down d) ≡ signed r.0 r.1 *ℤ pos (K * 1) =
    sum_scales z w (pos (down e)) (pos (down d)) _ _ (pos K) p q
    ∙ ap₂ (λ x k. x *ℤ pos k) (ap₂ ◌+ℤ◌ (signed_scaled s _ _) (signed_scaled t _ _) ∙ r.3) (sym (mul-one K)) in
    let g = round_near r.0 r.1 (down e * down d) 1 (z +ℤ w) (mul-pos (down_pos e) (down_pos d)) (lit< tt) exact (inr (nat_abs (z +ℤ w), sym (mul-one _))) (lt_of_le_of_lt (mul-le-mul_left 2 h) (lit< tt)) in
    record { v = g.0; val = subst (λ x. Val x g.0) (sym r.2) g.1; near = subst (λ v. Near v (z +ℤ w)) (once g.0) g.2 }
  where
    once : (v : ℤ) → v *ℤ pos 1 ≡ v
    once v = omega (arith, ints)

pub sub_near : (x y : Float) (z w : ℤ) → Val x z → Val y w → nat_abs (z -ℤ w) ≤ 2 ^ 2096 → Rounded (sub binary64 x y) (z -ℤ w)
unfolding sub
sub_near x y z w p q h = add_near x (neg y) z (neg_ℤ w) p (neg_val y w q) h

-- ---- products
product_scales : (z w d e x y k : ℤ) → z *ℤ d ≡ x *ℤ k → w *ℤ e ≡ y *ℤ k → (z *ℤ w) *ℤ (d *ℤ e) ≡ (x *ℤ y) *ℤ (k *ℤ k)
product_scales z w d e x y k p q =
    ring (z ∷ w ∷ d ∷ e ∷ []) ((var 0 ⊗ var 1) ⊗ (var 2 ⊗ var 3)) ((var 0 ⊗ var 2) ⊗ (var 1 ⊗ var 3)) tt
    ∙ ap₂ ◌*ℤ◌ p q
    ∙ ring (x ∷ y ∷ k ∷ []) ((var 0 ⊗ var 2) ⊗ (var 1 ⊗ var 2)) ((var 0 ⊗ var 1) ⊗ (var 2 ⊗ var 2)) tt

normal : (a : ℕ) → (a ≡ 0) ⊎ (2 ^ 1126 ≤ a) → (2 ^ 52 * K ≤ a) ⊎ ((q : ℕ) × (a ≡ q * K))
unfolding K
normal a (inl z) = inr (0, z ∙ sym (zero-mul K))
normal a (inr b) = inl b

under : (a : ℕ) → a ≤ 2 ^ 3170 → 2 * a < 2 ^ 2098 * K
unfolding K
under a b = lt_of_le_of_lt (mul-le-mul_left 2 b) (lit< tt)

pub mul_near : (x y : Float) (z w : ℤ) → Val x z → Val y w → Sized 1126 3170 (nat_abs (z *ℤ w)) → Product (mul binary64 x y) (z *ℤ w)
unfolding mul
mul_near nan y z w p q h = absurd p
mul_near (inf s) y z w p q h = absurd p
mul_near (fin s m e) nan z w p q h = absurd q
mul_near (fin s m e) (inf t) z w p q h = absurd q
mul_near (fin s m e) (fin t n d) z w p q h =
    let g = round_near (unlike s t) (m * up e * (n * up d)) (down e * down d) K (z *ℤ w) (mul-pos (down_pos e) (down_pos d)) K_some
    (product_scales z w (pos (down e)) (pos (down d)) _ _ (pos K) p q ∙ ap (λ x. x *ℤ pos (K * K)) (signed_times s t (m * up e) (n * up d)))
    (normal (nat_abs (z *ℤ w)) h.low) (under (nat_abs (z *ℤ w)) h.high) in
    record { v = g.0; val = g.1; near = g.2 }
