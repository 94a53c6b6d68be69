-- A finite binary64 number as a whole number of units, 2^-1074 each.
use Rattle.std.proofs.Common.{◌≡◌, ℕ, ◌+◌, ◌*◌, ◌^◌, ◌<◌, Bool, true, false, not, T, [], ◌∷◌, ℤ, pos, ◌-ℤ◌, ◌*ℤ◌, neg_ℤ, nat_abs, ◌<ℤ◌, sym, ap, ◌∙◌, subst, ap₂, mul-pos, arith, lit<, ltb→lt}
use lib.Ieee.{Float, nan, inf, fin, up, down, unlike, neg, below, lt}
use lib.Ieee.Fits.{down_pos}
use borrow.Author.Differences.{ints}
use Rattle.std.specs.Float.{float_with_sign}
use Rattle.plane.proofs.Integers.{abs_mul}
use Rattle.plane.proofs.Ring.{var, minus, ◌⊖◌, ◌⊗◌, ring}
use Rattle.plane.proofs.Signs.{mul_positive, factor_positive}
use Rattle.plane.proofs.Scaling.{Scales}
use Rattle.reading.specs.TruePoints.{value_of}

-- 1 is K units
unfoldable pub K : ℕ
K = 2 ^ 1074

pub K_some : 0 < K
unfolding K
K_some = lit< tt

-- ---- ±a
abbrev pub signed : Bool → ℕ → ℤ
signed true a = neg_ℤ (pos a)
signed false a = pos a

pub abs_signed : (s : Bool) (a : ℕ) → nat_abs (signed s a) ≡ a
abs_signed true a = omega (arith, ints)
abs_signed false a = omega (arith, ints)

pub signed_times : (s t : Bool) (a b : ℕ) → signed s a *ℤ signed t b ≡ signed (unlike s t) (a * b)
signed_times true true a b = ring (pos a ∷ pos b ∷ []) (minus (var 0) ⊗ minus (var 1)) (var 0 ⊗ var 1) tt
signed_times true false a b = ring (pos a ∷ pos b ∷ []) (minus (var 0) ⊗ var 1) (minus (var 0 ⊗ var 1)) tt
signed_times false true a b = ring (pos a ∷ pos b ∷ []) (var 0 ⊗ minus (var 1)) (minus (var 0 ⊗ var 1)) tt
signed_times false false a b = ring (pos a ∷ pos b ∷ []) (var 0 ⊗ var 1) (var 0 ⊗ var 1) tt

pub signed_scaled : (s : Bool) (a k : ℕ) → signed s a *ℤ pos k ≡ signed s (a * k)
signed_scaled true a k = signed_times true false a k
signed_scaled false a k = signed_times false false a k

-- ---- x is z units
abbrev pub Val : Float → ℤ → Type 0
Val nan z = ⊥
Val (inf s) z = ⊥
Val (fin s m e) z = z *ℤ pos (down e) ≡ signed s (m * up e) *ℤ pos K

pub val_scales : (x : Float) (z : ℤ) → Val x z → Scales K (value_of x) z
val_scales nan z h = absurd h
val_scales (inf s) z h = absurd h
val_scales (fin true m e) z h = h
val_scales (fin false m e) z h = h

pub neg_val : (x : Float) (z : ℤ) → Val x z → Val (neg x) (neg_ℤ z)
unfolding neg
neg_val nan z h = absurd h
neg_val (inf s) z h = absurd h
neg_val (fin s m e) z h = ring (z ∷ pos (down e) ∷ []) (minus (var 0) ⊗ var 1) (minus (var 0 ⊗ var 1)) tt ∙ ap neg_ℤ h ∙ turned s (m * up e)
  where
    turned : (s : Bool) (a : ℕ) → neg_ℤ (signed s a *ℤ pos K) ≡ signed (not s) a *ℤ pos K
    turned true a = ring (pos a ∷ pos K ∷ []) (minus (minus (var 0) ⊗ var 1)) (var 0 ⊗ var 1) tt
    turned false a = ring (pos a ∷ pos K ∷ []) (minus (var 0 ⊗ var 1)) (minus (var 0) ⊗ var 1) tt

pub size_val : (x : Float) (z : ℤ) → Val x z → Val (float_with_sign false x) (pos (nat_abs z))
unfolding float_with_sign
size_val nan z h = absurd h
size_val (inf s) z h = absurd h
size_val (fin s m e) z h = ap pos (sym (abs_mul z (pos (down e))) ∙ ap nat_abs h ∙ abs_mul (signed s (m * up e)) (pos K) ∙ ap (λ n. n * K) (abs_signed s (m * up e)))

-- ---- the order of two numbers is that of their units
below_signed : (s t : Bool) (a b : ℕ) → T (below s a t b) → pos 0 <ℤ (signed t b -ℤ signed s a)
below_signed true true a b h = omega (arith, ints, ltb→lt b a h)
below_signed true false a b h = omega (arith, ints, ltb→lt 0 (a + b) h)
below_signed false true a b h = absurd h
below_signed false false a b h = omega (arith, ints, ltb→lt a b h)

gap : (z w d e x y k : ℤ) → z *ℤ d ≡ x *ℤ k → w *ℤ e ≡ y *ℤ k → (w -ℤ z) *ℤ (d *ℤ e) ≡ (y *ℤ d -ℤ x *ℤ e) *ℤ k
gap z w d e x y k p q =
    ring (z ∷ w ∷ d ∷ e ∷ []) ((var 1 ⊖ var 0) ⊗ (var 2 ⊗ var 3)) ((var 1 ⊗ var 3) ⊗ var 2 ⊖ (var 0 ⊗ var 2) ⊗ var 3) tt
    ∙ ap₂ (λ m n. n *ℤ d -ℤ m *ℤ e) p q
    ∙ ring (x ∷ y ∷ d ∷ e ∷ k ∷ []) ((var 1 ⊗ var 4) ⊗ var 2 ⊖ (var 0 ⊗ var 4) ⊗ var 3) ((var 1 ⊗ var 2 ⊖ var 0 ⊗ var 3) ⊗ var 4) tt

pub lt_val : (x y : Float) (z w : ℤ) → Val x z → Val y w → T (lt x y) → z <ℤ w
unfolding lt
lt_val nan y z w p q h = absurd p
lt_val (inf s) y z w p q h = absurd p
lt_val (fin s m e) nan z w p q h = absurd q
lt_val (fin s m e) (inf t) z w p q h = absurd q
lt_val (fin s m e) (fin t n d) z w p q h =
    let l : pos 0 <ℤ (signed t (n * up d) *ℤ pos (down e) -ℤ signed s (m * up e) *ℤ pos (down d)) = simp signed_scaled (below_signed s t _ _ h) in
    let g = gap z w (pos (down e)) (pos (down d)) _ _ (pos K) p q in
    less (factor_positive (w -ℤ z) (pos (down e * down d)) (subst (λ u. pos 0 <ℤ u) (sym g) (mul_positive _ _ l (over K_some))) (over (mul-pos (down_pos e) (down_pos d))))
  where
    over : {n : ℕ} → 0 < n → pos 0 <ℤ pos n
    over h = omega (arith, ints)

    less : pos 0 <ℤ (w -ℤ z) → z <ℤ w
    less h = omega (arith, ints)
