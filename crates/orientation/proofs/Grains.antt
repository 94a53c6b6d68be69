-- A logged number is a whole number of grains, 2^-72 each, at most 2^92 of them.
use Rattle.std.proofs.Common.{◌≡◌, ℕ, zero, suc, ◌+◌, ◌-◌, ◌*◌, ◌%◌, ◌^◌, ◌<◌, ◌≤◌, Bool, ◌&&◌, T, eqb, ltb, leb, [], ◌∷◌, ℤ, pos, negsuc, ◌*ℤ◌, nat_abs, sym, ap, ◌∙◌, subst, le_trans, le_of_eq, lt_of_le_of_lt, mul_assoc, lt_of_not-le, zero-mul, mul-one, not-le_of_lt, le_of_mul-le-mul_right, arith, ltb→lt, pow_mono, pow-add}
use lib.Ieee.{Float, nan, inf, fin, binary64, up, down, fits}
use lib.Ieee.Fits.{and_l, and_r, down_pos}
use Rattle.plane.specs.Whole.{WholePoint}
use Rattle.plane.proofs.Integers.{*ℤ_assoc}
use Rattle.plane.proofs.Ring.{var, ◌⊗◌, ring}
use Rattle.reading.specs.Limits.{loggable}
use Rattle.reading.proofs.Range.{no_nan, no_inf, fits_logged, sized}
use Rattle.orientation.proofs.Units.{K, signed, abs_signed, signed_scaled, Val}

-- units to the grain
unfoldable pub G : ℕ
G = 2 ^ 1002

pub record Grains (x : Float) : Type 0 where
  pub i : ℤ
  pub is : Val x (i *ℤ pos G)
  pub few : nat_abs i ≤ 2 ^ 92

abbrev pub units : {x : Float} → Grains x → ℤ
units g = g.i *ℤ pos G

-- the size m · 2^e in grains
in_grains : (m : ℕ) (e : ℤ) → m < 2 ^ 53 → down e ≤ m * up e * 2 ^ 20 → (n : ℕ) × (n * down e ≡ m * up e * 2 ^ 72)
in_grains m (pos k) b h = (m * 2 ^ k * 2 ^ 72, mul-one (m * 2 ^ k * 2 ^ 72))
in_grains m (negsuc k) b h =
    let j : suc k < 73 = lt_of_not-le (λ g. not-le_of_lt (lt_of_le_of_lt h (below m b)) (pow_mono g)) in
    let e : 72 - suc k + suc k ≡ 72 = omega arith in
    (m * 2 ^ (72 - suc k), mul_assoc m (2 ^ (72 - suc k)) (2 ^ suc k) ∙ ap (λ t. m * t) (sym (pow-add 2 (72 - suc k) (suc k)) ∙ ap (λ t. 2 ^ t) e) ∙ ap (λ t. t * 2 ^ 72) (sym (mul-one m)))
  where
    below : (m : ℕ) → m < 2 ^ 53 → m * 1 * 2 ^ 20 < 2 ^ 73
    below m b = omega arith

made : (s : Bool) (m : ℕ) (e : ℤ) (n : ℕ) → n * down e ≡ m * up e * 2 ^ 72 → m * up e ≤ 2 ^ 20 * down e → Grains (fin s m e)
unfolding K G
made s m e n g h = record {
  i = signed s n;
  is = ring (signed s n ∷ pos G ∷ pos (down e) ∷ []) (var 0 ⊗ var 1 ⊗ var 2) (var 0 ⊗ var 2 ⊗ var 1) tt
      ∙ ap (λ z. z *ℤ pos G) (signed_scaled s n (down e) ∙ ap (signed s) g ∙ sym (signed_scaled s (m * up e) (2 ^ 72))) ∙ *ℤ_assoc (signed s (m * up e)) (pos (2 ^ 72)) (pos G);
  few = le_trans (le_of_eq (abs_signed s n)) (le_of_mul-le-mul_right (few n (m * up e) (down e) g h) (down_pos e));
}
  where
    few : (n x d : ℕ) → n * d ≡ x * 2 ^ 72 → x ≤ 2 ^ 20 * d → n * d ≤ 2 ^ 92 * d
    few n x d g h = omega arith

significand : (s : Bool) (m : ℕ) (e : ℤ) → T (fits binary64 (fin s (suc m) e)) → suc m < 2 ^ 53
unfolding fits
significand s m e h =
    let A : Bool = eqb (suc m % 2) 1 in
    let B : Bool = ltb (suc m) (2 ^ 53) in
    let C : Bool = leb (down e) (2 ^ 1074) in
    ltb→lt (suc m) (2 ^ 53) (and_r A B (and_l (A && B) C (and_l (A && B && C) _ h)))

grains : (x : Float) → T (loggable x) → Grains x
grains nan h = absurd (subst T (sym no_nan) h)
grains (inf s) h = absurd (subst T (sym (no_inf s)) h)
grains (fin s zero e) h = made s zero e 0 (zero-mul (down e) ∙ sym (ap (λ n. n * 2 ^ 72) (zero-mul (up e)))) (le_trans (le_of_eq (zero-mul (up e))) (omega arith))
grains (fin s (suc m) e) h =
    let z = sized s m e h in
    let n = in_grains (suc m) e (significand s m e (fits_logged (fin s (suc m) e) h)) z.low in
    made s (suc m) e n.0 n.1 z.high

-- ---- points
abbrev pub PointGrains : Float × Float → Type 0
PointGrains a = Grains a.0 × Grains a.1

-- in units
abbrev pub point : {a : Float × Float} → PointGrains a → WholePoint
point g = record { level = units g.0; head = units g.1 }

pub point_grains : (a : Float × Float) → T (loggable a.0) × T (loggable a.1) → PointGrains a
point_grains a h = (grains a.0 h.0, grains a.1 h.1)
