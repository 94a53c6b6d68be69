-- The two products of a level's term, and its least and its greatest, as 64 bits hold them.
use Rattle.std.proofs.Common.{◌≡◌, ℕ, ◌^◌, ◌*◌, ◌≤◌, T, ℤ, pos, ◌+ℤ◌, ◌-ℤ◌, ◌*ℤ◌, nat_abs, ◌∙◌, arith, w32, to_z, of_z, le_trans, le_of_eq, mul-le-mul}
use Rattle.std.specs.Int.{int_min, int_max}
use Rattle.std.proofs.lemmas.Int.{ints}
use Rattle.plane.proofs.Integers.{abs_mul}
use Rattle.reading.specs.Limits.{reachable, tolerable}
use Rattle.judge.specs.Corner.{ends}
use Rattle.judge.proofs.Levels.{held, least_alone, greatest_alone}

product_small : (x y : ℤ) (m n : ℕ) → nat_abs x ≤ m → nat_abs y ≤ n → nat_abs (x *ℤ y) ≤ m * n
product_small x y m n h k = le_trans (le_of_eq (abs_mul x y)) (mul-le-mul h k)

-- of a level with the centre v and the tolerance h, and its factor k
pub record Spread (v : ℤ) (h : ℕ) (k m r : ℤ) : Type 0 where
  pub middle_small : nat_abs m ≤ 2 ^ 42
  pub reach_small : nat_abs r ≤ 2 ^ 42
  pub least_is : held (held m -ℤ held r) ≡ ends int_min (v, h) (λ t. t *ℤ k)
  pub greatest_is : held (held m +ℤ held r) ≡ ends int_max (v, h) (λ t. t *ℤ k)

-- l is the length between the two heads, and v', t' and s' are what the code multiplies besides
pub spread : (v : ℤ) (h : ℕ) {k l v' t' s' : ℤ} → T (reachable v) → T (tolerable h) → l ≡ k → nat_abs l ≤ 2 ^ 22
    → v' ≡ to_z w32 (of_z w32 v) → t' ≡ pos h → s' ≡ pos (nat_abs (held l)) → Spread v h k (held v' *ℤ held l) (held t' *ℤ held s')
spread v h {k} {l} {v'} {t'} {s'} hv ht el hl ev et es =
    let centre : held v' ≡ v = grind (arith, ints) in
    let factor : held l ≡ k = omega (arith, ints) in
    let tolerance : held t' ≡ pos h = grind (arith, ints) in
    let size : held s' ≡ pos (nat_abs k) = omega (arith, ints) in
    let m : nat_abs (v *ℤ k) ≤ 2 ^ 42 = product_small v k (2 ^ 20) (2 ^ 22) (grind (arith, ints)) (omega (arith, ints)) in
    let r : nat_abs (pos h *ℤ pos (nat_abs k)) ≤ 2 ^ 42 = product_small (pos h) (pos (nat_abs k)) (2 ^ 20) (2 ^ 22) (grind (arith, ints)) (omega (arith, ints)) in
    rw (centre, factor, tolerance, size) (record {
      middle_small = m;
      reach_small = r;
      least_is = omega (arith, ints) ∙ least_alone (v, h) k;
      greatest_is = omega (arith, ints) ∙ greatest_alone (v, h) k;
    })
