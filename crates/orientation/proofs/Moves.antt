-- How far a product moves when its factors move.
use Rattle.std.proofs.Common.{ℕ, ◌+◌, ◌*◌, ◌≤◌, [], ◌∷◌, ℤ, ◌+ℤ◌, ◌-ℤ◌, ◌*ℤ◌, nat_abs, ap, mul-le-mul_right, mul-le-mul, mul-le-mul_left, arith}
use borrow.Author.Differences.{ints}
use Rattle.plane.proofs.Integers.{abs_mul}
use Rattle.plane.proofs.Ring.{var, ◌⊕◌, ◌⊖◌, ◌⊗◌, ring}

three : (x y z : ℤ) → nat_abs (x +ℤ y +ℤ z) ≤ nat_abs x + nat_abs y + nat_abs z
three x y z = omega (arith, ints)

-- p'·q' - p·q is (p' - p)·q + p·(q' - q) + (p' - p)·(q' - q)
pub product_moves : (p' p q' q : ℤ) (a b : ℕ) → nat_abs (p' -ℤ p) ≤ a → nat_abs (q' -ℤ q) ≤ b → nat_abs (p' *ℤ q' -ℤ p *ℤ q) ≤ a * nat_abs q + nat_abs p * b + a * b
product_moves p' p q' q a b h k =
    let i = p' -ℤ p in
    let j = q' -ℤ q in
    let e = ap nat_abs (ring (p' ∷ p ∷ q' ∷ q ∷ []) (var 0 ⊗ var 2 ⊖ var 1 ⊗ var 3) ((var 0 ⊖ var 1) ⊗ var 3 ⊕ var 1 ⊗ (var 2 ⊖ var 3) ⊕ (var 0 ⊖ var 1) ⊗ (var 2 ⊖ var 3)) tt) in
    omega (arith, three (i *ℤ q) (p *ℤ j) (i *ℤ j), abs_mul i q, abs_mul p j, abs_mul i j, mul-le-mul_right (nat_abs q) h, mul-le-mul_left (nat_abs p) k, mul-le-mul h k)
