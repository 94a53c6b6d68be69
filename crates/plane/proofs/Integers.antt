-- Laws of the product of whole numbers: associative, distributive, and its magnitude.
use Rattle.std.proofs.Common.{◌≡◌, ℕ, zero, suc, ◌+◌, ◌*◌, ℤ, pos, negsuc, ◌+ℤ◌, ◌*ℤ◌, neg_ℤ, nat_abs, sym, refl, ap, ◌∙◌, mul_assoc, add-mul, mul-add, arith}
use lib.IntN.{*ℤ_comm}
use borrow.Author.Differences.{up, down, ints, same_in, sum_is_lem, product_is}

multiplied : (k a b c d e f : ℕ) → a + b + c ≡ d + e + f → k * a + k * b + k * c ≡ k * d + k * e + k * f
multiplied k a b c d e f h = sym (mul-add k (a + b) c ∙ ap (λ (n : ℕ). n + k * c) (mul-add k a b)) ∙ ap (λ (n : ℕ). k * n) h ∙ mul-add k (d + e) f ∙ ap (λ (n : ℕ). n + k * f) (mul-add k d e)

pub *ℤ-+ℤ : (a b c : ℤ) → a *ℤ (b +ℤ c) ≡ a *ℤ b +ℤ a *ℤ c
*ℤ-+ℤ a b c =
    let s : ℤ = b +ℤ c in
    let p = multiplied (up a) (up s) (down b) (down c) (down s) (up b) (up c) (sum_is_lem b c) in
    let q = multiplied (down a) (up s) (down b) (down c) (down s) (up b) (up c) (sum_is_lem b c) in
    omega (arith, ints)

pub +ℤ-*ℤ : (a b c : ℤ) → (a +ℤ b) *ℤ c ≡ a *ℤ c +ℤ b *ℤ c
+ℤ-*ℤ a b c = *ℤ_comm (a +ℤ b) c ∙ *ℤ-+ℤ c a b ∙ ap (λ (z : ℤ). z +ℤ c *ℤ b) (*ℤ_comm c a) ∙ ap (λ (z : ℤ). a *ℤ c +ℤ z) (*ℤ_comm c b)

pub *ℤ_assoc : (a b c : ℤ) → (a *ℤ b) *ℤ c ≡ a *ℤ (b *ℤ c)
*ℤ_assoc a b c = same_in ((a *ℤ b) *ℤ c) (a *ℤ (b *ℤ c))
    (simp ((product_is (a *ℤ b) c).0, (product_is (a *ℤ b) c).1, (product_is a (b *ℤ c)).0, (product_is a (b *ℤ c)).1, (product_is a b).0, (product_is a b).1, (product_is b c).0, (product_is b c).1, mul-add, add-mul, mul_assoc) (omega arith))

neg_abs : (n : ℕ) → nat_abs (neg_ℤ (pos n)) ≡ n
neg_abs zero = refl
neg_abs (suc n) = refl

pub abs_mul : (x y : ℤ) → nat_abs (x *ℤ y) ≡ nat_abs x * nat_abs y
abs_mul (pos a) (pos b) = refl
abs_mul (pos a) (negsuc b) = neg_abs (a * suc b)
abs_mul (negsuc a) (pos b) = neg_abs (suc a * b)
abs_mul (negsuc a) (negsuc b) = refl
