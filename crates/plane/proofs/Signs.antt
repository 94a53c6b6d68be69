-- The signs of products and what they tell of the factors.
use Rattle.std.proofs.Common.{zero, suc, ◌<◌, ℤ, pos, negsuc, ◌*ℤ◌, ◌≤ℤ◌, ◌<ℤ◌, mul-pos, mul-suc, arith}
use borrow.Author.Differences.{ints}

pub mul_positive : (a b : ℤ) → pos 0 <ℤ a → pos 0 <ℤ b → pos 0 <ℤ (a *ℤ b)
mul_positive (pos m) (pos n) h k = let p : 0 < m = omega (arith, ints) in let q : 0 < n = omega (arith, ints) in let r = mul-pos p q in omega (arith, ints)
mul_positive (pos m) (negsuc n) h k = absurd k.lt
mul_positive (negsuc m) b h k = absurd h.lt

pub mul_not_negative : (a b : ℤ) → pos 0 ≤ℤ a → pos 0 ≤ℤ b → pos 0 ≤ℤ (a *ℤ b)
mul_not_negative (pos m) (pos n) h k = omega (arith, ints)
mul_not_negative (pos m) (negsuc n) h k = absurd k.le
mul_not_negative (negsuc m) b h k = absurd h.le

pub mul_negative : (a b : ℤ) → a <ℤ pos 0 → pos 0 <ℤ b → (a *ℤ b) <ℤ pos 0
mul_negative (negsuc m) (pos n) h k = let q : 0 < n = omega (arith, ints) in let p : 0 < suc m = omega arith in let r = mul-pos p q in omega (arith, ints)
mul_negative (negsuc m) (negsuc n) h k = absurd k.lt
mul_negative (pos m) b h k = omega (arith, ints)

-- the factor beside a positive one has the product's sign
pub factor_positive : (a b : ℤ) → pos 0 <ℤ (a *ℤ b) → pos 0 <ℤ b → pos 0 <ℤ a
factor_positive (pos zero) b h k = omega (arith, ints)
factor_positive (pos (suc m)) b h k = omega (arith, ints)
factor_positive (negsuc m) b h k = let p = mul_negative (negsuc m) b (omega (arith, ints)) k in omega (arith, ints)

-- a positive factor makes no smaller what is not negative
pub mul_grows : (p d : ℤ) → pos 0 ≤ℤ p → pos 0 <ℤ d → p ≤ℤ (p *ℤ d)
mul_grows (pos m) (pos zero) h k = absurd k.lt
mul_grows (pos m) (pos (suc n)) h k = let e = mul-suc m n in omega (arith, ints)
mul_grows (pos m) (negsuc n) h k = absurd k.lt
mul_grows (negsuc m) d h k = absurd h.le

pub factor_negative : (a b : ℤ) → (a *ℤ b) <ℤ pos 0 → pos 0 <ℤ b → a <ℤ pos 0
factor_negative (pos m) b h k = let p = mul_not_negative (pos m) b (omega (arith, ints)) (omega (arith, ints)) in omega (arith, ints)
factor_negative (negsuc m) b h k = omega (arith, ints)
