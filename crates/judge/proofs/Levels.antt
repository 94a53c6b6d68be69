-- The levels' part of the sweep: of a term that is linear in a level, the least and the greatest are at its ends, and they add up. The sum in closed form.
use Rattle.std.proofs.Common.{◌≡◌, ◌^◌, ◌≤◌, [], ◌∷◌, ℤ, pos, negsuc, ◌+ℤ◌, ◌-ℤ◌, ◌*ℤ◌, nat_abs, sym, ◌∙◌, ap₂, arith, w64, to_z, of_z}
use Rattle.std.specs.Int.{int_min, int_max}
use Rattle.std.proofs.lemmas.Int.{ints, clamps}
use Rattle.plane.specs.Whole.{area}
use Rattle.plane.proofs.Ring.{var, num, ◌⊕◌, ◌⊖◌, ◌⊗◌, ring}
use Rattle.judge.specs.Dips.{Coordinate, Dip, level, low, high, at}
use Rattle.judge.specs.Corner.{ends, at_heads, middle, reach}
use Rattle.judge.specs.Boxes.{area_e}

abbrev pub held : ℤ → ℤ
held x = to_z w64 (of_z w64 x)

-- ---- one level x with the factor k, and a rest r
module _ (x : Coordinate) (r : ℤ) where
  low_is : (k : ℤ) → k *ℤ low x +ℤ r ≡ x.0 *ℤ k -ℤ pos x.1 *ℤ k +ℤ r
  low_is k = ring (x.0 ∷ pos x.1 ∷ k ∷ r ∷ []) (var 2 ⊗ (var 0 ⊖ var 1) ⊕ var 3) (var 0 ⊗ var 2 ⊖ var 1 ⊗ var 2 ⊕ var 3) tt

  high_is : (k : ℤ) → k *ℤ high x +ℤ r ≡ x.0 *ℤ k +ℤ pos x.1 *ℤ k +ℤ r
  high_is k = ring (x.0 ∷ pos x.1 ∷ k ∷ r ∷ []) (var 2 ⊗ (var 0 ⊕ var 1) ⊕ var 3) (var 0 ⊗ var 2 ⊕ var 1 ⊗ var 2 ⊕ var 3) tt

  pub least_end : (k : ℤ) → ends int_min x (λ t. k *ℤ t +ℤ r) ≡ x.0 *ℤ k -ℤ pos x.1 *ℤ pos (nat_abs k) +ℤ r
  least_end (pos n) = let l = low_is (pos n) in let u = high_is (pos n) in omega (arith, ints, clamps)
  least_end (negsuc n) = let l = low_is (negsuc n) in let u = high_is (negsuc n) in omega (arith, ints, clamps)

  pub greatest_end : (k : ℤ) → ends int_max x (λ t. k *ℤ t +ℤ r) ≡ x.0 *ℤ k +ℤ pos x.1 *ℤ pos (nat_abs k) +ℤ r
  greatest_end (pos n) = let l = low_is (pos n) in let u = high_is (pos n) in omega (arith, ints, clamps)
  greatest_end (negsuc n) = let l = low_is (negsuc n) in let u = high_is (negsuc n) in omega (arith, ints, clamps)

-- ---- with no rest, as the code multiplies
module _ (x : Coordinate) (k : ℤ) where
  turned : (t : ℤ) → t *ℤ k ≡ k *ℤ t +ℤ pos 0
  turned t = ring (t ∷ k ∷ []) (var 0 ⊗ var 1) (var 1 ⊗ var 0 ⊕ num (pos 0)) tt

  pub least_alone : x.0 *ℤ k -ℤ pos x.1 *ℤ pos (nat_abs k) ≡ ends int_min x (λ t. t *ℤ k)
  least_alone = let e = ap₂ int_min (turned (low x)) (turned (high x)) ∙ least_end x (pos 0) k in omega (arith, ints)

  pub greatest_alone : x.0 *ℤ k +ℤ pos x.1 *ℤ pos (nat_abs k) ≡ ends int_max x (λ t. t *ℤ k)
  greatest_alone = let e = ap₂ int_max (turned (low x)) (turned (high x)) ∙ greatest_end x (pos 0) k in omega (arith, ints)

-- ---- all three levels
module _ (pick : ℤ → ℤ → ℤ) (moves : (x y r : ℤ) → pick (x +ℤ r) (y +ℤ r) ≡ pick x y +ℤ r) (a b c : Dip) (ya yb yc : ℤ) where
  abbrev k : ℤ
  k = yb -ℤ yc

  abbrev m : ℤ
  m = yc -ℤ ya

  abbrev n : ℤ
  n = ya -ℤ yb

  abbrev E : Coordinate → ℤ → ℤ
  E x q = ends pick x (λ t. t *ℤ q)

  ends_is : (x : Coordinate) (f : ℤ → ℤ) (q r : ℤ) → ((t : ℤ) → f t ≡ t *ℤ q +ℤ r) → ends pick x f ≡ E x q +ℤ r
  ends_is x f q r e = ap₂ pick (e (low x)) (e (high x)) ∙ moves (low x *ℤ q) (high x *ℤ q) r

  last : (xa xb : ℤ) → ends pick (level c) (λ xc. area (at xa ya) (at xb yb) (at xc yc)) ≡ E (level c) n +ℤ (xa *ℤ k +ℤ xb *ℤ m)
  last xa xb = ends_is (level c) _ n (xa *ℤ k +ℤ xb *ℤ m)
      (λ t. ring (xa ∷ ya ∷ xb ∷ yb ∷ t ∷ yc ∷ []) area_e (var 4 ⊗ (var 1 ⊖ var 3) ⊕ (var 0 ⊗ (var 3 ⊖ var 5) ⊕ var 2 ⊗ (var 5 ⊖ var 1))) tt)

  past : (x y z : ℤ) → x +ℤ (y +ℤ z) ≡ z +ℤ (x +ℤ y)
  past x y z = omega (arith, ints)

  two : (xa : ℤ) → ends pick (level b) (λ xb. ends pick (level c) (λ xc. area (at xa ya) (at xb yb) (at xc yc))) ≡ E (level b) m +ℤ (E (level c) n +ℤ xa *ℤ k)
  two xa = ends_is (level b) _ m (E (level c) n +ℤ xa *ℤ k) (λ t. last xa t ∙ past (E (level c) n) (xa *ℤ k) (t *ℤ m))

  at_heads_is : E (level a) k +ℤ E (level b) m +ℤ E (level c) n ≡ at_heads pick a b c ya yb yc
  unfolding at_heads
  at_heads_is = sum (E (level a) k) (E (level b) m) (E (level c) n) ∙ sym (ends_is (level a) _ k (E (level b) m +ℤ E (level c) n) (λ t. two t ∙ past (E (level b) m) (E (level c) n) (t *ℤ k)))
    where
      sum : (x y z : ℤ) → x +ℤ y +ℤ z ≡ x +ℤ (y +ℤ z)
      sum x y z = omega (arith, ints)

  -- as the code adds them up
  pub added : (x y z : ℤ) → nat_abs x ≤ 2 ^ 60 → nat_abs y ≤ 2 ^ 60 → nat_abs z ≤ 2 ^ 60 → x ≡ E (level a) k → y ≡ E (level b) m → z ≡ E (level c) n → held (held (held x +ℤ held y) +ℤ held z) ≡ at_heads pick a b c ya yb yc
  added x y z h l u e f g = sum (E (level a) k) (E (level b) m) (E (level c) n) e f g ∙ at_heads_is
    where
      sum : (d e f : ℤ) → x ≡ d → y ≡ e → z ≡ f → held (held (held x +ℤ held y) +ℤ held z) ≡ d +ℤ e +ℤ f
      sum d e f p q r = omega (arith, ints)

pub lesser_moves : (x y r : ℤ) → int_min (x +ℤ r) (y +ℤ r) ≡ int_min x y +ℤ r
lesser_moves x y r = omega (arith, ints, clamps)

pub greater_moves : (x y r : ℤ) → int_max (x +ℤ r) (y +ℤ r) ≡ int_max x y +ℤ r
greater_moves x y r = omega (arith, ints, clamps)

-- ---- in closed form
module _ (a b c : Dip) (ya yb yc : ℤ) where
  pub least_is : middle a b c ya yb yc -ℤ pos (reach a b c ya yb yc) ≡ at_heads int_min a b c ya yb yc
  least_is =
      let x = least_alone (level a) (yb -ℤ yc) in
      let y = least_alone (level b) (yc -ℤ ya) in
      let z = least_alone (level c) (ya -ℤ yb) in
      omega (arith, ints, at_heads_is int_min lesser_moves a b c ya yb yc)

  pub greatest_is : middle a b c ya yb yc +ℤ pos (reach a b c ya yb yc) ≡ at_heads int_max a b c ya yb yc
  greatest_is =
      let x = greatest_alone (level a) (yb -ℤ yc) in
      let y = greatest_alone (level b) (yc -ℤ ya) in
      let z = greatest_alone (level c) (ya -ℤ yb) in
      omega (arith, ints, at_heads_is int_max greater_moves a b c ya yb yc)
