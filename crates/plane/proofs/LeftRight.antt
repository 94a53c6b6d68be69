-- Left and right of a line: what one sign of an area tells of others.
use Rattle.std.proofs.Common.{◌≡◌, ℕ, ◌≢◌, ℤ, pos, ◌+ℤ◌, ◌*ℤ◌, neg_ℤ, ◌≤ℤ◌, ◌<ℤ◌, sym, ◌∙◌, subst, inl, inr, arith}
use borrow.Author.Differences.{ints}
use Rattle.plane.specs.Whole.{WholePoint, area}
use Rattle.plane.proofs.Polygons.{Left, Right, LeftOf, RightOf, Sees}
use Rattle.plane.proofs.Areas.{area_cycle, area_exchange, area_flat}
use Rattle.plane.proofs.Signs.{mul_positive, factor_positive}

-- x is positive where all the others are
pub weighs : (x s a b c d : ℤ) → x *ℤ s ≡ a *ℤ b +ℤ c *ℤ d → pos 0 <ℤ s → pos 0 <ℤ a → pos 0 <ℤ b → pos 0 <ℤ c → pos 0 <ℤ d → pos 0 <ℤ x
weighs x s a b c d e hs ha hb hc hd = let ab = mul_positive a b ha hb in let cd = mul_positive c d hc hd in factor_positive x s (omega (arith, ints)) hs

pub cycled : (a b c : WholePoint) → Left a b c → Left b c a
cycled a b c h = subst (λ z. pos 0 <ℤ z) (area_cycle a b c) h

pub exchanged : (a b c : WholePoint) → Right a b c → Left b a c
exchanged a b c h = letters (area a b c) (area b a c) (area_exchange a b c) h
  where
    letters : (x y : ℤ) → y ≡ neg_ℤ x → x <ℤ pos 0 → pos 0 <ℤ y
    letters x y e h = omega (arith, ints)

pub never_both : (a b c : WholePoint) → Left a b c → Left b a c → ⊥
never_both a b c h k = letters (area a b c) (area b a c) (area_exchange a b c) h k
  where
    letters : (x y : ℤ) → y ≡ neg_ℤ x → pos 0 <ℤ x → pos 0 <ℤ y → ⊥
    letters x y e h k = omega (arith, ints)

-- ---- sides of a ring
at_zero : {x : ℤ} → x ≡ pos 0 → pos 0 ≤ℤ x
at_zero e = omega (arith, ints)

above_zero : {x : ℤ} → pos 0 <ℤ x → pos 0 ≤ℤ x
above_zero h = omega (arith, ints)

module _ (p : ℕ → WholePoint) where
  pub not_left_and_right : (q : WholePoint) (s : ℕ × ℕ) → LeftOf p q s → RightOf p q s → ⊥
  not_left_and_right q s l r = never_both (p s.0) (p s.1) q l (exchanged (p s.0) (p s.1) q r)

  pub seen_strictly : (c : ℕ) (s : ℕ × ℕ) → c ≢ s.0 → c ≢ s.1 → Sees p c s → LeftOf p (p c) s
  seen_strictly c s start end (inl e) = absurd (start e)
  seen_strictly c s start end (inr (inl e)) = absurd (end e)
  seen_strictly c s start end (inr (inr h)) = h

  pub seen_not_right : (c : ℕ) (s : ℕ × ℕ) → Sees p c s → pos 0 ≤ℤ area (p s.0) (p s.1) (p c)
  seen_not_right c s (inl e) = rw e (at_zero (area_flat (p s.0) (p s.1)))
  seen_not_right c s (inr (inl e)) = rw e (at_zero (sym (area_cycle (p s.1) (p s.0) (p s.1)) ∙ area_flat (p s.1) (p s.0)))
  seen_not_right c s (inr (inr h)) = above_zero h
