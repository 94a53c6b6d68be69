-- One multiplier that turns points into whole points keeps which of two lies farther out.
use Rattle.std.proofs.Common.{◌≡◌, ℕ, ◌*◌, ◌<◌, ◌↔◌, [], ◌∷◌, ℤ, pos, ◌+ℤ◌, ◌*ℤ◌, ◌<ℤ◌, sym, refl, ap, ◌∙◌, ap₂, subst₂, mul_comm, mul-pos, lit<}
use Rattle.plane.specs.Fractions.{Fraction, Less}
use Rattle.plane.specs.Points.{Point}
use Rattle.plane.specs.Directions.{reach}
use Rattle.plane.specs.Whole.{WholePoint}
use Rattle.plane.proofs.Ring.{var, ◌⊕◌, ◌⊗◌, ring}
use Rattle.plane.proofs.Orders.{times_lt, cancel_lt}
use Rattle.plane.proofs.Scaling.{Scales, ScalesTo, times_scales}
use Rattle.plane.proofs.Polygons.{whole_reach}

-- over the parts of the fractions, as in `Scaling`
plus_scales : (D a b c d : ℤ) (x y : ℤ) → x *ℤ b ≡ a *ℤ D → y *ℤ d ≡ c *ℤ D → (x +ℤ y) *ℤ (b *ℤ d) ≡ (a *ℤ d +ℤ c *ℤ b) *ℤ D
plus_scales D a b c d x y e f =
    ring (b ∷ d ∷ x ∷ y ∷ []) ((var 2 ⊕ var 3) ⊗ (var 0 ⊗ var 1)) ((var 2 ⊗ var 0) ⊗ var 1 ⊕ (var 3 ⊗ var 1) ⊗ var 0) tt
    ∙ ap₂ (λ s t. s *ℤ d +ℤ t *ℤ b) e f
    ∙ ring (D ∷ a ∷ b ∷ c ∷ d ∷ []) ((var 1 ⊗ var 0) ⊗ var 4 ⊕ (var 3 ⊗ var 0) ⊗ var 2) ((var 1 ⊗ var 4 ⊕ var 3 ⊗ var 2) ⊗ var 0) tt

crossed : (D a b d x : ℤ) → x *ℤ b ≡ a *ℤ D → x *ℤ (b *ℤ d) ≡ (a *ℤ d) *ℤ D
crossed D a b d x e =
    ring (b ∷ d ∷ x ∷ []) (var 2 ⊗ (var 0 ⊗ var 1)) ((var 2 ⊗ var 0) ⊗ var 1) tt
    ∙ ap (λ z. z *ℤ d) e
    ∙ ring (D ∷ a ∷ d ∷ []) ((var 1 ⊗ var 0) ⊗ var 2) ((var 1 ⊗ var 2) ⊗ var 0) tt

less_scales : (D : ℕ) (x y : Fraction) (X Y : ℤ) → 0 < D → Scales D x X → Scales D y Y → Less x y ↔ (X <ℤ Y)
less_scales D x y X Y some hx hy = (
  (λ h. cancel_lt X Y (x.den * y.den) (subst₂ ◌<ℤ◌ (sym left) (sym right) (times_lt _ _ D some h))),
  (λ h. cancel_lt _ _ D (subst₂ ◌<ℤ◌ left right (times_lt X Y (x.den * y.den) (mul-pos x.some y.some) h))),
)
  where
    left : X *ℤ pos (x.den * y.den) ≡ (x.num *ℤ pos y.den) *ℤ pos D
    left = crossed (pos D) x.num (pos x.den) (pos y.den) X hx

    right : Y *ℤ pos (x.den * y.den) ≡ (y.num *ℤ pos x.den) *ℤ pos D
    right = ap (λ n. Y *ℤ pos n) (mul_comm x.den y.den) ∙ crossed (pos D) y.num (pos y.den) (pos x.den) Y hy

module _ (D : ℕ) (u v : ℤ) where
  reach_is : (a : Point) (A : WholePoint) → ScalesTo D a A → Scales (1 * D) (reach u v a) (whole_reach u v A)
  reach_is a A h = plus_scales (pos (1 * D)) _ (pos (1 * a.level.den)) _ (pos (1 * a.head.den)) _ _
      (times_scales (pos 1) (pos D) u (pos 1) a.level.num (pos a.level.den) u A.level refl h.0)
      (times_scales (pos 1) (pos D) v (pos 1) a.head.num (pos a.head.den) v A.head refl h.1)

  pub reach_scales : (a b : Point) (A B : WholePoint) → 0 < D → ScalesTo D a A → ScalesTo D b B → Less (reach u v a) (reach u v b) ↔ (whole_reach u v A <ℤ whole_reach u v B)
  reach_scales a b A B some ha hb = less_scales (1 * D) (reach u v a) (reach u v b) _ _ (mul-pos (lit< tt) some) (reach_is a A ha) (reach_is b B hb)
