-- One multiplier turns finitely many fractions into whole numbers, and keeps the signs of doubled areas.
use Rattle.std.proofs.Common.{◌≡◌, ℕ, zero, suc, ◌*◌, ◌/◌, ◌<◌, ◌↔◌, [], ◌∷◌, ℤ, pos, ◌-ℤ◌, ◌*ℤ◌, ◌<ℤ◌, sym, ap, ◌∙◌, subst, ap₂, mul_assoc, mul_comm, mul-pos, mul-div_cancel, arith, lit<}
use native.Mathlib.Decide.{ℕ_discrete}
use borrow.Author.Differences.{ints}
use Rattle.plane.specs.Fractions.{Fraction, Positive, Negative}
use Rattle.plane.specs.Points.{Point, doubled_area}
use Rattle.plane.specs.Whole.{WholePoint, area}
use Rattle.plane.proofs.Integers.{*ℤ_assoc}
use Rattle.plane.proofs.Ring.{var, ◌⊖◌, ◌⊗◌, ring}
use Rattle.plane.proofs.Signs.{mul_positive, mul_negative, factor_positive, factor_negative}

-- x, D times as large, is the whole number z
abbrev pub Scales : ℕ → Fraction → ℤ → Type 0
Scales D x z = z *ℤ pos x.den ≡ x.num *ℤ pos D

abbrev pub ScalesTo : ℕ → Point → WholePoint → Type 0
ScalesTo D p q = Scales D p.level q.level × Scales D p.head q.head

-- ---- differences and products, over the parts of the fractions
minus_scales : (D a b c d : ℤ) (x y : ℤ) → x *ℤ b ≡ a *ℤ D → y *ℤ d ≡ c *ℤ D → (x -ℤ y) *ℤ (b *ℤ d) ≡ (a *ℤ d -ℤ c *ℤ b) *ℤ D
minus_scales D a b c d x y e f =
    ring (D ∷ b ∷ d ∷ x ∷ y ∷ []) ((var 3 ⊖ var 4) ⊗ (var 1 ⊗ var 2)) ((var 3 ⊗ var 1) ⊗ var 2 ⊖ (var 4 ⊗ var 2) ⊗ var 1) tt
    ∙ ap₂ (λ (s t : ℤ). s *ℤ d -ℤ t *ℤ b) e f
    ∙ ring (D ∷ a ∷ b ∷ c ∷ d ∷ []) ((var 1 ⊗ var 0) ⊗ var 4 ⊖ (var 3 ⊗ var 0) ⊗ var 2) ((var 1 ⊗ var 4 ⊖ var 3 ⊗ var 2) ⊗ var 0) tt

pub times_scales : (D E a b c d : ℤ) (x y : ℤ) → x *ℤ b ≡ a *ℤ D → y *ℤ d ≡ c *ℤ E → (x *ℤ y) *ℤ (b *ℤ d) ≡ (a *ℤ c) *ℤ (D *ℤ E)
times_scales D E a b c d x y e f =
    ring (x ∷ y ∷ b ∷ d ∷ []) ((var 0 ⊗ var 1) ⊗ (var 2 ⊗ var 3)) ((var 0 ⊗ var 2) ⊗ (var 1 ⊗ var 3)) tt
    ∙ ap₂ (λ (s t : ℤ). s *ℤ t) e f
    ∙ ring (a ∷ c ∷ D ∷ E ∷ []) ((var 0 ⊗ var 2) ⊗ (var 1 ⊗ var 3)) ((var 0 ⊗ var 1) ⊗ (var 2 ⊗ var 3)) tt

-- ---- areas
module _ (D : ℕ) (a b c : Point) (A B C : WholePoint) (some : 0 < D) (ha : ScalesTo D a A) (hb : ScalesTo D b B) (hc : ScalesTo D c C) where
  -- the area's denominator
  abbrev dens : ℕ
  dens = (doubled_area a b c).den

  dens_some : 0 < dens
  dens_some = (doubled_area a b c).some

  area_scales : area A B C *ℤ pos dens ≡ (doubled_area a b c).num *ℤ pos (D * D)
  area_scales =
      minus_scales (pos (D * D)) _ (pos ((a.level.den * c.level.den) * (b.head.den * c.head.den))) _ (pos ((b.level.den * c.level.den) * (a.head.den * c.head.den))) _ _
      (times_scales (pos D) (pos D) _ (pos (a.level.den * c.level.den)) _ (pos (b.head.den * c.head.den)) _ _
      (minus_scales (pos D) a.level.num (pos a.level.den) c.level.num (pos c.level.den) A.level C.level ha.0 hc.0)
      (minus_scales (pos D) b.head.num (pos b.head.den) c.head.num (pos c.head.den) B.head C.head hb.1 hc.1))
      (times_scales (pos D) (pos D) _ (pos (b.level.den * c.level.den)) _ (pos (a.head.den * c.head.den)) _ _
      (minus_scales (pos D) b.level.num (pos b.level.den) c.level.num (pos c.level.den) B.level C.level hb.0 hc.0)
      (minus_scales (pos D) a.head.num (pos a.head.den) c.head.num (pos c.head.den) A.head C.head ha.1 hc.1))

  over : (m : ℕ) → 0 < m → pos 0 <ℤ pos m
  over m h = omega (arith, ints)

  pub positive_scales : (pos 0 <ℤ area A B C) ↔ Positive (doubled_area a b c)
  positive_scales = (
    (λ h. factor_positive _ (pos (D * D)) (subst (λ (t : ℤ). pos 0 <ℤ t) area_scales (mul_positive _ _ h (over dens dens_some))) (over (D * D) (mul-pos some some))),
    (λ h. factor_positive _ (pos dens) (subst (λ (t : ℤ). pos 0 <ℤ t) (sym area_scales) (mul_positive _ _ h (over (D * D) (mul-pos some some)))) (over dens dens_some)),
  )

  pub negative_scales : (area A B C <ℤ pos 0) ↔ Negative (doubled_area a b c)
  negative_scales = (
    (λ h. factor_negative _ (pos (D * D)) (subst (λ (t : ℤ). t <ℤ pos 0) area_scales (mul_negative _ _ h (over dens dens_some))) (over (D * D) (mul-pos some some))),
    (λ h. factor_negative _ (pos dens) (subst (λ (t : ℤ). t <ℤ pos 0) (sym area_scales) (mul_negative _ _ h (over (D * D) (mul-pos some some)))) (over dens dens_some)),
  )

-- ---- a common multiplier of the first n points
abbrev pub common : (ℕ → Point) → ℕ → ℕ
common r zero = 1
common r (suc n) = ((r n).level.den * (r n).head.den) * common r n

abbrev pub scaled : (ℕ → Point) → ℕ → ℕ → WholePoint
scaled r n i = record { level = (r i).level.num *ℤ pos (common r n / (r i).level.den); head = (r i).head.num *ℤ pos (common r n / (r i).head.den) }

pub common_some : (r : ℕ → Point) (n : ℕ) → 0 < common r n
common_some r zero = omega arith
common_some r (suc n) = mul-pos (mul-pos (r n).level.some (r n).head.some) (common_some r n)

record Multiple (d D : ℕ) : Type 0 where
  factor : ℕ
  is : D ≡ factor * d

divides : (r : ℕ → Point) (n i : ℕ) → i < n → Multiple (r i).level.den (common r n) × Multiple (r i).head.den (common r n)
divides r zero i h = absurd (omega arith)
divides r (suc n) i h = by (λ (k : i < n). divides r n i k) (ℕ_discrete i n)
  where
    by : (i < n → Multiple (r i).level.den (common r n) × Multiple (r i).head.den (common r n)) → Dec (i ≡ n) → Multiple (r i).level.den (common r (suc n)) × Multiple (r i).head.den (common r (suc n))
    by rec (yes e) = subst (λ (j : ℕ). Multiple (r j).level.den (common r (suc n)) × Multiple (r j).head.den (common r (suc n))) (sym e) (
      record { factor = (r n).head.den * common r n; is = mul_assoc (r n).level.den (r n).head.den (common r n) ∙ mul_comm (r n).level.den ((r n).head.den * common r n) },
      record { factor = (r n).level.den * common r n; is = ap (λ (t : ℕ). t * common r n) (mul_comm (r n).level.den (r n).head.den) ∙ mul_assoc (r n).head.den (r n).level.den (common r n) ∙ mul_comm (r n).head.den ((r n).level.den * common r n) },
    )
    by rec (no f) = (further (rec below).0, further (rec below).1)
      where
        below : i < n
        below = omega arith

        further : {d : ℕ} → Multiple d (common r n) → Multiple d (common r (suc n))
        further {d} m = record { factor = ((r n).level.den * (r n).head.den) * m.factor; is = ap (λ (t : ℕ). ((r n).level.den * (r n).head.den) * t) m.is ∙ sym (mul_assoc ((r n).level.den * (r n).head.den) m.factor d) }

scales_by : (x : Fraction) (D : ℕ) → Multiple x.den D → Scales D x (x.num *ℤ pos (D / x.den))
scales_by x D m = *ℤ_assoc x.num (pos (D / x.den)) (pos x.den) ∙ ap (λ (t : ℕ). x.num *ℤ pos t) exact
  where
    exact : D / x.den * x.den ≡ D
    exact = ap (λ (t : ℕ). t / x.den * x.den) m.is ∙ ap (λ (t : ℕ). t * x.den) (mul-div_cancel m.factor x.some) ∙ sym m.is

pub scaled_is : (r : ℕ → Point) (n i : ℕ) → i < n → ScalesTo (common r n) (r i) (scaled r n i)
scaled_is r n i h = (scales_by (r i).level (common r n) (divides r n i h).0, scales_by (r i).head (common r n) (divides r n i h).1)

-- ---- three points: what their whole multiples show
module _ (p q s : Point) where
  abbrev three : ℕ → Point
  three zero = p
  three (suc zero) = q
  three (suc (suc n)) = s

  -- a sign that every multiple of three points in whole numbers has
  abbrev pub Whole : (ℤ → Type 0) → Type 0
  Whole Sign = (D : ℕ) (A B C : WholePoint) → 0 < D → ScalesTo D p A → ScalesTo D q B → ScalesTo D s C → Sign (area A B C)

  abbrev D : ℕ
  D = common three 3

  at : (i : ℕ) → i < 3 → ScalesTo D (three i) (scaled three 3 i)
  at i h = scaled_is three 3 i h

  pub positive : Whole (λ z. pos 0 <ℤ z) → Positive (doubled_area p q s)
  positive h = (positive_scales D p q s _ _ _ (common_some three 3) (at 0 (lit< tt)) (at 1 (lit< tt)) (at 2 (lit< tt))).0 (h D _ _ _ (common_some three 3) (at 0 (lit< tt)) (at 1 (lit< tt)) (at 2 (lit< tt)))

  pub negative : Whole (λ z. z <ℤ pos 0) → Negative (doubled_area p q s)
  negative h = (negative_scales D p q s _ _ _ (common_some three 3) (at 0 (lit< tt)) (at 1 (lit< tt)) (at 2 (lit< tt))).0 (h D _ _ _ (common_some three 3) (at 0 (lit< tt)) (at 1 (lit< tt)) (at 2 (lit< tt)))
