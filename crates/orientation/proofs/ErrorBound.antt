-- The error bound, over whole numbers: a D above E, or below -E, puts the recorded points' area beyond what true points can move it by.
use Rattle.std.proofs.Common.{ℕ, ◌+◌, ◌*◌, ◌<◌, ◌≤◌, [], ◌∷◌, ℤ, pos, negsuc, ◌-ℤ◌, ◌*ℤ◌, neg_ℤ, nat_abs, ◌<ℤ◌, subst, le_trans, le_of_eq, le_refl, mul-le-mul_right, mul-le-mul, mul-lt-mul_of_pos_right, le_of_mul-le-mul_right, arith}
use lib.Ieee.{Float}
use borrow.Author.Differences.{ints}
use Rattle.plane.specs.Whole.{WholePoint, area}
use Rattle.plane.proofs.Integers.{abs_mul}
use Rattle.plane.proofs.Ring.{var, minus, ◌⊖◌, ◌⊗◌, ring}
use Rattle.orientation.proofs.Moves.{product_moves}
use Rattle.orientation.proofs.Near.{U, V, Near, near_times, size_of}
use Rattle.orientation.proofs.Units.{K, K_some}
use Rattle.orientation.proofs.Coefficients.{Coefficient}
use Rattle.orientation.proofs.Results.{Results}

-- ---- a product moves by at most 2u + u², its rounding by at most 3u + 3u² + u³
pub product_gap : (p' p q' q : ℤ) (P Q : ℕ) → U * nat_abs (p' -ℤ p) ≤ P → U * nat_abs (q' -ℤ q) ≤ Q → nat_abs p ≤ P → nat_abs q ≤ Q
    → U * U * nat_abs (p' *ℤ q' -ℤ p *ℤ q) ≤ (2 * U + 1) * (P * Q)
product_gap p' p q' q P Q hp hq bp bq = finish _ _ _ _ _ hp hq bp bq (product_moves p' p q' q _ _ (le_refl _) (le_refl _))
  where
    finish : (a b m n z : ℕ) → U * a ≤ P → U * b ≤ Q → m ≤ P → n ≤ Q → z ≤ a * n + m * b + a * b → U * U * z ≤ (2 * U + 1) * (P * Q)
    finish a b m n z ha hb hm hn h = omega (arith, mul-le-mul ha hn, mul-le-mul hm hb, mul-le-mul ha hb)

near_gap : (x y z : ℤ) (m : ℕ) → Near x y → U * U * nat_abs (y -ℤ z) ≤ (2 * U + 1) * m → nat_abs z ≤ m → U * U * U * nat_abs (x -ℤ z) ≤ (3 * U * U + 3 * U + 1) * m
near_gap x y z m h k b = omega (arith, through x y z, between y z)
  where
    through : (x y z : ℤ) → nat_abs (x -ℤ z) ≤ nat_abs (x -ℤ y) + nat_abs (y -ℤ z)
    through x y z = omega (arith, ints)

    between : (y z : ℤ) → nat_abs y ≤ nat_abs z + nat_abs (y -ℤ z)
    between y z = omega (arith, ints)

rounded_gap : {p m q n w : ℤ} (P Q : ℕ) → Near p m → Near q n → Near w (p *ℤ q) → nat_abs m ≤ P → nat_abs n ≤ Q → U * U * U * nat_abs (w -ℤ m *ℤ n) ≤ (3 * U * U + 3 * U + 1) * (P * Q)
rounded_gap {p} {m} {q} {n} {w} P Q hp hq hw bm bn =
    near_gap w (p *ℤ q) (m *ℤ n) (P * Q) hw (product_gap p m q n P Q (le_trans hp.within bm) (le_trans hq.within bn) bm bn) (le_trans (le_of_eq (abs_mul m n)) (mul-le-mul bm bn))

-- ---- E from below
shrunk : {v n : ℕ} → Near (pos v) (pos n) → V * n ≤ U * v
shrunk h = omega (arith, ints)

product_shrunk : {P Q w m n : ℕ} → Near (pos P) (pos m) → Near (pos Q) (pos n) → Near (pos w) (pos (P * Q)) → V * V * V * (m * n) ≤ U * U * U * w
product_shrunk p q w = omega (arith, mul-le-mul (shrunk p) (shrunk q), shrunk w)

-- E is at least what D may be off by and true points may move the area by
allowed : {k : Float} (f : Coefficient k) (w₁ w₂ T E m n : ℕ) → V * V * V * m ≤ U * U * U * (w₁ * K) → V * V * V * n ≤ U * U * U * (w₂ * K) → V * (w₁ + w₂) ≤ U * T → V * (f.c * T) ≤ U * (E * K)
    → (U + 1) * (5 * U * U + 4 * U + 1) * (m + n) ≤ U * U * U * U * (E * K)
allowed f w₁ w₂ T E m n h₁ h₂ t e =
    let whole : V * V * V * V * (m + n) ≤ U * U * U * U * (T * K) = omega (arith, mul-le-mul_right K t) in
    le_of_mul-le-mul_right {k = K} (omega (arith, mul-le-mul_right (m + n) f.enough, mul-le-mul_right f.c whole, mul-le-mul_right K e)) K_some

-- ---- the recorded area
-- r is more than (2u + u²) · m
pub record Clear (r : ℤ) (m : ℕ) : Type 0 where
  pub above : pos 0 <ℤ (pos (U * U) *ℤ r -ℤ pos ((2 * U + 1) * m))

-- T without rounding
abbrev pub mass : WholePoint → WholePoint → WholePoint → ℕ
mass a b c = (nat_abs a.level + nat_abs c.level) * (nat_abs b.head + nat_abs c.head) + (nat_abs b.level + nat_abs c.level) * (nat_abs a.head + nat_abs c.head)

-- D is rounded from x₁ - x₂, and x₁ and x₂ from r₁ and r₂
beyond : (D x₁ x₂ r₁ r₂ : ℤ) (e m n : ℕ) → Near D (x₁ -ℤ x₂) → U * U * U * nat_abs (x₁ -ℤ r₁) ≤ (3 * U * U + 3 * U + 1) * m → U * U * U * nat_abs (x₂ -ℤ r₂) ≤ (3 * U * U + 3 * U + 1) * n
    → (U + 1) * (5 * U * U + 4 * U + 1) * (m + n) ≤ U * U * U * U * e → (pos e <ℤ D → Clear (r₁ -ℤ r₂) (m + n)) × (pos e <ℤ neg_ℤ D → Clear (neg_ℤ (r₁ -ℤ r₂)) (m + n))
beyond D x₁ x₂ r₁ r₂ e m n h h₁ h₂ a = ((λ l. record { above = omega (arith, ints) }), (λ l. record { above = omega (arith, ints) }))

less_times : (e : ℕ) (d : ℤ) → pos e <ℤ d → pos (e * K) <ℤ (d *ℤ pos K)
less_times e (pos n) l = let h : e < n = omega (arith, ints) in omega (arith, ints, mul-lt-mul_of_pos_right h K_some)
less_times e (negsuc n) l = absurd l.lt

module _ {a b c : WholePoint} {k x y z : Float} (f : Coefficient k) (g : Results a b c f.c x y z) where
  near_D_times : Near (g.D *ℤ pos K) (g.w₁ *ℤ pos K -ℤ g.w₂ *ℤ pos K)
  near_D_times = subst (λ z. Near (g.D *ℤ pos K) z) (ring (g.w₁ ∷ g.w₂ ∷ pos K ∷ []) ((var 0 ⊖ var 1) ⊗ var 2) (var 0 ⊗ var 2 ⊖ var 1 ⊗ var 2) tt) (near_times K g.near_D)

  beyond_E : (pos (g.E * K) <ℤ (g.D *ℤ pos K) → Clear (area a b c) (mass a b c)) × (pos (g.E * K) <ℤ neg_ℤ (g.D *ℤ pos K) → Clear (neg_ℤ (area a b c)) (mass a b c))
  beyond_E = beyond _ (g.w₁ *ℤ pos K) (g.w₂ *ℤ pos K) ((a.level -ℤ c.level) *ℤ (b.head -ℤ c.head)) ((b.level -ℤ c.level) *ℤ (a.head -ℤ c.head)) _ _ _ near_D_times
      (rounded_gap _ _ g.near_p g.near_q g.near_w₁ (size_of a.level c.level) (size_of b.head c.head))
      (rounded_gap _ _ g.near_r g.near_s g.near_w₂ (size_of b.level c.level) (size_of a.head c.head))
      (allowed f _ _ _ _ _ _ (product_shrunk g.near_P g.near_Q g.near_W₁) (product_shrunk g.near_R g.near_S g.near_W₂) (shrunk g.near_T) (shrunk g.near_E))

  pub left_clear : pos g.E <ℤ g.D → Clear (area a b c) (mass a b c)
  left_clear l = beyond_E.0 (less_times g.E g.D l)

  pub right_clear : pos g.E <ℤ neg_ℤ g.D → Clear (neg_ℤ (area a b c)) (mass a b c)
  right_clear l = beyond_E.1 (subst (λ z. pos (g.E * K) <ℤ z) (ring (g.D ∷ pos K ∷ []) (minus (var 0) ⊗ var 1) (minus (var 0 ⊗ var 1)) tt) (less_times g.E (neg_ℤ g.D) l))
