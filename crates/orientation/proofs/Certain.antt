-- Where D exceeds E, every choice of true points has a positive area, and where -D does, a negative one.
use Rattle.std.proofs.Common.{◌≡◌, ℕ, ◌*◌, ◌^◌, ◌<◌, T, [], ◌∷◌, ℤ, pos, ◌-ℤ◌, ◌*ℤ◌, nat_abs, ◌≤ℤ◌, sym, ap, ◌∙◌, subst, le_trans, le_of_eq, mul_comm, mul-pos, le_of_mul-le-mul_right, arith}
use lib.Ieee.{Float, lt, neg}
use borrow.Author.Differences.{ints}
use Rattle.plane.specs.Fractions.{Fraction, whole, minus, times, size, AtMost, Positive, Negative}
use Rattle.plane.specs.Points.{Point, doubled_area}
use Rattle.plane.specs.Whole.{WholePoint}
use Rattle.plane.proofs.Integers.{abs_mul}
use Rattle.plane.proofs.Ring.{var, ◌⊗◌, ring}
use Rattle.plane.proofs.Scaling.{Scales, ScalesTo, positive, negative}
use Rattle.reading.specs.Limits.{loggable}
use Rattle.reading.specs.TruePoints.{value_of}
use Rattle.orientation.specs.Filter.{difference, allowance}
use Rattle.orientation.proofs.Near.{U, Near, near_times, near_over}
use Rattle.orientation.proofs.Units.{K, K_some, Val, val_scales, neg_val, lt_val}
use Rattle.orientation.proofs.ErrorBound.{left_clear, right_clear}
use Rattle.orientation.proofs.TrueAreas.{NearPoint, larger, true_left, true_right}
use Rattle.orientation.proofs.Coefficients.{Coefficient}
use Rattle.orientation.proofs.Grains.{PointGrains, point, point_grains}
use Rattle.orientation.proofs.Computed.{results}

-- 2^53 · |t - v| ≤ |v|, as for every t that rounds to v
abbrev pub Close : Float → Fraction → Type 0
Close v t = AtMost (times (whole (pos (2 ^ 53))) (size (minus t (value_of v)))) (size (value_of v))

abbrev pub ClosePoint : Float × Float → Point → Type 0
ClosePoint a p = Close a.0 p.level × Close a.1 p.head

abbrev pub InRange : Float × Float → Type 0
InRange a = T (loggable a.0) × T (loggable a.1)

-- ---- t is z/d, and v is n/K
crossed : (x z a b d k : ℤ) → z *ℤ a ≡ x *ℤ d → (x *ℤ b) *ℤ (d *ℤ k) ≡ (z *ℤ k) *ℤ (a *ℤ b)
crossed x z a b d k e =
    ring (x ∷ b ∷ d ∷ k ∷ []) ((var 0 ⊗ var 1) ⊗ (var 2 ⊗ var 3)) ((var 0 ⊗ var 2) ⊗ (var 1 ⊗ var 3)) tt
    ∙ ap (λ u. u *ℤ (b *ℤ k)) (sym e)
    ∙ ring (z ∷ a ∷ b ∷ k ∷ []) ((var 0 ⊗ var 1) ⊗ (var 2 ⊗ var 3)) ((var 0 ⊗ var 3) ⊗ (var 1 ⊗ var 2)) tt

near_scaled : (x y z n : ℤ) (a b d k : ℕ) → 0 < a → 0 < b → (pos U *ℤ pos (nat_abs (x *ℤ pos b -ℤ y *ℤ pos a)) *ℤ pos b) ≤ℤ (pos (nat_abs y) *ℤ pos (1 * (a * b)))
    → z *ℤ pos a ≡ x *ℤ pos d → n *ℤ pos b ≡ y *ℤ pos k → Near (z *ℤ pos k) (n *ℤ pos d)
near_scaled x y z n a b d k A B h e f =
    let same : Near (x *ℤ pos b) (y *ℤ pos a) = record { within = le_trans (le_of_mul-le-mul_right {k = b} (omega (arith, ints)) B) (le_of_eq (sym (abs_mul y (pos a)))) } in
    let g = ap (λ u. y *ℤ pos a *ℤ pos u) (mul_comm d k) ∙ crossed y n (pos b) (pos a) (pos k) (pos d) f ∙ ap (λ u. n *ℤ pos d *ℤ pos u) (mul_comm b a) in
    near_over (a * b) (mul-pos A B) (subst (λ u. Near u (n *ℤ pos d *ℤ pos (a * b))) (crossed x z (pos a) (pos b) (pos d) (pos k) e)
    (subst (λ u. Near (x *ℤ pos b *ℤ pos (d * k)) u) g (near_times (d * k) same)))

close_near : (v : Float) (t : Fraction) (z n : ℤ) (d : ℕ) → Close v t → Scales d t z → Val v n → Near (z *ℤ pos K) (n *ℤ pos d)
close_near v t z n d h e f = near_scaled t.num (value_of v).num z n t.den (value_of v).den d K t.some (value_of v).some h e (val_scales v n f)

close_points : {a : Float × Float} (p : Point) (A : WholePoint) (d : ℕ) (g : PointGrains a) → ClosePoint a p → ScalesTo d p A → NearPoint (larger K A) (larger d (point g))
close_points p A d g h e = (close_near _ p.level A.level _ d h.0 e.0 g.0.is, close_near _ p.head A.head _ d h.1 e.1 g.1.is)

pub left_certain : (k : Float) → Coefficient k → (a b c : Float × Float) → InRange a → InRange b → InRange c → T (lt (allowance k a b c) (difference a b c))
    → (p q s : Point) → ClosePoint a p → ClosePoint b q → ClosePoint c s → Positive (doubled_area p q s)
left_certain k f a b c ia ib ic h p q s cp cq cs =
    let α = point_grains a ia in
    let β = point_grains b ib in
    let γ = point_grains c ic in
    let g = results f a b c α β γ in
    let clear = left_clear f g (lt_val _ _ _ _ g.is_E g.is_D h) in
    positive p q s (λ d A B C some ha hb hc. true_left K d A B C _ _ _ K_some some (close_points p A d α cp ha) (close_points q B d β cq hb) (close_points s C d γ cs hc) clear)

pub right_certain : (k : Float) → Coefficient k → (a b c : Float × Float) → InRange a → InRange b → InRange c → T (lt (allowance k a b c) (neg (difference a b c)))
    → (p q s : Point) → ClosePoint a p → ClosePoint b q → ClosePoint c s → Negative (doubled_area p q s)
right_certain k f a b c ia ib ic h p q s cp cq cs =
    let α = point_grains a ia in
    let β = point_grains b ib in
    let γ = point_grains c ic in
    let g = results f a b c α β γ in
    let clear = right_clear f g (lt_val _ _ _ _ g.is_E (neg_val _ _ g.is_D) h) in
    negative p q s (λ d A B C some ha hb hc. true_right K d A B C _ _ _ K_some some (close_points p A d α cp ha) (close_points q B d β cq hb) (close_points s C d γ cs hc) clear)
