-- What the centre judge says is certain.
use Rattle.std.specs.Prelude.{◌≡◌, ℕ, ◌+◌, ◌*◌, ◌<◌, ◌≤◌, [], ◌∷◌, ℤ, pos, ◌-ℤ◌, ◌*ℤ◌, neg_ℤ, ◌<ℤ◌, unsigned_abs}
use Rattle.std.proofs.Common.{le_trans, le_of_eq, mul-pos, arith}
use Rattle.std.specs.Int.Signed.{lt_z_yes}
use Rattle.std.proofs.lemmas.Int.{ints}
use Rattle.plane.specs.Fractions.{Positive, Negative}
use Rattle.plane.specs.Points.{Point, doubled_area}
use Rattle.plane.specs.Whole.{WholePoint}
use Rattle.plane.proofs.Integers.{abs_mul}
use Rattle.plane.proofs.Orders.{times_lt}
use Rattle.plane.proofs.Ring.{var, ◌⊖◌, ◌⊗◌, ring}
use Rattle.plane.proofs.Scaling.{ScalesTo, positive, negative}
use Rattle.orientation.proofs.Moves.{product_moves}
use Rattle.reading.specs.declared.dipped.Dipped.{Dipped}
use Rattle.reading.specs.contracts.kind.DippedKind.TheImpl as DippedKind
use Rattle.reading.specs.Makes.{dipped_numbers}
use Rattle.reading.specs.TruePoints.{DippedPoint}
use Rattle.judge.specs.Words.{Certain}
use Rattle.judge.specs.Dips.{Coordinate, Dip, level, head}
use Rattle.judge.specs.Centre.{apart, product_doubt, centre_area, centre_doubt, centre_word}
use Rattle.judge.specs.TrueDips.{close}
use Rattle.judge.specs.Wordings.{worded_certain}

-- z is within D times a tolerance of D times a centre
abbrev Within : ℕ → Coordinate → ℤ → Type 0
Within D x z = unsigned_abs (z -ℤ x.0 *ℤ pos D) ≤ x.1 * D

apart_within : (D : ℕ) (x y : Coordinate) (z w : ℤ) → Within D x z → Within D y w → Within D (apart x y) (z -ℤ w)
apart_within D x y z w h k =
    let e = ring (x.0 ∷ y.0 ∷ pos D ∷ []) ((var 0 ⊖ var 1) ⊗ var 2) (var 0 ⊗ var 2 ⊖ var 1 ⊗ var 2) tt in
    omega (arith, ints)

product_within : (D : ℕ) (p q : Coordinate) (z w : ℤ) → Within D p z → Within D q w → Within (D * D) (p.0 *ℤ q.0, product_doubt p q) (z *ℤ w)
product_within D p q z w h k =
    let e : p.0 *ℤ q.0 *ℤ pos (D * D) ≡ (p.0 *ℤ pos D) *ℤ (q.0 *ℤ pos D) = ring (p.0 ∷ q.0 ∷ pos D ∷ []) (var 0 ⊗ var 1 ⊗ (var 2 ⊗ var 2)) ((var 0 ⊗ var 2) ⊗ (var 1 ⊗ var 2)) tt in
    rw e (le_trans (product_moves z (p.0 *ℤ pos D) w (q.0 *ℤ pos D) (p.1 * D) (q.1 * D) h k) (le_of_eq (rw (abs_mul q.0 (pos D), abs_mul p.0 (pos D)) (omega arith))))

-- two products apart: the true area exceeds 0 where that of the centres exceeds the doubts
exceeds : (E : ℕ) → 0 < E → (a b : ℤ) (m n : ℕ) (z w : ℤ) → Within E (a, m) z → Within E (b, n) w → pos (m + n) <ℤ (a -ℤ b) → pos 0 <ℤ (z -ℤ w)
exceeds E some a b m n z w h k l =
    let t = times_lt (pos (m + n)) (a -ℤ b) E some l in
    let e = ring (a ∷ b ∷ pos E ∷ []) ((var 0 ⊖ var 1) ⊗ var 2) (var 0 ⊗ var 2 ⊖ var 1 ⊗ var 2) tt in
    omega (arith, ints)

-- the true area of four differences exceeds 0 where that of the centres exceeds the doubts
area_exceeds : (D : ℕ) → 0 < D → (p q r s : Coordinate) (x y z w : ℤ) → Within D p x → Within D q y → Within D r z → Within D s w → pos (product_doubt p q + product_doubt r s) <ℤ (p.0 *ℤ q.0 -ℤ r.0 *ℤ s.0) → pos 0 <ℤ (x *ℤ y -ℤ z *ℤ w)
area_exceeds D some p q r s x y z w hp hq hr hs l =
    exceeds (D * D) (mul-pos some some) (p.0 *ℤ q.0) (r.0 *ℤ s.0) (product_doubt p q) (product_doubt r s) (x *ℤ y) (z *ℤ w) (product_within D p q x y hp hq) (product_within D r s z w hr hs) l

module _ (a b c : Dip) (p q s : Point) (ha : DippedPoint a.0 a.1 a.2 a.3 p) (hb : DippedPoint b.0 b.1 b.2 b.3 q) (hc : DippedPoint c.0 c.1 c.2 c.3 s) where
  module _ (D : ℕ) (A B C : WholePoint) (sa : ScalesTo D p A) (sb : ScalesTo D q B) (sc : ScalesTo D s C) where
    pub first_level : Within D (apart (level a) (level c)) (A.level -ℤ C.level)
    first_level = apart_within D (level a) (level c) A.level C.level (close (level a) p.level D A.level ha.0 sa.0) (close (level c) s.level D C.level hc.0 sc.0)

    pub first_head : Within D (apart (head a) (head c)) (A.head -ℤ C.head)
    first_head = apart_within D (head a) (head c) A.head C.head (close (head a) p.head D A.head ha.1 sa.1) (close (head c) s.head D C.head hc.1 sc.1)

    pub second_level : Within D (apart (level b) (level c)) (B.level -ℤ C.level)
    second_level = apart_within D (level b) (level c) B.level C.level (close (level b) q.level D B.level hb.0 sb.0) (close (level c) s.level D C.level hc.0 sc.0)

    pub second_head : Within D (apart (head b) (head c)) (B.head -ℤ C.head)
    second_head = apart_within D (head b) (head c) B.head C.head (close (head b) q.head D B.head hb.1 sb.1) (close (head c) s.head D C.head hc.1 sc.1)

  pub centre_left : pos (centre_doubt a b c) <ℤ centre_area a b c → Positive (doubled_area p q s)
  unfolding centre_doubt centre_area
  centre_left l = positive p q s (λ D A B C some sa sb sc.
      area_exceeds D some _ _ _ _ (A.level -ℤ C.level) (B.head -ℤ C.head) (B.level -ℤ C.level) (A.head -ℤ C.head) (first_level D A B C sa sb sc) (second_head D A B C sa sb sc) (second_level D A B C sa sb sc) (first_head D A B C sa sb sc) l)

  pub centre_right : pos (centre_doubt a b c) <ℤ neg_ℤ (centre_area a b c) → Negative (doubled_area p q s)
  unfolding centre_doubt centre_area
  centre_right l = negative p q s (λ D A B C some sa sb sc.
      under ((A.level -ℤ C.level) *ℤ (B.head -ℤ C.head)) ((B.level -ℤ C.level) *ℤ (A.head -ℤ C.head))
      (area_exceeds D some _ _ _ _ (B.level -ℤ C.level) (A.head -ℤ C.head) (A.level -ℤ C.level) (B.head -ℤ C.head) (second_level D A B C sa sb sc) (first_head D A B C sa sb sc) (first_level D A B C sa sb sc) (second_head D A B C sa sb sc) (turned _ _ ((apart (level a) (level c)).0 *ℤ (apart (head b) (head c)).0) ((apart (level b) (level c)).0 *ℤ (apart (head a) (head c)).0) l)))
    where
      under : (x y : ℤ) → pos 0 <ℤ (y -ℤ x) → (x -ℤ y) <ℤ pos 0
      under x y h = omega (arith, ints)

      turned : (m n : ℕ) (x y : ℤ) → pos (m + n) <ℤ neg_ℤ (x -ℤ y) → pos (n + m) <ℤ (y -ℤ x)
      turned m n x y h = omega (arith, ints)

pub centre_certain : (a b c : Dipped) → Certain (DippedKind.ghosts).stands a b c (centre_word (dipped_numbers a) (dipped_numbers b) (dipped_numbers c))
centre_certain a b c = worded_certain (DippedKind.ghosts).stands a b c _ _
    (λ l p q s ha hb hc. centre_left (dipped_numbers a) (dipped_numbers b) (dipped_numbers c) p q s ha hb hc (lt_z_yes l))
    (λ l p q s ha hb hc. centre_right (dipped_numbers a) (dipped_numbers b) (dipped_numbers c) p q s ha hb hc (lt_z_yes l))
