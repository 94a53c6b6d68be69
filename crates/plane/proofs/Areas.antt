-- The laws of areas, each by the ring solver.
use Rattle.std.proofs.Common.{◌≡◌, ℕ, suc, ◌+◌, List, [], ◌∷◌, ℤ, pos, ◌+ℤ◌, ◌-ℤ◌, ◌*ℤ◌, neg_ℤ}
use Rattle.plane.specs.Whole.{WholePoint, area}
use Rattle.plane.proofs.Polygons.{whole_reach}
use Rattle.plane.proofs.Ring.{Ex, var, num, minus, ◌⊕◌, ◌⊖◌, ◌⊗◌, ring}

-- the n-th point as an expression: its coordinates are two variables
record PointE : Type 0 where
  level : Ex
  head : Ex

abbrev P : ℕ → PointE
P n = record { level = var (n + n); head = var (suc (n + n)) }

abbrev area_e : PointE → PointE → PointE → Ex
area_e a b c = (a.level ⊖ c.level) ⊗ (b.head ⊖ c.head) ⊖ (b.level ⊖ c.level) ⊗ (a.head ⊖ c.head)

abbrev reach_e : PointE → PointE → Ex
reach_e w q = w.level ⊗ q.level ⊕ w.head ⊗ q.head

abbrev coordinates : List WholePoint → List ℤ
coordinates [] = []
coordinates (q ∷ qs) = q.level ∷ q.head ∷ coordinates qs

pub area_cycle : (a b c : WholePoint) → area a b c ≡ area b c a
area_cycle a b c = ring (coordinates (a ∷ b ∷ c ∷ [])) (area_e (P 0) (P 1) (P 2)) (area_e (P 1) (P 2) (P 0)) tt

pub area_exchange : (a b c : WholePoint) → area b a c ≡ neg_ℤ (area a b c)
area_exchange a b c = ring (coordinates (a ∷ b ∷ c ∷ [])) (area_e (P 1) (P 0) (P 2)) (minus (area_e (P 0) (P 1) (P 2))) tt

pub area_flat : (a b : WholePoint) → area a b a ≡ pos 0
area_flat a b = ring (coordinates (a ∷ b ∷ [])) (area_e (P 0) (P 1) (P 0)) (num (pos 0)) tt

-- a triangle is the sum of the three that a point makes with its sides
pub area_split : (a b c k : WholePoint) → area a b k +ℤ area b c k +ℤ area c a k ≡ area a b c
area_split a b c k = ring (coordinates (a ∷ b ∷ c ∷ k ∷ [])) (area_e (P 0) (P 1) (P 3) ⊕ area_e (P 1) (P 2) (P 3) ⊕ area_e (P 2) (P 0) (P 3)) (area_e (P 0) (P 1) (P 2)) tt

-- the three-term identity around the point a
pub area_three : (a k c n o : WholePoint) → area a k c *ℤ area o a n ≡ area n a k *ℤ area o a c +ℤ area o a k *ℤ area a n c
area_three a k c n o = ring (coordinates (a ∷ k ∷ c ∷ n ∷ o ∷ []))
    (area_e (P 0) (P 1) (P 2) ⊗ area_e (P 4) (P 0) (P 3)) (area_e (P 3) (P 0) (P 1) ⊗ area_e (P 4) (P 0) (P 2) ⊕ area_e (P 4) (P 0) (P 1) ⊗ area_e (P 0) (P 3) (P 2)) tt

pub area_three_mirrored : (b k c m r : WholePoint) → area k b c *ℤ area m b r ≡ area m b c *ℤ area b r k +ℤ area b r c *ℤ area b m k
area_three_mirrored b k c m r = ring (coordinates (b ∷ k ∷ c ∷ m ∷ r ∷ []))
    (area_e (P 1) (P 0) (P 2) ⊗ area_e (P 3) (P 0) (P 4)) (area_e (P 3) (P 0) (P 2) ⊗ area_e (P 0) (P 4) (P 1) ⊕ area_e (P 0) (P 4) (P 2) ⊗ area_e (P 0) (P 3) (P 1)) tt

-- of three points seen from k, how far out each lies
pub area_line : (u v : ℤ) (a b c k : WholePoint) → area a c k *ℤ (whole_reach u v k -ℤ whole_reach u v b)
    ≡ area b c k *ℤ (whole_reach u v k -ℤ whole_reach u v a) +ℤ area a b k *ℤ (whole_reach u v k -ℤ whole_reach u v c)
area_line u v a b c k = ring (coordinates (a ∷ b ∷ c ∷ k ∷ record { level = u; head = v } ∷ []))
    (area_e (P 0) (P 2) (P 3) ⊗ (r 3 ⊖ r 1)) (area_e (P 1) (P 2) (P 3) ⊗ (r 3 ⊖ r 0) ⊕ area_e (P 0) (P 1) (P 3) ⊗ (r 3 ⊖ r 2)) tt
  where
    r : ℕ → Ex
    r n = reach_e (P 4) (P n)

-- outward of the line from a to b, c lies as much less far as its area is larger
pub area_outward : (a b c : WholePoint) → whole_reach (b.head -ℤ a.head) (a.level -ℤ b.level) c ≡ (a.level *ℤ b.head -ℤ b.level *ℤ a.head) -ℤ area a b c
area_outward a b c = ring (coordinates (a ∷ b ∷ c ∷ []))
    (reach_e (record { level = (P 1).head ⊖ (P 0).head; head = (P 0).level ⊖ (P 1).level }) (P 2)) (((P 0).level ⊗ (P 1).head ⊖ (P 1).level ⊗ (P 0).head) ⊖ area_e (P 0) (P 1) (P 2)) tt
