-- What is inside a ring lies in no direction beyond all corners; what is right of a side of a convex ring does in one.
use Rattle.std.proofs.Common.{◌≡◌, ℕ, ◌≢◌, List, [], ◌∷◌, ℤ, pos, ◌-ℤ◌, ◌≤ℤ◌, ◌<ℤ◌, sym, subst, arith}
use lib.Signed.{<ℤ_irrefl}
use borrow.Author.Differences.{ints}
use Rattle.plane.specs.Whole.{WholePoint}
use Rattle.plane.specs.Rings.{steps, sides, In}
use Rattle.plane.proofs.Polygons.{LeftOf, RightOf, AllLeft, Inside, Convex, whole_reach, Beyond}
use Rattle.plane.proofs.Areas.{area_line, area_outward}
use Rattle.plane.proofs.Members.{all_in, all_from_in}
use Rattle.plane.proofs.Ways.{side_ends}
use Rattle.plane.proofs.LeftRight.{weighs, never_both, seen_strictly, seen_not_right}

over : (a k : ℤ) → a <ℤ k → pos 0 <ℤ (k -ℤ a)
over a k h = omega (arith, ints)

module _ (p : ℕ → WholePoint) where
  module _ (u v : ℤ) where
    climbs : (q : WholePoint) (x : ℕ) (l : List ℕ) (z : ℕ) → AllLeft p q (steps x l z) → Beyond p u v q (x ∷ l) → whole_reach u v (p z) <ℤ whole_reach u v q → LeftOf p q (x, z)
    climbs q x [] z h f g = h.0
    climbs q x (y ∷ l) z h f g = weighs _ _ _ _ _ _ (area_line u v (p x) (p y) (p z) q) (over _ _ f.1.0) (climbs q y l z h.1 f.1 g) (over _ _ f.0) h.0 (over _ _ g)

    pub not_beyond : (q : WholePoint) (x : ℕ) (l : List ℕ) → AllLeft p q (sides (x ∷ l)) → Beyond p u v q (x ∷ l) → ⊥
    not_beyond q x l h f = let c = climbs q x l x h f f.0 in never_both (p x) (p x) q c c

    pub inside_is_not_beyond : (c x : ℕ) (l : List ℕ) → Inside p (x ∷ l) c → Beyond p u v (p c) (x ∷ l) → ⊥
    inside_is_not_beyond c x l h f = not_beyond (p c) x l (all_from_in (LeftOf p (p c)) (sides (x ∷ l)) left) f
      where
        other : (d : ℕ) → In d (x ∷ l) → c ≢ d
        other d i e = <ℤ_irrefl (all_in (λ b. whole_reach u v (p b) <ℤ whole_reach u v (p c)) (x ∷ l) f c (subst (λ b. In b (x ∷ l)) (sym e) i))

        left : (s : ℕ × ℕ) → In s (sides (x ∷ l)) → LeftOf p (p c) s
        left s i = let ends = side_ends (x ∷ l) s i in seen_strictly p c s (other s.0 ends.0) (other s.1 ends.1) (h s i)

  -- the direction points outward from that side
  pub outside : (ring : List ℕ) → Convex p ring → (a b : ℕ) → In (a, b) (sides ring) → (q : WholePoint) → RightOf p q (a, b) → (u : ℤ) × (v : ℤ) × Beyond p u v q ring
  outside ring h a b i q r = (
    (p b).head -ℤ (p a).head,
    (p a).level -ℤ (p b).level,
    all_from_in _ ring (λ c j. letters _ _ _ _ _ (area_outward (p a) (p b) (p c)) (area_outward (p a) (p b) q) (seen_not_right p c (a, b) (h c j (a, b) i)) r),
  )
    where
      letters : (x y k c q : ℤ) → x ≡ k -ℤ c → y ≡ k -ℤ q → pos 0 ≤ℤ c → q <ℤ pos 0 → x <ℤ y
      letters x y k c q e f g h = omega (arith, ints)
