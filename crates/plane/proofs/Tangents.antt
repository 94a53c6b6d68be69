-- Tangents: the lines from a point to the two ends of the run of sides that have it on the right.
use Rattle.std.proofs.Common.{◌≡◌, ℕ, ◌⊎◌, inl, inr}
use Rattle.plane.specs.Whole.{WholePoint}
use Rattle.plane.proofs.Polygons.{Left, Right, LeftOf, RightOf, EndOrLeft, Sees}
use Rattle.plane.proofs.Areas.{area_three, area_three_mirrored}
use Rattle.plane.proofs.LeftRight.{weighs, cycled, exchanged, never_both}

-- k left of the line from o to a and right of the one from a to n: what is left of both is left of the one from a to k
tangent : (o a n k c : WholePoint) → Left o a n → Left o a k → Right a n k → Left o a c → Left a n c → Left a k c
tangent o a n k c oan oak ank oac anc = weighs _ _ _ _ _ _ (area_three a k c n o) oan (exchanged a n k ank) oac oak anc

-- k right of the line from m to b and left of the one from b to r
tangent_mirrored : (m b r k c : WholePoint) → Left m b r → Right m b k → Left b r k → Left m b c → Left b r c → Left k b c
tangent_mirrored m b r k c mbr mbk brk mbc brc = weighs _ _ _ _ _ _ (area_three_mirrored b k c m r) mbr mbc brk brc (exchanged m b k mbk)

-- over corners: q is the corner that Same says, or no corner
module _ (p : ℕ → WholePoint) (k q : WholePoint) (Same : ℕ → Type 0) (same : (a : ℕ) → Same a → q ≡ p a) where
  pub start : (o a n : ℕ) → LeftOf p k (o, a) → RightOf p k (a, n) → Sees p n (o, a) → EndOrLeft p Same q (o, a) → EndOrLeft p Same q (a, n) → Same a ⊎ Left (p a) k q
  start o a n l r seen (inl e) an = inr (rw (same o e) (cycled (p o) (p a) k l))
  start o a n l r seen (inr (inl e)) an = inl e
  start o a n l r seen (inr (inr g)) (inl e) = inl e
  start o a n l r seen (inr (inr g)) (inr (inl e)) = inr (rw (same n e) (cycled (p n) (p a) k (exchanged (p a) (p n) k r)))
  start o a n l r seen (inr (inr g)) (inr (inr h)) = inr (by seen)
    where
      by : Sees p n (o, a) → Left (p a) k q
      by (inl e) = absurd (never_both (p a) (p n) q h (rw e g))
      by (inr (inl e)) = let f = exchanged (p a) (p n) k r in absurd (never_both (p a) (p a) k (rw e at f) (rw e at f))
      by (inr (inr f)) = tangent (p o) (p a) (p n) k q f l r g h

  pub finish : (m b r : ℕ) → RightOf p k (m, b) → LeftOf p k (b, r) → Sees p r (m, b) → EndOrLeft p Same q (m, b) → EndOrLeft p Same q (b, r) → Same b ⊎ Left k (p b) q
  finish m b r x l seen (inl e) br = inr (rw (same m e) (cycled (p m) k (p b) (cycled (p b) (p m) k (exchanged (p m) (p b) k x))))
  finish m b r x l seen (inr (inl e)) br = inl e
  finish m b r x l seen (inr (inr g)) (inl e) = inl e
  finish m b r x l seen (inr (inr g)) (inr (inl e)) = inr (rw (same r e) (cycled (p r) k (p b) (cycled (p b) (p r) k l)))
  finish m b r x l seen (inr (inr g)) (inr (inr h)) = inr (by seen)
    where
      by : Sees p r (m, b) → Left k (p b) q
      by (inl e) = absurd (never_both (p m) (p b) q g (rw e at h))
      by (inr (inl e)) = absurd (never_both (p b) (p b) k (rw e at l) (rw e at l))
      by (inr (inr f)) = tangent_mirrored (p m) (p b) (p r) k q f x l g h
