-- A ring grows by a point: the sides that have it on the right give way to two sides that meet in it.
use Rattle.std.proofs.Common.{◌≡◌, ℕ, List, ◌∷◌, ◌++◌, refl, ap, inl, inr, ⊎_elim}
use Rattle.plane.specs.Whole.{WholePoint}
use Rattle.plane.specs.Rings.{steps, sides, In}
use Rattle.plane.proofs.Polygons.{LeftOf, RightOf, EndOrLeft, Sees, Inside, Convex, AllLeft, AllRight}
use Rattle.plane.proofs.Members.{all_in, all_from_in, in_left, in_right}
use Rattle.plane.proofs.Ways.{steps_append, first_step, last_step, side_ends}
use Rattle.plane.proofs.Tangents.{start, finish}

module _ (p : ℕ → WholePoint) (k a b : ℕ) (removed rest : List ℕ)
    (convex : Convex p (a ∷ (removed ++ b ∷ rest))) (rights : AllRight p (p k) (steps a removed b)) (lefts : AllLeft p (p k) (steps b rest a)) where
  of_run : (s : ℕ × ℕ) → In s (steps a removed b) → In s (sides (a ∷ (removed ++ b ∷ rest)))
  of_run s i = rw steps_append (in_left s (steps a removed b) (steps b rest a) i)

  of_rest : (s : ℕ × ℕ) → In s (steps b rest a) → In s (sides (a ∷ (removed ++ b ∷ rest)))
  of_rest s i = rw steps_append (in_right s (steps a removed b) (steps b rest a) i)

  right : (s : ℕ × ℕ) → In s (steps a removed b) → RightOf p (p k) s
  right = all_in (RightOf p (p k)) (steps a removed b) rights

  left : (s : ℕ × ℕ) → In s (steps b rest a) → LeftOf p (p k) s
  left = all_in (LeftOf p (p k)) (steps b rest a) lefts

  sees_end : (s t : ℕ × ℕ) → In s (sides (a ∷ (removed ++ b ∷ rest))) → In t (sides (a ∷ (removed ++ b ∷ rest))) → Sees p s.1 t
  sees_end s t i = convex s.1 (side_ends (a ∷ (removed ++ b ∷ rest)) s i).1 t

  -- whatever was an end of each side or left of it still is
  stays : (q : WholePoint) (Same : ℕ → Type 0) → ((x : ℕ) → Same x → q ≡ p x) → ((s : ℕ × ℕ) → In s (sides (a ∷ (removed ++ b ∷ rest))) → EndOrLeft p Same q s)
      → (s : ℕ × ℕ) → In s (sides (a ∷ k ∷ b ∷ rest)) → EndOrLeft p Same q s
  stays q Same same h s (inl e) =
      let (o, oa) = last_step b rest a in
      let (n, an) = first_step a removed b in
      let i = of_rest (o, a) oa in
      let j = of_run (a, n) an in
      rw e (⊎_elim inl (λ l. inr (inr l)) (start p (p k) q Same same o a n (left (o, a) oa) (right (a, n) an) (sees_end (a, n) (o, a) j i) (h (o, a) i) (h (a, n) j)))
  stays q Same same h s (inr (inl e)) =
      let (m, mb) = last_step a removed b in
      let (r, br) = first_step b rest a in
      let i = of_run (m, b) mb in
      let j = of_rest (b, r) br in
      rw e (inr (finish p (p k) q Same same m b r (right (m, b) mb) (left (b, r) br) (sees_end (b, r) (m, b) j i) (h (m, b) i) (h (b, r) j)))
  stays q Same same h s (inr (inr i)) = h s (of_rest s i)

  pub inside_stays : (c : ℕ) → Inside p (a ∷ (removed ++ b ∷ rest)) c → Inside p (a ∷ k ∷ b ∷ rest) c
  inside_stays c h = stays (p c) (λ x. c ≡ x) (λ x e. ap p e) h

  pub left_stays : (q : WholePoint) → AllLeft p q (sides (a ∷ (removed ++ b ∷ rest))) → AllLeft p q (sides (a ∷ k ∷ b ∷ rest))
  left_stays q h = all_from_in (LeftOf p q) (sides (a ∷ k ∷ b ∷ rest)) (λ s i. ⊎_elim absurd (⊎_elim absurd (λ l. l))
      (stays q (λ x. ⊥) (λ x. absurd) (λ t j. inr (inr (all_in (LeftOf p q) (sides (a ∷ (removed ++ b ∷ rest))) h t j))) s i))

  inside_new : Inside p (a ∷ k ∷ b ∷ rest) k
  inside_new s (inl e) = rw e (inr (inl refl))
  inside_new s (inr (inl e)) = rw e (inl refl)
  inside_new s (inr (inr i)) = inr (inr (left s i))

  pub ring_grows : Convex p (a ∷ k ∷ b ∷ rest)
  ring_grows c (inl e) = inside_stays c (convex c (inl e))
  ring_grows c (inr (inl e)) = rw e inside_new
  ring_grows c (inr (inr i)) = inside_stays c (convex c (inr (in_right c removed (b ∷ rest) i)))
