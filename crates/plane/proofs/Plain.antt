-- Convex rings in plain words, and the first of them.
use Rattle.std.proofs.Common.{◌≡◌, ℕ, ◌≢◌, ◌↔◌, List, [], ◌∷◌, inl, inr}
use native.Mathlib.Decide.{ℕ_discrete}
use Rattle.std.specs.List.{AllByRecursion}
use Rattle.plane.specs.Whole.{WholePoint}
use Rattle.plane.specs.Rings.{sides, In}
use Rattle.plane.proofs.Polygons.{Left, Sees, Convex}
use Rattle.plane.proofs.Members.{all_in}
use Rattle.plane.proofs.LeftRight.{cycled, seen_strictly}

module _ (p : ℕ → WholePoint) where
  -- each side has every corner but its ends on its left
  abbrev pub PlainConvex : List ℕ → Type 0
  PlainConvex ring = (a b c : ℕ) → In (a, b) (sides ring) → In c ring → c ≢ a → c ≢ b → Left (p a) (p b) (p c)

  pub convex_is_plain : (ring : List ℕ) → Convex p ring ↔ PlainConvex ring
  convex_is_plain ring = (
    λ h a b c i j na nb. seen_strictly p c (a, b) na nb (h c j (a, b) i),
    λ h c j s i. sees s.0 s.1 c (ℕ_discrete c s.0) (ℕ_discrete c s.1) (h s.0 s.1 c i j),
  )
    where
      sees : (a b c : ℕ) → Dec (c ≡ a) → Dec (c ≡ b) → (c ≢ a → c ≢ b → Left (p a) (p b) (p c)) → Sees p c (a, b)
      sees a b c (yes e) d h = inl e
      sees a b c (no na) (yes e) h = inr (inl e)
      sees a b c (no na) (no nb) h = inr (inr (h na nb))

  pub triangle_is_convex : (a b c : ℕ) → Left (p a) (p b) (p c) → Convex p (a ∷ b ∷ c ∷ [])
  triangle_is_convex a b c abc d i = all_in (Sees p d) (sides (a ∷ b ∷ c ∷ [])) (corner i)
    where
      bca : Left (p b) (p c) (p a)
      bca = cycled (p a) (p b) (p c) abc

      corner : In d (a ∷ b ∷ c ∷ []) → AllByRecursion (Sees p d) (sides (a ∷ b ∷ c ∷ []))
      corner (inl e) = (inl e, (inr (inr (rw e bca)), (inr (inl e), tt)))
      corner (inr (inl e)) = (inr (inl e), (inl e, (inr (inr (rw e (cycled (p b) (p c) (p a) bca))), tt)))
      corner (inr (inr (inl e))) = (inr (inr (rw e abc)), (inr (inl e), (inl e, tt)))
      corner (inr (inr (inr i))) = absurd i
