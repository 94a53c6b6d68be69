-- What placing a corner makes of a ring that begins with its run, and what the corners that it retires become.
use Rattle.std.proofs.Common.{◌≡◌, ℕ, suc, ◌<◌, List, [], ◌∷◌, ◌++◌, length, get_or, set, refl, ◌∙◌, inl, inr, ⊎_elim, length-set, get_or-set_other, get_or-set_same}
use lib.Seq.{take-append_seam, drop-append_seam}
use Rattle.std.proofs.lemmas.Bool.{cases_eq}
use Rattle.plane.specs.Rings.{In}
use Rattle.rules.specs.declared.standing.Standing.{Standing}
use Rattle.rules.specs.declared.standing.Standing.TheVariants.{Inside}
use Rattle.rules.specs.Placing.{placed, retired}
use Rattle.rules.specs.Trying.{all_inside}

module _ (a b : ℕ) (removed rest : List ℕ) where
  pub placed_at : (k : ℕ) → placed (suc (length removed)) (a ∷ (removed ++ b ∷ rest)) k ≡ a ∷ k ∷ b ∷ rest
  placed_at k = rw drop-append_seam

  pub retired_at : retired (suc (length removed)) (a ∷ (removed ++ b ∷ rest)) ≡ removed
  retired_at = rw take-append_seam

-- ---- standings
pub all_inside_length : (is : List ℕ) (st : List Standing) → length (all_inside is st) ≡ length st
all_inside_length [] st = refl
all_inside_length (j ∷ is) st = all_inside_length is (set st j Inside) ∙ length-set st j Inside

pub all_inside_other : (is : List ℕ) (st : List Standing) (i : ℕ) (d : Standing) → (In i is → ⊥) → get_or (all_inside is st) i d ≡ get_or st i d
all_inside_other [] st i d new = refl
all_inside_other (j ∷ is) st i d new = all_inside_other is (set st j Inside) i d (λ m. new (inr m)) ∙ get_or-set_other st j i Inside d (λ e. new (inl e))

-- what is inside stays so
inside_stays : (is : List ℕ) (st : List Standing) (i : ℕ) (d : Standing) → i < length st → get_or st i d ≡ Inside → get_or (all_inside is st) i d ≡ Inside
inside_stays [] st i d h e = e
inside_stays (j ∷ is) st i d h e =
    inside_stays is (set st j Inside) i d (rw length-set h)
    (⊎_elim (λ s. rw s (get_or-set_same st j Inside d (rw s at h))) (λ o. get_or-set_other st j i Inside d o ∙ e) (cases_eq i j))

pub all_inside_at : (is : List ℕ) (st : List Standing) (i : ℕ) (d : Standing) → In i is → i < length st → get_or (all_inside is st) i d ≡ Inside
all_inside_at [] st i d m h = absurd m
all_inside_at (j ∷ is) st i d (inl e) h = inside_stays is (set st j Inside) i d (rw length-set h) (rw e (get_or-set_same st j Inside d (rw e at h)))
all_inside_at (j ∷ is) st i d (inr m) h = all_inside_at is (set st j Inside) i d m (rw length-set h)
