-- Members of lists, and what holds of them all.
use Rattle.std.proofs.Common.{ℕ, ◌⊎◌, List, [], ◌∷◌, ◌++◌, sym, refl, subst, inl, inr, ⊎_elim, append_assoc, append-nil}
use Rattle.std.specs.List.{AllByRecursion}
use Rattle.plane.specs.Rings.{In}
use Rattle.plane.proofs.Polygons.{Distinct}

module _ {X : Type 0} where
  pub all_in : (P : X → Type 0) (xs : List X) → AllByRecursion P xs → (x : X) → In x xs → P x
  all_in P [] h x i = absurd i
  all_in P (y ∷ ys) h x (inl e) = rw e h.0
  all_in P (y ∷ ys) h x (inr i) = all_in P ys h.1 x i

  pub all_from_in : (P : X → Type 0) (xs : List X) → ((x : X) → In x xs → P x) → AllByRecursion P xs
  all_from_in P [] f = tt
  all_from_in P (x ∷ xs) f = (f x (inl refl), all_from_in P xs (λ y i. f y (inr i)))

  pub in_left : (x : X) (xs ys : List X) → In x xs → In x (xs ++ ys)
  in_left x [] ys i = absurd i
  in_left x (y ∷ xs) ys (inl e) = inl e
  in_left x (y ∷ xs) ys (inr i) = inr (in_left x xs ys i)

  pub in_right : (x : X) (xs ys : List X) → In x ys → In x (xs ++ ys)
  in_right x [] ys i = i
  in_right x (y ∷ xs) ys i = inr (in_right x xs ys i)

  pub in_either : (x : X) (xs ys : List X) → In x (xs ++ ys) → In x xs ⊎ In x ys
  in_either x [] ys i = inr i
  in_either x (y ∷ xs) ys (inl e) = inl (inl e)
  in_either x (y ∷ xs) ys (inr i) = ⊎_elim (λ j. inl (inr j)) inr (in_either x xs ys i)

  pub in_turns : (x : X) (xs ys : List X) → In x (xs ++ ys) → In x (ys ++ xs)
  in_turns x xs ys i = ⊎_elim (in_right x ys xs) (in_left x ys xs) (in_either x xs ys i)

-- ---- distinct members
distinct_push : (x : ℕ) (l : List ℕ) → (In x l → ⊥) → Distinct l → Distinct (l ++ x ∷ [])
distinct_push x [] new d = ((λ i. i), tt)
distinct_push x (y ∷ l) new d = ((λ i. ⊎_elim d.0 (⊎_elim (λ e. new (inl (sym e))) (λ j. j)) (in_either y l (x ∷ []) i)), distinct_push x l (λ i. new (inr i)) d.1)

pub distinct_turns : (l m : List ℕ) → Distinct (l ++ m) → Distinct (m ++ l)
distinct_turns [] m d = rw append-nil d
distinct_turns (x ∷ l) m d = subst Distinct (append_assoc m (x ∷ []) l) (distinct_turns l (m ++ x ∷ []) (subst Distinct (append_assoc l m (x ∷ [])) (distinct_push x (l ++ m) d.0 d.1)))
