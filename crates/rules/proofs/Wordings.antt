-- What the tests of a list of words say of the sides that the words are on.
use Rattle.std.proofs.Common.{◌≡◌, ℕ, true, false, ◌⊎◌, List, [], ◌∷◌, map, get_or, refl, ap, inl, inr, ⊎_elim, true≢false}
use mathlib.Core.Bool.{false≢true}
use Rattle.std.specs.List.{AllByRecursion}
use Rattle.plane.specs.Rings.{In}
use Rattle.judge.specs.declared.word.Word.{Word}
use Rattle.judge.specs.declared.word.Word.TheVariants.{Left, Right, Undecided}
use Rattle.rules.specs.Asking.{words_of, all_left, some_right, some_undecided}

pub words_are : {R : Type 0} (word : R → R → R → Word) (rs : List R) (ss : List (ℕ × ℕ)) (x : R) → words_of word rs ss x ≡ map (λ s. word (get_or rs s.0 x) (get_or rs s.1 x) x) ss
words_are word rs [] x = refl
words_are word rs (s ∷ ss) x = ap (λ ws. word (get_or rs s.0 x) (get_or rs s.1 x) x ∷ ws) (words_are word rs ss x)

-- ---- the first word and the others
left_first : (w : Word) (ws : List Word) → all_left (w ∷ ws) ≡ true → (w ≡ Left) × (all_left ws ≡ true)
left_first Left ws h = (refl, h)
left_first Right ws h = absurd (false≢true h)
left_first Undecided ws h = absurd (false≢true h)

right_first : (w : Word) (ws : List Word) → some_right (w ∷ ws) ≡ true → (w ≡ Right) ⊎ (some_right ws ≡ true)
right_first Left ws h = inr h
right_first Right ws h = inl refl
right_first Undecided ws h = inr h

undecided_first : (w : Word) (ws : List Word) → some_undecided (w ∷ ws) ≡ true → (w ≡ Undecided) ⊎ (some_undecided ws ≡ true)
undecided_first Left ws h = inr h
undecided_first Right ws h = inr h
undecided_first Undecided ws h = inl refl

decided_first : (w : Word) (ws : List Word) → some_undecided (w ∷ ws) ≡ false → ((w ≡ Left) ⊎ (w ≡ Right)) × (some_undecided ws ≡ false)
decided_first Left ws h = (inl refl, h)
decided_first Right ws h = (inr refl, h)
decided_first Undecided ws h = absurd (true≢false h)

not_left_first : (w : Word) (ws : List Word) → (w ≡ Left) ⊎ (w ≡ Right) → all_left (w ∷ ws) ≡ false → (w ≡ Right) ⊎ (all_left ws ≡ false)
not_left_first w ws (inl e) h = inr (rw e at h)
not_left_first w ws (inr e) h = inl e

-- ---- the words W on sides
module _ (W : ℕ × ℕ → Word) where
  pub all_left_each : (ss : List (ℕ × ℕ)) → all_left (map W ss) ≡ true → AllByRecursion (λ s. W s ≡ Left) ss
  all_left_each [] h = tt
  all_left_each (s ∷ ss) h = let t = left_first (W s) (map W ss) h in (t.0, all_left_each ss t.1)

  pub some_right_one : (ss : List (ℕ × ℕ)) → some_right (map W ss) ≡ true → (s : ℕ × ℕ) × In s ss × (W s ≡ Right)
  some_right_one [] h = absurd (false≢true h)
  some_right_one (s ∷ ss) h = ⊎_elim (λ e. (s, inl refl, e)) (λ k. let t = some_right_one ss k in (t.0, inr t.1, t.2)) (right_first (W s) (map W ss) h)

  pub some_undecided_one : (ss : List (ℕ × ℕ)) → some_undecided (map W ss) ≡ true → (s : ℕ × ℕ) × In s ss × (W s ≡ Undecided)
  some_undecided_one [] h = absurd (false≢true h)
  some_undecided_one (s ∷ ss) h = ⊎_elim (λ e. (s, inl refl, e)) (λ k. let t = some_undecided_one ss k in (t.0, inr t.1, t.2)) (undecided_first (W s) (map W ss) h)

  pub decided : (ss : List (ℕ × ℕ)) → some_undecided (map W ss) ≡ false → AllByRecursion (λ s. (W s ≡ Left) ⊎ (W s ≡ Right)) ss
  decided [] h = tt
  decided (s ∷ ss) h = let t = decided_first (W s) (map W ss) h in (t.0, decided ss t.1)

  pub not_all_left : (ss : List (ℕ × ℕ)) → some_undecided (map W ss) ≡ false → all_left (map W ss) ≡ false → (s : ℕ × ℕ) × In s ss × (W s ≡ Right)
  not_all_left [] d h = absurd (true≢false h)
  not_all_left (s ∷ ss) d h =
      let t = decided_first (W s) (map W ss) d in
      ⊎_elim (λ e. (s, inl refl, e)) (λ k. let u = not_all_left ss t.1 k in (u.0, inr u.1, u.2)) (not_left_first (W s) (map W ss) t.0 h)
