-- The word on the side that begins at a position of a ring.
use Rattle.std.proofs.Common.{◌≡◌, ℕ, zero, suc, ◌+◌, ◌<◌, ◌≤◌, ◌⊎◌, List, [], ◌∷◌, length, get_or, refl, ap, sym, ◌∙◌, inl, inr, arith}
use Rattle.std.proofs.lemmas.List.{get_or_default, get_or_past, get_or_read}
use Rattle.plane.specs.Rings.{steps, sides}
use Rattle.judge.specs.declared.word.Word.{Word}
use Rattle.rules.specs.Asking.{words_of}

-- the position after i in a ring of n corners
abbrev pub Next : ℕ → ℕ → ℕ → Type 0
Next n i j = ((j ≡ i + 1) × (j < n)) ⊎ ((j ≡ 0) × (n ≤ i + 1))

module _ {R : Type 0} (word : R → R → R → Word) (rs : List R) (x : R) (w : Word) where
  word_of_step : (a : ℕ) (l : List ℕ) (z i : ℕ) → i ≤ length l
      → get_or (words_of word rs (steps a l z) x) i w ≡ word (get_or rs (get_or (a ∷ l) i 0) x) (get_or rs (get_or l i z) x) x
  word_of_step a [] z zero h = refl
  word_of_step a [] z (suc i) h = absurd (omega arith)
  word_of_step a (b ∷ l) z zero h = refl
  word_of_step a (b ∷ l) z (suc i) h = word_of_step b l z i (omega arith)

  after : (a : ℕ) (l : List ℕ) (i j : ℕ) → Next (length (a ∷ l)) i j → get_or l i a ≡ get_or (a ∷ l) j 0
  after a l i j (inl n) = let e : j ≡ suc i = omega arith in rw e (get_or_default l i a 0 (omega arith))
  after a l i j (inr n) = rw n.0 (get_or_past l i a (omega arith))

  pub word_of_side : (ring : List ℕ) (i j : ℕ) → i < length ring → Next (length ring) i j
      → get_or (words_of word rs (sides ring) x) i w ≡ word (get_or rs (get_or ring i 0) x) (get_or rs (get_or ring j 0) x) x
  word_of_side [] i j h n = absurd (omega arith)
  word_of_side (a ∷ l) i j h n = word_of_step a l a i (omega arith) ∙ ap (λ k. word (get_or rs (get_or (a ∷ l) i 0) x) (get_or rs k x) x) (after a l i j n)

  -- the word v on two readings, a and b, that were read by the numbers m and n from positions i and j
  pub word_on_read : (ring : List ℕ) (i j m n : ℕ) (a b : R) (v : Word) → i < length ring → Next (length ring) i j → ((p : ℕ) → p < length ring → get_or ring p 0 < length rs)
      → m ≡ get_or ring i m → n ≡ get_or ring j n → a ≡ get_or rs m a → b ≡ get_or rs n b
      → v ≡ word a b x → v ≡ get_or (words_of word rs (sides ring) x) i w
  word_on_read ring i j m n a b v h next under mi nj am bn said =
      let k : j < length ring = elim next [ inl q ↦ omega arith | inr q ↦ omega arith ] in
      let em = get_or_read ring i m h mi 0 in
      let en = get_or_read ring j n k nj 0 in
      let ea = get_or_read rs m a (rw em (under i h)) am x in
      let eb = get_or_read rs n b (rw en (under j k)) bn x in
      said ∙ ap (λ r. word r b x) (ea ∙ ap (λ q. get_or rs q x) em) ∙ ap (λ r. word (get_or rs (get_or ring i 0) x) r x) (eb ∙ ap (λ q. get_or rs q x) en)
      ∙ sym (word_of_side ring i j h next)

  steps_asked : (a : ℕ) (l : List ℕ) (z : ℕ) → length (words_of word rs (steps a l z) x) ≡ suc (length l)
  steps_asked a [] z = refl
  steps_asked a (b ∷ l) z = ap suc (steps_asked b l z)

  -- a word on each side
  pub all_asked : (ring : List ℕ) → length (words_of word rs (sides ring) x) ≡ length ring
  all_asked [] = refl
  all_asked (a ∷ l) = steps_asked a l a
