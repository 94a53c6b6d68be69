-- The position of the lowest number, as the numbers come one by one.
use Rattle.std.proofs.Common.{◌≡◌, ℕ, ◌+◌, ◌<◌, ◌≤◌, Bool, true, false, cond, ◌&&◌, ltb, leb, List, [], ◌∷◌, length, get_or, drop, refl, sym, ◌∙◌, ⊎_elim, arith}
use Rattle.std.proofs.lemmas.List.{at_drop_more, at_drop_all}
use Rattle.std.proofs.lemmas.Bool.{cases_lt, lt-ltb, le-ltb, le-leb, lt-leb, ltb-true, and_parts, both_ways}
use Rattle.rules.specs.Placing.{below_all, lowest_at}

-- v at position c is the lowest so far, and the numbers from position i on are to come
abbrev pub lowest_from : ℕ → ℕ → ℕ → List ℕ → ℕ
lowest_from c v i [] = c
lowest_from c v i (a ∷ l) = cond (leb a v) (lowest_from i a (i + 1) l) (lowest_from c v (i + 1) l)

below_too : (v a : ℕ) (l : List ℕ) → v < a → below_all a l ≡ true → below_all v l ≡ true
below_too v a [] h b = refl
below_too v a (x ∷ l) h b = let p = and_parts _ _ b in rw (lt-ltb v x (let q = ltb-true a x p.0 in omega arith)) (below_too v a l h p.1)

found_from : (c v i : ℕ) (l : List ℕ) → lowest_from c v i l ≡ cond (below_all v l) c (i + lowest_at l)
found_from c v i [] = refl
found_from c v i (a ∷ l) = ⊎_elim (lower (found_from c v (i + 1) l)) (same (found_from i a (i + 1) l)) (cases_lt v a)
  where
    moved : (b : Bool) → cond b i (i + 1 + lowest_at l) ≡ i + cond b 0 (1 + lowest_at l)
    moved true = omega arith
    moved false = omega arith

    kept : (b d : Bool) → (d ≡ true → b ≡ true) → cond b c (i + 1 + lowest_at l) ≡ cond b c (i + cond d 0 (1 + lowest_at l))
    kept true d h = refl
    kept false true h = absurd (both_ways false refl (h refl))
    kept false false h = omega arith

    lower : lowest_from c v (i + 1) l ≡ cond (below_all v l) c (i + 1 + lowest_at l) → v < a → cond (leb a v) (lowest_from i a (i + 1) l) (lowest_from c v (i + 1) l) ≡ cond (ltb v a && below_all v l) c (i + lowest_at (a ∷ l))
    lower f h = rw (lt-leb a v h, lt-ltb v a h) (f ∙ kept (below_all v l) (below_all a l) (below_too v a l h))

    same : lowest_from i a (i + 1) l ≡ cond (below_all a l) i (i + 1 + lowest_at l) → a ≤ v → cond (leb a v) (lowest_from i a (i + 1) l) (lowest_from c v (i + 1) l) ≡ cond (ltb v a && below_all v l) c (i + lowest_at (a ∷ l))
    same f h = rw (le-leb a v h, le-ltb v a h) (f ∙ moved (below_all a l))

pub lowest_first : (ring : List ℕ) → lowest_from 0 (get_or ring 0 0) 0 ring ≡ lowest_at ring
lowest_first [] = refl
lowest_first (a ∷ l) = rw (le-leb a a (omega arith)) (found_from 0 a 1 l)

module _ (ring : List ℕ) (c i : ℕ) (h : i < length ring) where
  pub lowest_here : get_or ring i 0 ≤ get_or ring c 0 → lowest_from i (get_or ring i 0) (i + 1) (drop (i + 1) ring) ≡ lowest_from c (get_or ring c 0) i (drop i ring)
  lowest_here l = sym (at_drop_more (lowest_from c (get_or ring c 0) i) ring i 0 h ∙ rw (le-leb _ _ l) refl)

  pub lowest_still : get_or ring c 0 < get_or ring i 0 → lowest_from c (get_or ring c 0) (i + 1) (drop (i + 1) ring) ≡ lowest_from c (get_or ring c 0) i (drop i ring)
  lowest_still l = sym (at_drop_more (lowest_from c (get_or ring c 0) i) ring i 0 h ∙ rw (lt-leb _ _ l) refl)

pub lowest_last : (ring : List ℕ) (c v i : ℕ) → length ring ≤ i → lowest_from c v i (drop i ring) ≡ c
lowest_last ring c v i h = at_drop_all (lowest_from c v i) ring i h
