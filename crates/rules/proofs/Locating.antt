-- A located reading's true point, taken as one more numbered point, and what locate's answer says of it.
use Rattle.std.proofs.Common.{◌≡◌, ℕ, suc, ◌<◌, Bool, true, false, cond, ltb, ◌≢◌, ◌⊎◌, List, [], ◌∷◌, map, length, get_or, sym, refl, ap, subst, inl, inr, arith, le-ltb, lt-ltb}
use Rattle.plane.specs.Fractions.{Less}
use Rattle.plane.specs.Points.{Point}
use Rattle.plane.specs.Rings.{sides, In}
use Rattle.plane.specs.Directions.{reach}
use Rattle.plane.proofs.Members.{all_in}
use Rattle.judge.specs.declared.word.Word.{Word}
use Rattle.judge.specs.declared.word.Word.TheVariants.{Left, Right, Undecided}
use Rattle.judge.specs.Words.{Certain}
use Rattle.rules.specs.declared.location.Location.TheVariants as location
use Rattle.rules.specs.Envelopes.{Envelope}
use Rattle.rules.specs.Asking.{asked, all_left, some_right, location_of, located}
use Rattle.rules.specs.Promise.{Within, Out, Chosen}
use Rattle.rules.proofs.Wordings.{words_are, all_left_each, some_right_one}
use Rattle.rules.proofs.Geometry.{AllLeft, Under, inside_within, right_out}
use Rattle.rules.proofs.Soundness.{Sound, Grows}
use Rattle.rules.proofs.Saying.{W, said_left, said_right}

-- ---- what locate's answers say of the words
inside_words : (ws : List Word) → location_of ws ≡ location.Inside → (ws ≢ []) × (all_left ws ≡ true)
inside_words [] h = let z : ◌≡◌ {A = ℕ} 0 1 = cc in absurd (omega arith)
inside_words (w ∷ ws) h = ((λ e. let z : ◌≡◌ {A = ℕ} 0 1 = cc in omega arith), by (some_right (w ∷ ws)) (all_left (w ∷ ws)) h)
  where
    by : (r l : Bool) → cond r location.Outside (cond l location.Inside location.Undecided) ≡ location.Inside → l ≡ true
    by true l h = let z : ◌≡◌ {A = ℕ} 0 1 = cc in absurd (omega arith)
    by false true h = refl
    by false false h = let z : ◌≡◌ {A = ℕ} 0 1 = cc in absurd (omega arith)

outside_words : (ws : List Word) → location_of ws ≡ location.Outside → some_right ws ≡ true
outside_words [] h = let z : ◌≡◌ {A = ℕ} 0 1 = cc in absurd (omega arith)
outside_words (w ∷ ws) h = by (some_right (w ∷ ws)) (all_left (w ∷ ws)) h
  where
    by : (r l : Bool) → cond r location.Outside (cond l location.Inside location.Undecided) ≡ location.Outside → r ≡ true
    by true l h = refl
    by false true h = let z : ◌≡◌ {A = ℕ} 0 1 = cc in absurd (omega arith)
    by false false h = let z : ◌≡◌ {A = ℕ} 0 1 = cc in absurd (omega arith)

undecided_words : (ws : List Word) → location_of ws ≡ location.Undecided → (ws ≡ []) ⊎ ((some_right ws ≡ false) × (all_left ws ≡ false))
undecided_words [] h = inl refl
undecided_words (w ∷ ws) h = inr (by (some_right (w ∷ ws)) (all_left (w ∷ ws)) h)
  where
    by : (r l : Bool) → cond r location.Outside (cond l location.Inside location.Undecided) ≡ location.Undecided → (r ≡ false) × (l ≡ false)
    by true l h = let z : ◌≡◌ {A = ℕ} 0 1 = cc in absurd (omega arith)
    by false true h = let z : ◌≡◌ {A = ℕ} 0 1 = cc in absurd (omega arith)
    by false false h = (refl, refl)

-- neither all left nor one right: one is undecided
one_undecided : (V : ℕ × ℕ → Word) (ss : List (ℕ × ℕ)) → some_right (map V ss) ≡ false → all_left (map V ss) ≡ false → (s : ℕ × ℕ) × In s ss × (V s ≡ Undecided)
one_undecided V [] r l = let z : ◌≡◌ {A = ℕ} 0 1 = cc in absurd (omega arith)
one_undecided V (s ∷ ss) r l = by (V s) refl r l (one_undecided V ss)
  where
    by : (w : Word) → V s ≡ w → some_right (w ∷ map V ss) ≡ false → all_left (w ∷ map V ss) ≡ false → (some_right (map V ss) ≡ false → all_left (map V ss) ≡ false → (t : ℕ × ℕ) × In t ss × (V t ≡ Undecided)) → (t : ℕ × ℕ) × In t (s ∷ ss) × (V t ≡ Undecided)
    by Left e r l rec = let t = rec r l in (t.0, inr t.1, t.2)
    by Right e r l rec = let z : ◌≡◌ {A = ℕ} 0 1 = cc in absurd (omega arith)
    by Undecided e r l rec = (s, inl refl, e)

no_sides : (V : ℕ × ℕ → Word) (ring : List ℕ) → map V (sides ring) ≡ [] → ring ≡ []
no_sides V [] h = refl
no_sides V (a ∷ []) h = let z : ◌≡◌ {A = ℕ} 0 1 = cc in absurd (omega arith)
no_sides V (a ∷ b ∷ l) h = let z : ◌≡◌ {A = ℕ} 0 1 = cc in absurd (omega arith)

-- ---- the choice with q at number n
module _ (at : ℕ → Point) (n : ℕ) (q : Point) where
  abbrev pub with_q : ℕ → Point
  with_q i = cond (ltb i n) (at i) q

  below : (i : ℕ) → i < n → with_q i ≡ at i
  below i h = rw (lt-ltb i n h) refl

  at_n : with_q n ≡ q
  at_n = rw (le-ltb n n (omega arith)) refl

  module _ (ring : List ℕ) (under : Under n ring) where
    pub within_q : Within with_q ring (with_q n) → Within at ring q
    within_q h u v b = h u v (λ c i. subst (λ r. Less (reach u v (with_q c)) (reach u v r)) (sym at_n) (subst (λ r. Less (reach u v r) (reach u v q)) (sym (below c (under c i))) (b c i)))

    pub out_q : Out with_q ring (with_q n) → Out at ring q
    out_q o = (o.0, o.1, λ c i. subst (λ r. Less (reach o.0 o.1 r) (reach o.0 o.1 q)) (below c (under c i)) (subst (λ r. Less (reach o.0 o.1 (with_q c)) (reach o.0 o.1 r)) at_n (o.2 c i)))

  pub still_chosen : {R : Type 0} (stands : R → Point → Type 0) (rs : List R) → length rs ≡ n → Chosen stands rs at → Chosen stands rs with_q
  still_chosen stands rs e ch i x l = subst (stands (get_or rs i x)) (sym (below i (rw e at l))) (ch i x l)

  pub true_q : {R : Type 0} (stands : R → Point → Type 0) (x : R) → stands x q → stands x (with_q n)
  true_q stands x h = subst (stands x) (sym at_n) h

module _ {R : Type 0} (stands : R → Point → Type 0) (word : R → R → R → Word) (certain : (a b c : R) → Certain stands a b c (word a b c)) (x : R) (q : Point) (hq : stands x q) where
  -- what was located inside the ring of e is inside the ring of f
  pub stays_inside : (e f : Envelope R) → Sound stands e → Sound stands f → Grows stands e f → located word e x ≡ location.Inside → (at : ℕ → Point) → Chosen stands f.readings at → Within at f.ring q
  stays_inside e f s t g h at ch =
      let n = length f.readings in
      let to = with_q at n q in
      let chf = still_chosen at n q stands f.readings refl ch in
      let w = inside_words (asked word e x) h in
      let V = W stands word certain e.readings e.ring s.under x in
      let left = all_left_each V (sides e.ring) (subst (λ v. all_left v ≡ true) (words_are word e.readings (sides e.ring) x) w.1) in
      let some : e.ring ≢ [] = λ z. w.0 (ap (λ l. asked word (record { readings = e.readings; standings = e.standings; ring = l }) x) z) in
      let was : AllLeft to e.ring n = λ a i. said_left stands word certain e.readings e.ring s.under x to (g.chosen to chf) n (true_q at n q stands x hq) a i (all_in (λ a. V a ≡ Left) (sides e.ring) left a i) in
      let now = g.left_stays some to chf n was in
      within_q at n q f.ring t.under
      (inside_within to (suc n) f.ring (λ i j. omega (arith, t.under i j)) n (omega arith) (g.ring_stays some) (λ a b i na nb. now (a, b) i))

  pub lies_outside : (e : Envelope R) → Sound stands e → located word e x ≡ location.Outside → (at : ℕ → Point) → Chosen stands e.readings at → Out at e.ring q
  lies_outside e s h at ch =
      let n = length e.readings in
      let to = with_q at n q in
      let che = still_chosen at n q stands e.readings refl ch in
      let V = W stands word certain e.readings e.ring s.under x in
      let r = some_right_one V (sides e.ring) (subst (λ v. some_right v ≡ true) (words_are word e.readings (sides e.ring) x) (outside_words (asked word e x) h)) in
      out_q at n q e.ring s.under
      (right_out to (suc n) e.ring (λ i j. omega (arith, s.under i j)) n (omega arith) (s.convex to che) r.0 r.1
      (said_right stands word certain e.readings e.ring s.under x to che n (true_q at n q stands x hq) r.0 r.1 r.2))

module _ {R : Type 0} (word : R → R → R → Word) (e : Envelope R) (x : R) where
  abbrev V : ℕ × ℕ → Word
  V s = word (get_or e.readings s.0 x) (get_or e.readings s.1 x) x

  pub outside_some : located word e x ≡ location.Outside → e.ring ≢ []
  outside_some h z =
      let n : location_of (asked word e x) ≡ location.Undecided = ap (λ l. location_of (asked word (record { readings = e.readings; standings = e.standings; ring = l }) x)) z in
      let c : ◌≡◌ {A = ℕ} 0 1 = cc in
      omega arith

  pub unsure : located word e x ≡ location.Undecided → (e.ring ≡ []) ⊎ ((s : ℕ × ℕ) × In s (sides e.ring) × (V s ≡ Undecided))
  unsure h =
      let ws = words_are word e.readings (sides e.ring) x in
      elim (undecided_words (map V (sides e.ring)) (subst (λ v. location_of v ≡ location.Undecided) ws h)) [
        | inl n ↦ inl (no_sides V e.ring n)
        | inr t ↦ inr (one_undecided V (sides e.ring) t.0 t.1)
      ]
