-- After settling, whatever is held waits for a word that is undecided.
use Rattle.std.proofs.Common.{◌≡◌, ℕ, zero, suc, ◌+◌, ◌<◌, ◌≤◌, Bool, true, false, cond, eqb, ◌≢◌, List, [], ◌∷◌, length, get_or, set, Some, None, Option, sym, refl, ap, ◌∙◌, subst, inl, inr, zero-add, arith}
use Rattle.std.proofs.lemmas.List.{get_or_default}
use Rattle.std.proofs.lemmas.Bool.{both_ways, eqb-true, eqb-false, cond_both}
use Rattle.plane.specs.Rings.{In, sides}
use Rattle.plane.proofs.Ways.{side_ends}
use Rattle.judge.specs.declared.word.Word.{Word}
use Rattle.judge.specs.declared.word.Word.TheVariants.{Left, Right, Undecided}
use Rattle.rules.specs.declared.standing.Standing.{Standing}
use Rattle.rules.specs.declared.standing.Standing.TheVariants.{Corner, Inside, Held}
use Rattle.rules.specs.Envelopes.{Envelope}
use Rattle.rules.specs.Asking.{words_of, asked, all_left, some_undecided}
use Rattle.rules.specs.Placing.{rights, run_start, turned, retired}
use Rattle.rules.specs.Trying.{verdict, all_inside, judged, is_held, tried, pass, held_count, passes}
use Rattle.rules.specs.Starting.{first_from, started}
use Rattle.rules.specs.Settling.{begun, continued, settled}
use Rattle.rules.proofs.Lengths.{settled_readings}
use Rattle.rules.proofs.Searching.{nothing_found}
use Rattle.rules.proofs.Keeping.{Under, tried_keeps, begun_ring_stays, settled_under}

-- ---- how many are held
held_parts : (t : Standing) (st : List Standing) → held_count (t ∷ st) ≡ held_count (t ∷ []) + held_count st
held_parts Corner st = omega arith
held_parts Inside st = omega arith
held_parts Held st = omega arith

-- one standing becomes another that is not held
held_set : (st : List Standing) (k : ℕ) (s : Standing) → is_held s ≡ false → held_count (set st k s) + held_count (get_or st k Corner ∷ []) ≤ held_count st
held_set [] k s n = omega arith
held_set (t ∷ st) zero s n = let h : held_count (s ∷ st) ≡ held_count st = rw n in let p = held_parts t st in omega arith
held_set (t ∷ st) (suc k) s n = let h = held_set st k s n in let p = held_parts t (set st k s) in let q = held_parts t st in omega arith

held_all_inside : (is : List ℕ) (st : List Standing) → held_count (all_inside is st) ≤ held_count st
held_all_inside [] st = omega arith
held_all_inside (i ∷ is) st = let h = held_all_inside is (set st i Inside) in let g = held_set st i Inside refl in omega arith

only_held : (s : Standing) → is_held s ≡ true → s ≡ Held
only_held Corner e = let no : ◌≡◌ {A = ℕ} 0 1 = cc in absurd (omega arith)
only_held Inside e = let no : ◌≡◌ {A = ℕ} 0 1 = cc in absurd (omega arith)
only_held Held e = refl

module _ {R : Type 0} where
  -- no verdict adds to the held, and any but held takes the reading, if it was held, from them
  judged_count : (s : Standing) (e : Envelope R) (k : ℕ) (ws : List Word) → held_count (judged s e k ws).standings ≤ held_count e.standings
  judged_count Inside e k ws = let g = held_set e.standings k Inside refl in omega arith
  judged_count Held e k ws = omega arith
  judged_count Corner e k ws =
      let g = held_set e.standings k Corner refl in
      let h = held_all_inside (retired (rights ws) (turned (run_start ws) e.ring)) (set e.standings k Corner) in omega arith

  judged_held : (s : Standing) (e : Envelope R) (k : ℕ) (ws : List Word) → get_or e.standings k Corner ≡ Held → held_count (judged s e k ws).standings ≡ held_count e.standings → s ≡ Held
  judged_held Inside e k ws h q =
      let one : held_count (get_or e.standings k Corner ∷ []) ≡ 1 = rw h in
      let g = held_set e.standings k Inside refl in absurd (omega arith)
  judged_held Held e k ws h q = refl
  judged_held Corner e k ws h q =
      let one : held_count (get_or e.standings k Corner ∷ []) ≡ 1 = rw h in
      let g = held_set e.standings k Corner refl in
      let f = held_all_inside (retired (rights ws) (turned (run_start ws) e.ring)) (set e.standings k Corner) in absurd (omega arith)

module _ {R : Type 0} (word : R → R → R → Word) where
  pub tried_count : (e : Envelope R) (k : ℕ) (x : R) → held_count (tried word e k x).standings ≤ held_count e.standings
  tried_count e k x = tried_keeps word (λ (f : Envelope R). held_count f.standings ≤ held_count e.standings) e k x (λ s ws. judged_count s e k ws) (omega arith)

  pub pass_count : (xs : List R) (k : ℕ) (e : Envelope R) → held_count (pass word xs k e).standings ≤ held_count e.standings
  pass_count [] k e = omega arith
  pass_count (x ∷ xs) k e = let h = pass_count xs (k + 1) (tried word e k x) in let g = tried_count e k x in omega arith

  -- ---- passes end with one that settles nothing
  tried_quiet : (e : Envelope R) (k : ℕ) (x : R) → held_count (tried word e k x).standings ≡ held_count e.standings
      → (tried word e k x ≡ e) × (get_or e.standings k Corner ≡ Held → verdict (asked word e x) ≡ Held)
  tried_quiet e k x =
      let s = get_or e.standings k Corner in
      let ws = asked word e x in
      cond_both (is_held s) (judged (verdict ws) e k ws) e (λ (f : Envelope R). held_count f.standings ≡ held_count e.standings → (f ≡ e) × (s ≡ Held → verdict ws ≡ Held))
      (λ t q. let v = judged_held (verdict ws) e k ws (only_held s t) q in (ap (λ u. judged u e k ws) v, λ h. v))
      (λ t q. (refl, λ h. absurd (both_ways (is_held s) t (ap is_held h))))

  quiet_from : (r : R) (rs : List R) (k : ℕ) (e : Envelope R) → (get_or e.standings k Corner ≡ Held → verdict (asked word e r) ≡ Held)
      → ((j : ℕ) (x : R) → j < length rs → get_or e.standings (k + 1 + j) Corner ≡ Held → verdict (asked word e (get_or rs j x)) ≡ Held)
      → (j : ℕ) (x : R) → j < length (r ∷ rs) → get_or e.standings (k + j) Corner ≡ Held → verdict (asked word e (get_or (r ∷ rs) j x)) ≡ Held
  quiet_from r rs k e here more zero x l h = let n : k ≡ k + 0 = omega arith in here (ap (λ i. get_or e.standings i Corner) n ∙ h)
  quiet_from r rs k e here more (suc j) x l h = let n : k + 1 + j ≡ k + suc j = omega arith in more j x (omega arith) (ap (λ i. get_or e.standings i Corner) n ∙ h)

  pass_quiet : (rs : List R) (k : ℕ) (e : Envelope R) → held_count (pass word rs k e).standings ≡ held_count e.standings
      → (pass word rs k e ≡ e) × ((j : ℕ) (x : R) → j < length rs → get_or e.standings (k + j) Corner ≡ Held → verdict (asked word e (get_or rs j x)) ≡ Held)
  pass_quiet [] k e q = (refl, λ j x l h. absurd (omega arith))
  pass_quiet (r ∷ rs) k e q =
      let f = tried word e k r in
      let a = tried_count e k r in
      let b = pass_count rs (k + 1) f in
      let t = tried_quiet e k r (omega arith) in
      let p = pass_quiet rs (k + 1) e (subst (λ (g : Envelope R). held_count (pass word rs (k + 1) g).standings ≡ held_count e.standings) t.0 q) in
      (ap (pass word rs (k + 1)) t.0 ∙ p.0, quiet_from r rs k e t.1 p.1)

  -- whatever is held is held by the words on the ring as it is
  abbrev Quiet : Envelope R → Type 0
  Quiet e = (j : ℕ) (x : R) → j < length e.readings → get_or e.standings j Corner ≡ Held → verdict (asked word e (get_or e.readings j x)) ≡ Held

  passes_quiet : (n : ℕ) (e : Envelope R) → held_count e.standings < n → Quiet (passes word n e)
  passes_quiet zero e l = absurd (omega arith)
  passes_quiet (suc n) e l =
      let f = pass word e.readings 0 e in
      let a = pass_count e.readings 0 e in
      cond_both (eqb (held_count f.standings) (held_count e.standings)) f (passes word n f) Quiet
      (λ t. let p = pass_quiet e.readings 0 e (eqb-true _ _ t) in subst Quiet (sym p.0) (λ j x m h. p.1 j x m (ap (λ i. get_or e.standings i Corner) (zero-add j) ∙ h)))
      (λ t. let no = eqb-false _ _ t in passes_quiet n f (omega arith))

-- ---- a reading that is held has an undecided side
undecided_held : (a b : Bool) → cond a Inside (cond b Held Corner) ≡ Held → b ≡ true
undecided_held true b v = let no : ◌≡◌ {A = ℕ} 0 1 = cc in absurd (omega arith)
undecided_held false true v = refl
undecided_held false false v = let no : ◌≡◌ {A = ℕ} 0 1 = cc in absurd (omega arith)

module _ {R : Type 0} (word : R → R → R → Word) (rs : List R) (x : R) where
  abbrev UndecidedOf : List (ℕ × ℕ) → Type 0
  UndecidedOf ss = (s : ℕ × ℕ) × In s ss × (word (get_or rs s.0 x) (get_or rs s.1 x) x ≡ Undecided)

  one_more : (s : ℕ × ℕ) (ss : List (ℕ × ℕ)) → UndecidedOf ss → UndecidedOf (s ∷ ss)
  one_more s ss u = (u.0, inr u.1, u.2)

  undecided_side : (ss : List (ℕ × ℕ)) → some_undecided (words_of word rs ss x) ≡ true → UndecidedOf ss
  undecided_side [] t = let no : ◌≡◌ {A = ℕ} 0 1 = cc in absurd (omega arith)
  undecided_side (s ∷ ss) t = by_word (word (get_or rs s.0 x) (get_or rs s.1 x) x) refl t (undecided_side ss)
    where
      by_word : (w : Word) → word (get_or rs s.0 x) (get_or rs s.1 x) x ≡ w → some_undecided (w ∷ words_of word rs ss x) ≡ true → (some_undecided (words_of word rs ss x) ≡ true → UndecidedOf ss) → UndecidedOf (s ∷ ss)
      by_word Left e t more = one_more s ss (more t)
      by_word Right e t more = one_more s ss (more t)
      by_word Undecided e t more = (s, inl refl, e)

-- some side says undecided of reading i
abbrev Waiting : {R : Type 0} → (R → R → R → Word) → Envelope R → ℕ → R → Type 0
Waiting word e i x = (s : ℕ × ℕ) × In s (sides e.ring) × (word (get_or e.readings s.0 x) (get_or e.readings s.1 x) (get_or e.readings i x) ≡ Undecided)

module _ {R : Type 0} (word : R → R → R → Word) where
  quiet_waits : (e : Envelope R) → Quiet word e → Under e → (i : ℕ) (x : R) → i < length e.readings → get_or e.standings i Corner ≡ Held → Waiting word e i x
  quiet_waits e quiet under i x l h =
      let y = get_or e.readings i x in
      let ws = asked word e y in
      let u = undecided_side word e.readings y (sides e.ring) (undecided_held (all_left ws) (some_undecided ws) (quiet i x l h)) in
      let ends = side_ends e.ring u.0 u.1 in
      let from = get_or_default e.readings u.0.0 x y (under u.0.0 ends.0) in
      let to = get_or_default e.readings u.0.1 x y (under u.0.1 ends.1) in
      (u.0, u.1, ap (λ a. word a (get_or e.readings u.0.1 x) y) from ∙ ap (λ a. word (get_or e.readings u.0.0 y) a y) to ∙ u.2)

  continued_waits : (e : Envelope R) (ring : List ℕ) → e.ring ≡ ring → Under (continued word e ring) → (i : ℕ) (x : R) → i < length (continued word e ring).readings → get_or (continued word e ring).standings i Corner ≡ Held → (continued word e ring).ring ≢ [] → Waiting word (continued word e ring) i x
  continued_waits e [] q under i x l h full = absurd (full q)
  continued_waits e (a ∷ r) q under i x l h full = let n = suc (held_count e.standings) in quiet_waits (passes word n e) (passes_quiet word n e (omega arith)) under i x l h

  -- with a ring, the judge is undecided of a held reading on some side; corners are numbers of readings, so any default does
  pub held_waits : (e : Envelope R) → Under e → (i : ℕ) (x : R) → i < length (settled word e).readings → get_or (settled word e).standings i Corner ≡ Held → (settled word e).ring ≢ []
      → (s : ℕ × ℕ) × In s (sides (settled word e).ring) × (word (get_or (settled word e).readings s.0 x) (get_or (settled word e).readings s.1 x) (get_or (settled word e).readings i x) ≡ Undecided)
  held_waits e under = let f = begun word e e.ring in continued_waits f f.ring refl (settled_under word e under)

  -- ---- without a ring, the judge is undecided of every three in order of arrival
  not_started : (e : Envelope R) (o : Option (ℕ × ℕ × ℕ)) → (started e o).ring ≡ [] → o ≡ None
  not_started e None q = refl
  not_started e (Some t) q = let no : ◌≡◌ {A = ℕ} 0 1 = cc in absurd (omega arith)

  not_begun : (e : Envelope R) (ring : List ℕ) → e.ring ≡ ring → (begun word e ring).ring ≡ [] → first_from word 0 e.readings ≡ None
  not_begun e [] q r = not_started e (first_from word 0 e.readings) r
  not_begun e (a ∷ l) q r = let no : ◌≡◌ {A = ℕ} 0 1 = cc in absurd (omega arith)

  begun_empty : (e : Envelope R) (ring : List ℕ) → (begun word e e.ring).ring ≡ ring → (settled word e).ring ≡ [] → ring ≡ []
  begun_empty e [] q r = refl
  begun_empty e (a ∷ l) q r = absurd (begun_ring_stays word e (λ s. let no : ◌≡◌ {A = ℕ} 0 1 = cc in omega arith) r)

  pub no_ring_waits : (e : Envelope R) → (settled word e).ring ≡ [] → (a b c : ℕ) (x : R) → a < b → b < c → c < length (settled word e).readings
      → word (get_or (settled word e).readings a x) (get_or (settled word e).readings b x) (get_or (settled word e).readings c x) ≡ Undecided
  no_ring_waits e q =
      let none = not_begun e e.ring refl (begun_empty e (begun word e e.ring).ring refl q) in
      subst (λ (rs : List R). (a b c : ℕ) (x : R) → a < b → b < c → c < length rs → word (get_or rs a x) (get_or rs b x) (get_or rs c x) ≡ Undecided) (sym (settled_readings word e)) (nothing_found word e.readings none)
