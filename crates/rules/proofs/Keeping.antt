-- What every try keeps, settling keeps: a ring stays a ring, and its corners stay numbers of readings.
use Rattle.std.proofs.Common.{◌≡◌, ℕ, zero, suc, ◌+◌, ◌<◌, eqb, ◌≢◌, ◌⊎◌, List, [], ◌∷◌, length, get_or, take, drop, Some, None, Option, sym, refl, ap, ◌∙◌, subst, inl, inr, ⊎_elim, arith, length-drop}
use Rattle.std.proofs.lemmas.List.{take-append-drop, drop-drop, get_or-drop}
use Rattle.std.proofs.lemmas.Bool.{cond_both}
use Rattle.plane.specs.Rings.{In}
use Rattle.plane.proofs.Members.{in_left, in_right, in_either, in_turns}
use Rattle.judge.specs.declared.word.Word.{Word}
use Rattle.rules.specs.declared.standing.Standing.{Standing}
use Rattle.rules.specs.declared.standing.Standing.TheVariants.{Corner, Inside, Held}
use Rattle.rules.specs.Envelopes.{Envelope}
use Rattle.rules.specs.Asking.{asked}
use Rattle.rules.specs.Placing.{rights, run_start, turned, placed, lowest_at, from_lowest}
use Rattle.rules.specs.Trying.{verdict, judged, is_held, tried, pass, held_count, passes}
use Rattle.rules.specs.Starting.{first_from, started}
use Rattle.rules.specs.Settling.{begun, continued, settled}
use Rattle.rules.proofs.Lengths.{tried_readings}
use Rattle.rules.proofs.Searching.{three_found, found_under}

-- ---- from one try to settling
module _ {R : Type 0} (word : R → R → R → Word) (P : Envelope R → Type 0)
    (tries : (e : Envelope R) (k : ℕ) (x : R) → k < length e.readings → ((d : R) → get_or e.readings k d ≡ x) → P e → P (tried word e k x)) where
  pub pass_keeps : (xs : List R) (k : ℕ) (e : Envelope R) → drop k e.readings ≡ xs → P e → P (pass word xs k e)
  pass_keeps [] k e d p = p
  pass_keeps (x ∷ xs) k e d p =
      let l = ap length d in
      let m = length-drop k e.readings in
      let here : (y : R) → get_or e.readings k y ≡ x = λ y. ap (λ n. get_or e.readings n y) (omega arith) ∙ sym (get_or-drop k e.readings 0 y) ∙ ap (λ ys. get_or ys 0 y) d in
      let after : drop (k + 1) e.readings ≡ xs = sym (drop-drop 1 k e.readings) ∙ ap (drop 1) d in
      pass_keeps xs (k + 1) (tried word e k x) (ap (drop (k + 1)) (tried_readings word e k x) ∙ after) (tries e k x (omega arith) here p)

  pub passes_keeps : (n : ℕ) (e : Envelope R) → P e → P (passes word n e)
  passes_keeps zero e p = p
  passes_keeps (suc n) e p =
      let f = pass word e.readings 0 e in
      let q = pass_keeps e.readings 0 e refl p in
      cond_both (eqb (held_count f.standings) (held_count e.standings)) f (passes word n f) P (λ t. q) (λ t. passes_keeps n f q)

  continued_keeps : (e : Envelope R) (ring : List ℕ) → P e → P (continued word e ring)
  continued_keeps e [] p = p
  continued_keeps e (a ∷ l) p = passes_keeps (suc (held_count e.standings)) e p

  -- given the start
  pub settled_keeps : (e : Envelope R) → P (begun word e e.ring) → P (settled word e)
  settled_keeps e p = let f = begun word e e.ring in continued_keeps f f.ring p

-- whatever every verdict keeps, a try keeps
pub tried_keeps : {R : Type 0} (word : R → R → R → Word) (P : Envelope R → Type 0) (e : Envelope R) (k : ℕ) (x : R) → ((s : Standing) (ws : List Word) → P (judged s e k ws)) → P e → P (tried word e k x)
tried_keeps word P e k x each p = cond_both (is_held (get_or e.standings k Corner)) (judged (verdict (asked word e x)) e k (asked word e x)) e P (λ t. each (verdict (asked word e x)) (asked word e x)) (λ t. p)

-- ---- members of a ring that is turned, or has one corner more
module _ {X : Type 0} where
  pub in_turned : (x : X) (p : ℕ) (xs : List X) → In x xs → In x (turned p xs)
  in_turned x p xs i = in_turns x (take p xs) (drop p xs) (rw (take-append-drop p xs) i)

  pub from_turned : (x : X) (p : ℕ) (xs : List X) → In x (turned p xs) → In x xs
  from_turned x p xs i = rw (take-append-drop p xs) at (in_turns x (drop p xs) (take p xs) i)

  from_take : (x : X) (n : ℕ) (xs : List X) → In x (take n xs) → In x xs
  from_take x n xs i = rw (take-append-drop n xs) at (in_left x (take n xs) (drop n xs) i)

  from_drop : (x : X) (n : ℕ) (xs : List X) → In x (drop n xs) → In x xs
  from_drop x n xs i = rw (take-append-drop n xs) at (in_right x (take n xs) (drop n xs) i)

  pub member_some : (x : X) (xs : List X) → In x xs → xs ≢ []
  member_some x xs i e = subst (In x) e i

pub new_corner : (n : ℕ) (ring : List ℕ) (k : ℕ) → In k (from_lowest (placed n ring k))
new_corner n ring k = in_turned k (lowest_at (placed n ring k)) (placed n ring k) (in_right k (take 1 ring) (k ∷ drop n ring) (inl refl))

pub corner_new_or_old : (n : ℕ) (ring : List ℕ) (k i : ℕ) → In i (from_lowest (placed n ring k)) → (i ≡ k) ⊎ In i ring
corner_new_or_old n ring k i m =
    ⊎_elim (λ j. inr (from_take i 1 ring j)) (⊎_elim inl (λ j. inr (from_drop i n ring j)))
    (in_either i (take 1 ring) (k ∷ drop n ring) (from_turned i (lowest_at (placed n ring k)) (placed n ring k) m))

-- ---- a ring stays a ring
module _ {R : Type 0} where
  judged_ring_stays : (s : Standing) (e : Envelope R) (k : ℕ) (ws : List Word) → e.ring ≢ [] → (judged s e k ws).ring ≢ []
  judged_ring_stays Inside e k ws full = full
  judged_ring_stays Held e k ws full = full
  judged_ring_stays Corner e k ws full = let ring = turned (run_start ws) e.ring in member_some k (from_lowest (placed (rights ws) ring k)) (new_corner (rights ws) ring k)

module _ {R : Type 0} (word : R → R → R → Word) where
  pub tried_ring_stays : (e : Envelope R) (k : ℕ) (x : R) → e.ring ≢ [] → (tried word e k x).ring ≢ []
  tried_ring_stays e k x full = tried_keeps word (λ (f : Envelope R). f.ring ≢ []) e k x (λ s ws. judged_ring_stays s e k ws full) full

  -- the ring that the start search makes, or that there was
  pub begun_ring_stays : (e : Envelope R) → (begun word e e.ring).ring ≢ [] → (settled word e).ring ≢ []
  begun_ring_stays e full = settled_keeps word (λ (f : Envelope R). f.ring ≢ []) (λ f k x h r. tried_ring_stays f k x) e full

  with_ring : (e : Envelope R) (ring : List ℕ) → e.ring ≡ ring → e.ring ≢ [] → (begun word e ring).ring ≢ []
  with_ring e [] q full = absurd (full q)
  with_ring e (a ∷ l) q full = full

  pub settled_ring_stays : (e : Envelope R) → e.ring ≢ [] → (settled word e).ring ≢ []
  settled_ring_stays e full = begun_ring_stays e (with_ring e e.ring refl full)

-- ---- corners are numbers of readings
abbrev pub Under : {R : Type 0} → Envelope R → Type 0
Under e = (i : ℕ) → In i e.ring → i < length e.readings

three_under : (n a b c : ℕ) → a < n → b < n → c < n → (i : ℕ) → In i (a ∷ b ∷ c ∷ []) → i < n
three_under n a b c x y z i (inl e) = rw e x
three_under n a b c x y z i (inr (inl e)) = rw e y
three_under n a b c x y z i (inr (inr (inl e))) = rw e z
three_under n a b c x y z i (inr (inr (inr m))) = absurd m

module _ {R : Type 0} where
  judged_under : (s : Standing) (e : Envelope R) (k : ℕ) (ws : List Word) → k < length e.readings → Under e → Under (judged s e k ws)
  judged_under Inside e k ws h u i m = u i m
  judged_under Held e k ws h u i m = u i m
  judged_under Corner e k ws h u i m =
      let ring = turned (run_start ws) e.ring in
      ⊎_elim (λ q. rw q h) (λ j. u i (from_turned i (run_start ws) e.ring j)) (corner_new_or_old (rights ws) ring k i m)

  started_under : (word : R → R → R → Word) (e : Envelope R) (o : Option (ℕ × ℕ × ℕ)) → first_from word 0 e.readings ≡ o → Under e → Under (started e o)
  started_under word e None q u = u
  started_under word e (Some t) q u = let b = found_under word e.readings t (three_found word e.readings t q) in three_under (length e.readings) t.0 t.1 t.2 b.0 b.1 b.2

module _ {R : Type 0} (word : R → R → R → Word) where
  pub tried_under : (e : Envelope R) (k : ℕ) (x : R) → k < length e.readings → Under e → Under (tried word e k x)
  tried_under e k x h u = tried_keeps word Under e k x (λ s ws. judged_under s e k ws h u) u

  begun_under : (e : Envelope R) (ring : List ℕ) → Under e → Under (begun word e ring)
  begun_under e [] u = started_under word e (first_from word 0 e.readings) refl u
  begun_under e (a ∷ l) u = u

  pub settled_under : (e : Envelope R) → Under e → Under (settled word e)
  settled_under e u = settled_keeps word Under (λ f k x h r. tried_under f k x h) e (begun_under e e.ring u)
