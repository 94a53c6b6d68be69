-- Settling turns nothing held, so what it settles is what is held no longer.
use Rattle.std.proofs.Common.{◌≡◌, ℕ, zero, suc, ◌+◌, List, [], ◌∷◌, length, ◌≢◌, get_or, set, Some, None, Option, refl, sym, arith}
use Rattle.judge.specs.declared.word.Word.{Word}
use Rattle.rules.specs.declared.standing.Standing.{Standing}
use Rattle.rules.specs.declared.standing.Standing.TheVariants.{Corner, Inside, Held}
use Rattle.rules.specs.Envelopes.{Envelope}
use Rattle.rules.specs.Placing.{rights, run_start, turned, retired}
use Rattle.rules.specs.Trying.{judged, all_inside, held_count}
use Rattle.rules.specs.Starting.{first_from, started}
use Rattle.rules.specs.Settling.{begun, settled, settled_count}
use Rattle.rules.proofs.Beginning.{held_not_inside, held_not_corner}
use Rattle.rules.proofs.Keeping.{settled_keeps, tried_keeps}
use Rattle.rules.proofs.Lengths.{settled_length}

-- what is held in the second was held in the first
abbrev WasHeld : List Standing → List Standing → Type 0
WasHeld st st' = (i : ℕ) → get_or st' i Held ≡ Held → get_or st i Held ≡ Held

set_was : (st : List Standing) (k : ℕ) (s : Standing) → s ≢ Held → WasHeld st (set st k s)
set_was [] k s n i h = h
set_was (t ∷ st) zero s n zero h = absurd (n h)
set_was (t ∷ st) zero s n (suc i) h = h
set_was (t ∷ st) (suc k) s n zero h = h
set_was (t ∷ st) (suc k) s n (suc i) h = set_was st k s n i h

inside_was : (is : List ℕ) (st : List Standing) → WasHeld st (all_inside is st)
inside_was [] st i h = h
inside_was (k ∷ is) st i h = set_was st k Inside (λ e. held_not_inside (sym e)) i (inside_was is (set st k Inside) i h)

corner_was : (st : List Standing) (k : ℕ) → WasHeld st (set st k Corner)
corner_was st k = set_was st k Corner (λ e. held_not_corner (sym e))

module _ {R : Type 0} where
  judged_was : (s : Standing) (e : Envelope R) (k : ℕ) (ws : List Word) → WasHeld e.standings (judged s e k ws).standings
  judged_was Inside e k ws i h = set_was e.standings k Inside (λ q. held_not_inside (sym q)) i h
  judged_was Held e k ws i h = h
  judged_was Corner e k ws i h = corner_was e.standings k i (inside_was (retired (rights ws) (turned (run_start ws) e.ring)) (set e.standings k Corner) i h)

  started_was : (e : Envelope R) (o : Option (ℕ × ℕ × ℕ)) → WasHeld e.standings (started e o).standings
  started_was e None i h = h
  started_was e (Some (a, b, c)) i h = corner_was e.standings a i (corner_was (set e.standings a Corner) b i (corner_was (set (set e.standings a Corner) b Corner) c i h))

module _ {R : Type 0} (word : R → R → R → Word) where
  begun_was : (e : Envelope R) (ring : List ℕ) → WasHeld e.standings (begun word e ring).standings
  begun_was e [] i h = started_was e (first_from word 0 e.readings) i h
  begun_was e (a ∷ l) i h = h

  settled_was : (e : Envelope R) → WasHeld e.standings (settled word e).standings
  settled_was e =
      let P : Envelope R → Type 0 = λ f. WasHeld e.standings f.standings in
      settled_keeps word P (λ f k x l r p. tried_keeps word P f k x (λ s ws i h. p i (judged_was s f k ws i h)) p) e (begun_was e e.ring)

counts : (st st' : List Standing) → length st' ≡ length st → WasHeld st st' → settled_count st st' + held_count st' ≡ held_count st
counts [] [] l w = refl
counts [] (t ∷ st') l w = absurd (omega arith)
counts (s ∷ st) [] l w = absurd (omega arith)
counts (s ∷ st) (t ∷ st') l w = by s t (w 0) (counts st st' (omega arith) (λ i. w (suc i)))
  where
    by : (s t : Standing) → (t ≡ Held → s ≡ Held) → settled_count st st' + held_count st' ≡ held_count st → settled_count (s ∷ st) (t ∷ st') + held_count (t ∷ st') ≡ held_count (s ∷ st)
    by Corner Corner n r = omega arith
    by Corner Inside n r = omega arith
    by Corner Held n r = absurd (held_not_corner (sym (n refl)))
    by Inside Corner n r = omega arith
    by Inside Inside n r = omega arith
    by Inside Held n r = absurd (held_not_inside (sym (n refl)))
    by Held Corner n r = omega arith
    by Held Inside n r = omega arith
    by Held Held n r = omega arith

pub held_fewer : {R : Type 0} (word : R → R → R → Word) (e : Envelope R) → settled_count e.standings (settled word e).standings + held_count (settled word e).standings ≡ held_count e.standings
held_fewer word e = counts e.standings (settled word e).standings (settled_length word e) (settled_was word e)
