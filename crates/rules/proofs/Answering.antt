-- What enter and recheck answer.
use Rattle.std.proofs.Common.{◌≡◌, ℕ, suc, ◌+◌, ◌<◌, ◌≤◌, List, [], ◌∷◌, length, get_or, Ok, Err, sym, refl, arith, length-append, le-ltb, lt-ltb}
use Rattle.reading.specs.declared.cause.Cause.TheVariants.{EnvelopeFull}
use Rattle.plane.specs.Points.{Point}
use Rattle.rules.specs.declared.standing.Standing.{Standing}
use Rattle.rules.specs.declared.standing.Standing.TheVariants.{Corner, Inside, Held}
use Rattle.rules.specs.Envelopes.{Envelope, standing_at}
use Rattle.rules.specs.Trying.{held_count}
use Rattle.rules.specs.Settling.{added, settled, settled_count}
use Rattle.rules.specs.Calls.{Judging, enter, recheck, entered, rechecked, after, answer}
use Rattle.rules.proofs.Lengths.{settled_length}
use Rattle.rules.proofs.Soundness.{standing, Sound, Grows}
use Rattle.rules.proofs.Beginning.{held_not_inside, held_not_corner}

pub stands_as : {R : Type 0} (e : Envelope R) (i : ℕ) → i < length e.standings → standing_at e i ≡ Ok (standing e i)
stands_as e i h = rw (lt-ltb i (length e.standings) h) refl

-- ---- counting: nothing turns held
counts : (st st' : List Standing) → length st' ≡ length st → ((i : ℕ) → get_or st' i Held ≡ Held → get_or st i Held ≡ Held) → settled_count st st' + held_count st' ≡ held_count st
counts [] [] h k = refl
counts [] (t ∷ st') h k = absurd (omega arith)
counts (s ∷ st) [] h k = absurd (omega arith)
counts (s ∷ st) (t ∷ st') h k = by s t (k 0) (counts st st' (omega arith) (λ i. k (suc i)))
  where
    by : (s t : Standing) → (t ≡ Held → s ≡ Held) → settled_count st st' + held_count st' ≡ held_count st → settled_count (s ∷ st) (t ∷ st') + held_count (t ∷ st') ≡ held_count (s ∷ st)
    by Corner Corner n r = omega arith
    by Corner Inside n r = omega arith
    by Corner Held n r = absurd (held_not_corner (sym (n refl)))
    by Inside Corner n r = omega arith
    by Inside Inside n r = omega arith
    by Inside Held n r = absurd (held_not_inside (sym (n refl)))
    by Held Corner n r = omega arith
    by Held Inside n r = omega arith
    by Held Held n r = omega arith

module _ {R : Type 0} (stands : R → Point → Type 0) (capacity : ℕ) (e : Envelope R) (s : Sound stands e) where
  abbrev n : ℕ
  n = length e.readings

  module _ (x : R) (j : Judging stands) where
    abbrev f : Envelope R
    f = settled j.word (added e x)

    has_n : n < length f.standings
    has_n = rw (settled_length j.word (added e x), length-append e.standings (Held ∷ []), s.sized) (omega arith)

    pub enter_refused : capacity ≤ n → answer stands capacity e (enter x j) ≡ entered (Err EnvelopeFull)
    enter_refused h = rw (le-ltb n capacity h) refl

    pub enter_taken : n < capacity → (t : Standing) × (answer stands capacity e (enter x j) ≡ entered (Ok (n, t))) × (standing_at (after stands capacity e (enter x j)) n ≡ Ok t)
    enter_taken h = (get_or f.standings n Held, rw (lt-ltb n capacity h) refl, rw (lt-ltb n capacity h) (stands_as f n has_n))

  pub recheck_counts : (j : Judging stands) → Grows stands e (settled j.word e) → (k : ℕ) × (answer stands capacity e (recheck j) ≡ rechecked k) × (k + held_count (after stands capacity e (recheck j)).standings ≡ held_count e.standings)
  recheck_counts j g = (settled_count e.standings (settled j.word e).standings, refl, counts e.standings (settled j.word e).standings (settled_length j.word e) g.held_was)
