-- The promise holds at every moment of every run.
use Rattle.std.proofs.Common.{◌≡◌, ℕ, suc, ◌<◌, ◌≤◌, Bool, true, false, cond, ltb, length, get_or, Ok, Err, sym, refl, ap, ◌∙◌, subst, le_trans, arith, le-ltb, lt-ltb}
use Rattle.reading.specs.declared.cause.Cause.TheVariants.{EnvelopeFull}
use Rattle.plane.specs.Points.{Point}
use Rattle.rules.specs.declared.standing.Standing.{Standing}
use Rattle.rules.specs.declared.standing.Standing.TheVariants.{Corner, Inside, Held}
use Rattle.rules.specs.Envelopes.{Envelope, standing_at}
use Rattle.rules.specs.Settling.{added, settled}
use Rattle.rules.specs.Calls.{Judging, Script, enter, entered, calls, after, answer}
use Rattle.rules.specs.Promise.{Within, Chosen, Kept, at_moment}
use Rattle.rules.proofs.Geometry.{inside_within}
use Rattle.rules.proofs.Soundness.{standing, Sound}
use Rattle.rules.proofs.Beginning.{held_not_inside}
use Rattle.rules.proofs.Cornering.{there}
use Rattle.rules.proofs.Moments.{stood, settles, good_at, grows_to, moment_after, readings_are}
use Rattle.rules.proofs.Answering.{stands_as, enter_refused, enter_taken, recheck_counts}
use Rattle.rules.proofs.Locating.{stays_inside, lies_outside, outside_some, unsure}

-- what enter answers is what standing would then answer
from_answer : {R : Type 0} (stands : R → Point → Type 0) (capacity : ℕ) (e : Envelope R) (i : ℕ) (x : R) (j : Judging stands) → answer stands capacity e (enter x j) ≡ entered (Ok (i, Inside)) → standing_at (after stands capacity e (enter x j)) i ≡ Ok Inside
from_answer {R} stands capacity e i x j h = by (ltb n capacity) h
  where
    n : ℕ
    n = length e.readings

    f : Envelope R
    f = settled j.word (added e x)

    by : (b : Bool) → entered (cond b (Ok (n, get_or f.standings n Held)) (Err EnvelopeFull)) ≡ entered (Ok (i, Inside)) → standing_at (cond b f e) i ≡ Ok Inside
    by true h = let t = pair n i (get_or f.standings n Held) h in subst (λ k. standing_at f k ≡ Ok Inside) t.0 (stands_as f n (there f.standings n t.1) ∙ ap Ok t.1)
      where
        pair : (n i : ℕ) (t : Standing) → entered (Ok (n, t)) ≡ entered (Ok (i, Inside)) → (n ≡ i) × (t ≡ Inside)
        pair n i t h = let p : ◌≡◌ {A = ℕ × Standing} (n, t) (i, Inside) = cc in (ap (λ q. q.0) p, ap (λ q. q.1) p)
    by false h = let z : ◌≡◌ {A = ℕ} 0 1 = cc in absurd (omega arith)

module _ {R : Type 0} (stands : R → Point → Type 0) (some : (r : R) → (q : Point) × stands r q) (capacity : ℕ) (s : Script stands) (m : ℕ) (last : m ≤ length (calls stands s)) where
  abbrev e : ℕ → Envelope R
  e = at_moment stands capacity s

  sound : (l : ℕ) → Sound stands (e l)
  sound l = (good_at stands some capacity s l).sound

  -- a reading whose standing is inside
  within : (i : ℕ) → standing (e m) i ≡ Inside → i < length (e m).standings → (at : ℕ → Point) → Chosen stands (e m).readings at → Within at (e m).ring (at i)
  within i h l at ch =
      inside_within at (length (e m).readings) (e m).ring (sound m).under i (rw (sym (sound m).sized) l)
      (λ z. held_not_inside (sym ((sound m).fresh z i) ∙ h)) ((sound m).inside i h at ch)

  was_inside : (l i : ℕ) → l ≤ m → standing_at (e l) i ≡ Ok Inside → (at : ℕ → Point) → Chosen stands (e m).readings at → Within at (e m).ring (at i)
  was_inside l i h p =
      let t = stood (e l) i Inside p in
      let g = grows_to stands some capacity s l m h in
      within i (g.inside_stays i t.1) (rw (sound m).sized (le_trans (rw (sound l).sized at t.0) g.longer))

  -- an enter that answered inside
  stands_as_entered : (l i : ℕ) (x : R) (j : Judging stands) → l < m → get_or (calls stands s) l (enter x j) ≡ enter x j → answer stands capacity (e l) (enter x j) ≡ entered (Ok (i, Inside)) → standing_at (e (suc l)) i ≡ Ok Inside
  stands_as_entered l i x j h c a =
      subst (λ f. standing_at f i ≡ Ok Inside) (sym (moment_after stands some capacity s l (enter x j) (le_trans h last) ∙ ap (after stands capacity (e l)) c)) (from_answer stands capacity (e l) i x j a)

  pub kept : Kept stands capacity s m
  kept = record {
    readings = readings_are stands some capacity s m;
    ring_read = λ p. ((λ h. rw (lt-ltb p (length (e m).ring) h) refl), (λ h. rw (le-ltb p (length (e m).ring) h) refl));
    convex = (sound m).convex;
    stood_inside = was_inside;
    entered_inside = λ l i h x j c a. was_inside (suc l) i h (stands_as_entered l i x j h c a);
    located_inside = λ l h x j p at ch q hq. stays_inside stands j.word j.certain x q hq (e l) (e m) (sound l) (sound m) (grows_to stands some capacity s l m h) p at ch;
    located_outside = λ x j p. (outside_some j.word (e m) x p, λ at ch q hq. lies_outside stands j.word j.certain x q hq (e m) (sound m) p at ch);
    located_undecided = λ x j. unsure j.word (e m) x;
    standings = λ i. ((λ h. (standing (e m) i, stands_as (e m) i (rw (sound m).sized h))), (λ h. rw (le-ltb i (length (e m).standings) (rw (sound m).sized h)) refl));
    corners = λ i. (
      (λ h. (sound m).corner_in i (stood (e m) i Corner h).1),
      (λ j. stands_as (e m) i (rw (sound m).sized ((sound m).under i j)) ∙ ap Ok ((sound m).in_corner i j)),
    );
    three = (sound m).three;
    lowest = (sound m).lowest;
    waits = (good_at stands some capacity s m).waits;
    enters = λ x j. (enter_refused stands capacity (e m) (sound m) x j, enter_taken stands capacity (e m) (sound m) x j);
    rechecks = λ j. recheck_counts stands capacity (e m) (sound m) j (settles stands some j (e m) (sound m)).grows;
  }
