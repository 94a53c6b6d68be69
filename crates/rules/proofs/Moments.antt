-- At every moment of a run the envelope is sound and what is held waits, and each moment grows from the moments before it.
use Rattle.std.proofs.Common.{◌≡◌, ℕ, zero, suc, ◌<◌, ◌≤◌, Bool, true, false, cond, T, ltb, List, [], ◌∷◌, ◌++◌, length, get_or, take, Some, None, Ok, Err, Option, sym, refl, ap, ◌∙◌, subst, inl, append_assoc, append-nil, arith, ltb→lt, take-suc}
use Rattle.std.proofs.lemmas.List.{get_or_default}
use Rattle.plane.specs.Points.{Point}
use Rattle.reading.specs.declared.cause.Cause.TheVariants.{NoSuchReading, EnvelopeFull}
use Rattle.judge.specs.declared.word.Word.TheVariants.{Undecided}
use Rattle.rules.specs.declared.standing.Standing.{Standing}
use Rattle.rules.specs.declared.standing.Standing.TheVariants.{Corner, Held}
use Rattle.rules.specs.Envelopes.{Envelope, empty, standing_at}
use Rattle.rules.specs.Settling.{added, settled}
use Rattle.rules.specs.Calls.{Judging, Call, enter, recheck, query, bind, Script, entered, calls, after, after_all, moment, is_accepted, taken, accepted, settled_by, last_judge}
use Rattle.rules.specs.Promise.{Waits, WaitsOn}
use Rattle.rules.proofs.Lengths.{settled_readings}
use Rattle.rules.proofs.Waiting.{held_waits, no_ring_waits}
use Rattle.rules.proofs.Soundness.{standing, Sound, Grows, Step, same, then}
use Rattle.rules.proofs.Adding.{adding}
use Rattle.rules.proofs.Settlings.{settle_step}

-- what an answer of standing says
pub stood : {R : Type 0} (e : Envelope R) (i : ℕ) (t : Standing) → standing_at e i ≡ Ok t → (i < length e.standings) × (standing e i ≡ t)
stood e i t h = by (ltb i (length e.standings)) refl h
  where
    by : (b : Bool) → ltb i (length e.standings) ≡ b → cond b (Ok (get_or e.standings i Held)) (Err NoSuchReading) ≡ Ok t → (i < length e.standings) × (standing e i ≡ t)
    by true q h = (ltb→lt i (length e.standings) (subst T (sym q) tt), cc)
    by false q h = let z : ◌≡◌ {A = ℕ} 0 1 = cc in absurd (omega arith)

module _ {R : Type 0} (stands : R → Point → Type 0) (some : (r : R) → (q : Point) × stands r q) where
  empty_sound : Sound stands empty
  empty_sound = record {
    sized = refl;
    under = λ i j. absurd j;
    distinct = tt;
    corner_in = λ i h. let z : ◌≡◌ {A = ℕ} 0 1 = cc in absurd (omega arith);
    in_corner = λ i j. absurd j;
    three = inl refl;
    lowest = tt;
    fresh = λ h i. refl;
    convex = λ at ch a b c i. absurd i;
    inside = λ i h at ch a b j. absurd j;
  }

  -- ---- settling by a judge, and what then waits on it
  module _ (j : Judging stands) (e : Envelope R) (s : Sound stands e) where
    pub settles : Step stands e (settled j.word e)
    settles = settle_step stands some j.word j.certain e s

    waits_on : Waits stands j (settled j.word e)
    waits_on = record {
      side = λ i x h ne.
          let f = settled j.word e in
          let t = stood f i Held h in
          let l : i < length f.readings = rw (sym settles.sound.sized) t.0 in
          let y = get_or f.readings i x in
          let w = held_waits j.word e s.under i y l (get_or_default f.standings i Corner Held t.0 ∙ t.1) ne in
          (w.0, w.1, subst (λ r. j.word (get_or f.readings w.0.0 y) (get_or f.readings w.0.1 y) r ≡ Undecided) (get_or_default f.readings i y x l) w.2);
      triples = λ h. no_ring_waits j.word e h;
    }

  module _ (capacity : ℕ) where
    -- an envelope that is sound and waits on the judge that settled last
    pub record Good (e : Envelope R) (j : Option (Judging stands)) : Type 0 where
      pub sound : Sound stands e
      pub waits : WaitsOn stands j e

    record Next (e f : Envelope R) (j : Option (Judging stands)) : Type 0 where
      good : Good f j
      grows : Grows stands e f

    unchanged : (e : Envelope R) (j : Option (Judging stands)) → Good e j → Next e e j
    unchanged e j g = record { good = g; grows = same stands e }

    next : (e : Envelope R) (before : Option (Judging stands)) → Good e before → (c : Call stands) → Next e (after stands capacity e c) (settled_by stands capacity e c before)
    next e before g (enter x j) = by (ltb (length e.readings) capacity)
      where
        by : (b : Bool) → Next e (cond b (settled j.word (added e x)) e) (cond (is_accepted stands capacity (entered (cond b (Ok (length e.readings, get_or (settled j.word (added e x)).standings (length e.readings) Held)) (Err EnvelopeFull)))) (Some j) before)
        by true =
            let a = adding stands e x g.sound in
            let t = settles j (added e x) a.sound in
            record { good = record { sound = t.sound; waits = waits_on j (added e x) a.sound }; grows = then stands a.grows t.grows }
        by false = unchanged e before g
    next e before g (recheck j) = let t = settles j e g.sound in record { good = record { sound = t.sound; waits = waits_on j e g.sound }; grows = t.grows }
    next e before g (query q) = unchanged e before g
    next e before g bind = unchanged e before g

    nexts : (cs : List (Call stands)) (e : Envelope R) (before : Option (Judging stands)) → Good e before → Next e (after_all stands capacity e cs) (last_judge stands capacity e cs before)
    nexts [] e before g = unchanged e before g
    nexts (c ∷ cs) e before g =
        let n = next e before g c in
        let m = nexts cs (after stands capacity e c) (settled_by stands capacity e c before) n.good in
        record { good = m.good; grows = then stands n.grows m.grows }

    after_append : (cs ds : List (Call stands)) (e : Envelope R) → after_all stands capacity e (cs ++ ds) ≡ after_all stands capacity (after_all stands capacity e cs) ds
    after_append [] ds e = refl
    after_append (c ∷ cs) ds e = after_append cs ds (after stands capacity e c)

    -- ---- the readings are those of the accepted enters
    one_taken : (e : Envelope R) (c : Call stands) → (after stands capacity e c).readings ≡ e.readings ++ taken stands capacity e c
    one_taken e (enter x j) = by (ltb (length e.readings) capacity)
      where
        by : (b : Bool) → (cond b (settled j.word (added e x)) e).readings
            ≡ e.readings ++ cond (is_accepted stands capacity (entered (cond b (Ok (length e.readings, get_or (settled j.word (added e x)).standings (length e.readings) Held)) (Err EnvelopeFull)))) (x ∷ []) []
        by true = settled_readings j.word (added e x)
        by false = sym (append-nil _)
    one_taken e (recheck j) = settled_readings j.word e ∙ sym (append-nil _)
    one_taken e (query q) = sym (append-nil _)
    one_taken e bind = sym (append-nil _)

    all_taken : (cs : List (Call stands)) (e : Envelope R) → (after_all stands capacity e cs).readings ≡ e.readings ++ accepted stands capacity e cs
    all_taken [] e = sym (append-nil _)
    all_taken (c ∷ cs) e = all_taken cs (after stands capacity e c) ∙ ap (λ r. r ++ accepted stands capacity (after stands capacity e c) cs) (one_taken e c) ∙ append_assoc e.readings _ _

    more : (l m : ℕ) (cs : List (Call stands)) → l ≤ m → (ds : List (Call stands)) × (take m cs ≡ take l cs ++ ds)
    more zero m cs h = (take m cs, refl)
    more (suc l) zero cs h = absurd (omega arith)
    more (suc l) (suc m) [] h = ([], refl)
    more (suc l) (suc m) (c ∷ cs) h = let t = more l m cs (omega arith) in (t.0, ap (λ r. c ∷ r) t.1)

    module _ (s : Script stands) where
      pub good_at : (m : ℕ) → Good (moment stands capacity s m) (last_judge stands capacity empty (take m (calls stands s)) None)
      good_at m = (nexts (take m (calls stands s)) empty None (record { sound = empty_sound; waits = refl })).good

      pub grows_to : (l m : ℕ) → l ≤ m → Grows stands (moment stands capacity s l) (moment stands capacity s m)
      grows_to l m h =
          let t = more l m (calls stands s) h in
          subst (Grows stands (moment stands capacity s l)) (sym (ap (after_all stands capacity empty) t.1 ∙ after_append (take l (calls stands s)) t.0 empty))
          (nexts t.0 (moment stands capacity s l) _ (good_at l)).grows

      pub moment_after : (l : ℕ) (d : Call stands) → l < length (calls stands s) → moment stands capacity s (suc l) ≡ after stands capacity (moment stands capacity s l) (get_or (calls stands s) l d)
      moment_after l d h = ap (after_all stands capacity empty) (take-suc (calls stands s) l d h) ∙ after_append (take l (calls stands s)) (get_or (calls stands s) l d ∷ []) empty

      pub readings_are : (m : ℕ) → (moment stands capacity s m).readings ≡ accepted stands capacity empty (take m (calls stands s))
      readings_are m = all_taken (take m (calls stands s)) empty
