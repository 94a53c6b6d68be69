-- One step after the other: the answers so far are those of the rules, and the year is that of the next moment.
use Rattle.std.proofs.Common.{◌≡◌, ℕ, suc, ◌+◌, ◌<◌, ◌≢◌, List, [], ◌∷◌, ◌++◌, map, length, get_or, sym, refl, ap, ◌∙◌, arith, length-append}
use native.Mathlib.Decide.{ℕ_discrete}
use Rattle.std.proofs.lemmas.List.{length-map, get_or-map, get_or_append_left}
use Rattle.std.proofs.Math.Seq.{get_or-append_seam}
use Rattle.plane.specs.Points.{Point}
use Rattle.judge.specs.declared.word.Word.{Word}
use Rattle.judge.specs.Words.{Certain}
use Rattle.rules.specs.Envelopes.{empty}
use Rattle.rules.specs.Calls.{Judging, Call, Script, Answer, enter, recheck, calls, answer, after, moment}
use Rattle.rules.proofs.Moments.{moment_after}
use Rattle.envelope.specs.declared.replay.Step.{Step}
use Rattle.envelope.specs.declared.replay.Step.TheVariants.{Enter, Recheck, Locate, Standing, Corner}
use Rattle.envelope.specs.declared.replay.Answered.{Answered}
use Rattle.envelope.specs.Years.{Year}
use Rattle.envelope.specs.Calling.{Called}
use Rattle.envelope.specs.Replays.{said, called, script, Replayed}

abbrev pub judging_by : {R J : Type 0} (stands : R → Point → Type 0) (word : J → R → R → R → Word) → ((j : J) (a b c : R) → Certain stands a b c (word j a b c)) → J → Judging stands
judging_by stands word certain j = record { word = word j; certain = certain j }

-- ---- a call by another judging of the same word
module _ {R : Type 0} (stands : R → Point → Type 0) (word : R → R → R → Word) (y z : Year R) (a : Answer) (j : Judging stands) (same : j.word ≡ word) where
  pub enters_as : (x : R) → Called stands word (enter x) y a z → (a ≡ answer stands y.capacity y.envelope (enter x j)) × (z ≡ record y { envelope = after stands y.capacity y.envelope (enter x j) })
  enters_as x d = (d.answers ∙ rw (d.words, same) refl, d.leaves ∙ rw (d.words, same) refl)

  pub rechecks_as : Called stands word recheck y a z → (a ≡ answer stands y.capacity y.envelope (recheck j)) × (z ≡ record y { envelope = after stands y.capacity y.envelope (recheck j) })
  rechecks_as d = (d.answers ∙ rw (d.words, same) refl, d.leaves ∙ rw (d.words, same) refl)

below : (m i : ℕ) → m < i + 1 → m ≢ i → m < i
below m i h n = omega arith

-- ---- the calls of a script of steps
module _ {R J : Type 0} (stands : R → Point → Type 0) (judging : J → Judging stands) where
  all_called : (steps : List (Step R J)) → calls stands (script stands judging steps) ≡ map (called stands judging) steps
  all_called [] = refl
  all_called (Enter x j ∷ steps) = ap (λ cs. called stands judging (Enter x j) ∷ cs) (all_called steps)
  all_called (Recheck j ∷ steps) = ap (λ cs. called stands judging (Recheck j) ∷ cs) (all_called steps)
  all_called (Locate x j ∷ steps) = ap (λ cs. called stands judging (Locate x j) ∷ cs) (all_called steps)
  all_called (Standing i ∷ steps) = ap (λ cs. called stands judging (Standing i) ∷ cs) (all_called steps)
  all_called (Corner p ∷ steps) = ap (λ cs. called stands judging (Corner p) ∷ cs) (all_called steps)

  module _ (some : (r : R) → (q : Point) × stands r q) (capacity : ℕ) (steps : List (Step R J)) where
    abbrev s : Script stands
    s = script stands judging steps

    pub record Played (i : ℕ) (y : Year R) (answers : List Answered) : Type 0 where
      pub year : y ≡ record { envelope = moment stands capacity s i; capacity = capacity }
      pub count : length answers ≡ i
      pub answered : (m : ℕ) (a : Answered) (c : Call stands) → m < i → said (get_or answers m a) ≡ answer stands capacity (moment stands capacity s m) (get_or (calls stands s) m c)

    pub none_played : Played 0 (record { envelope = empty; capacity = capacity }) []
    none_played = record { year = refl; count = refl; answered = λ m a c h. absurd (omega arith) }

    at_step : (i : ℕ) (step : Step R J) (c : Call stands) → i < length steps → get_or steps i step ≡ step → get_or (calls stands s) i c ≡ called stands judging step
    at_step i step c h is = ap (λ cs. get_or cs i c) (all_called steps) ∙ get_or-map (called stands judging) steps i step c h ∙ ap (called stands judging) is

    pub one_more : (i : ℕ) (step : Step R J) (y z : Year R) (answers : List Answered) (r : Answered) → i < length steps → get_or steps i step ≡ step →
        said r ≡ answer stands y.capacity y.envelope (called stands judging step) → z ≡ record y { envelope = after stands y.capacity y.envelope (called stands judging step) } →
        Played i y answers → Played (i + 1) z (answers ++ r ∷ [])
    one_more i step y z answers r h is says leaves p = record {
      year = leaves ∙ rw p.year (ap (λ e. record { envelope = e; capacity = capacity })
          (ap (after stands capacity (moment stands capacity s i)) (sym (at_step i step (called stands judging step) h is))
          ∙ sym (moment_after stands some capacity s i (called stands judging step) long) ∙ ap (moment stands capacity s) next));
      count = let l = length-append answers (r ∷ []) in let n = p.count in omega arith;
      answered = λ m a c k. by m a c k (ℕ_discrete m i);
    }
      where
        next : suc i ≡ i + 1
        next = omega arith

        long : i < length (calls stands s)
        long = let l = ap length (all_called steps) in rw (all_called steps) (omega (arith, length-map steps (called stands judging)))

        by : (m : ℕ) (a : Answered) (c : Call stands) → m < i + 1 → Dec (m ≡ i) → said (get_or (answers ++ r ∷ []) m a) ≡ answer stands capacity (moment stands capacity s m) (get_or (calls stands s) m c)
        by m a c k (no n) = ap said (get_or_append_left answers (r ∷ []) a m (let q = p.count in let b = below m i k n in omega arith)) ∙ p.answered m a c (below m i k n)
        by m a c k (yes e) = rw e
            (ap said (ap (λ n. get_or (answers ++ r ∷ []) n a) (sym p.count) ∙ get_or-append_seam answers r [] a)
            ∙ says ∙ rw p.year (ap (answer stands capacity (moment stands capacity s i)) (sym (at_step i step c h is))))

    pub replayed : (i : ℕ) (y : Year R) (answers : List Answered) (word : J → R → R → R → Word) → ((j : J) → (judging j).word ≡ word j) → i ≡ length steps → Played i y answers → Replayed stands word capacity steps answers
    replayed i y answers word words all p = record { judging = judging; words = words; one_each = p.count ∙ all; answered = λ m a c h. p.answered m a c (omega arith) }
