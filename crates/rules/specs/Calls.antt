-- The calls of an envelope, what each answers and what it leaves, and lists of calls.
use Rattle.std.specs.Prelude.{ℕ, Bool, true, false, cond, List, [], ◌∷◌, ◌++◌, map, length, take, Some, None, Ok, Err, Option, Result, nat_lt, slice_index_or}
use Rattle.plane.specs.Points.{Point}
use Rattle.reading.specs.declared.cause.Cause.{Cause}
use Rattle.reading.specs.declared.cause.Cause.TheVariants.{EnvelopeFull}
use Rattle.judge.specs.declared.word.Word.{Word}
use Rattle.judge.specs.Words.{Certain}
use Rattle.rules.specs.declared.standing.Standing.{Standing}
use Rattle.rules.specs.declared.standing.Standing.TheVariants.{Held}
use Rattle.rules.specs.declared.location.Location.{Location}
use Rattle.rules.specs.Envelopes.{Envelope, empty, standing_at, corner_at}
use Rattle.rules.specs.Asking.{located}
use Rattle.rules.specs.Settling.{settled, added, settled_count}

pub data Answer : Type 0 where
  entered : Result (ℕ × Standing) Cause → Answer
  rechecked : ℕ → Answer
  found : Location → Answer
  stood : Result Standing Cause → Answer
  cornered : Result ℕ Cause → Answer
  closed : Answer

module _ {R : Type 0} (stands : R → Point → Type 0) where
  -- whatever has a judge's meaning: a word for any three readings, and left and right certain
  pub record Judging : Type 0 where
    pub word : R → R → R → Word
    pub certain : (a b c : R) → Certain stands a b c (word a b c)

  -- what open and bound years both take
  pub data Query : Type 0 where
    locate : R → Judging → Query
    standing : ℕ → Query
    corner : ℕ → Query

  pub data Call : Type 0 where
    enter : R → Judging → Call
    recheck : Judging → Call
    query : Query → Call
    bind : Call

  -- what an open year takes before it is bound
  pub data OpenCall : Type 0 where
    entering : R → Judging → OpenCall
    rechecking : Judging → OpenCall
    querying : Query → OpenCall

  -- a list of calls: bind comes at most once, enter and recheck only before it
  pub record Script : Type 0 where
    pub open_year : List OpenCall
    pub bound_year : Option (List Query)

  abbrev opened : OpenCall → Call
  opened (entering x j) = enter x j
  opened (rechecking j) = recheck j
  opened (querying q) = query q

  abbrev bound_calls : Option (List Query) → List Call
  bound_calls None = []
  bound_calls (Some qs) = bind ∷ map query qs

  abbrev pub calls : Script → List Call
  calls s = map opened s.open_year ++ bound_calls s.bound_year

  abbrev pub queried : Envelope R → Query → Answer
  queried e (locate x j) = found (located j.word e x)
  queried e (standing i) = stood (standing_at e i)
  queried e (corner p) = cornered (corner_at e p)

  abbrev pub entered_as : Envelope R → R → Judging → Envelope R
  entered_as e x j = settled j.word (added e x)

  module _ (capacity : ℕ) where
    -- what a call leaves
    abbrev pub after : Envelope R → Call → Envelope R
    after e (enter x j) = cond (nat_lt (length e.readings) capacity) (entered_as e x j) e
    after e (recheck j) = settled j.word e
    after e (query q) = e
    after e bind = e

    -- what a call answers
    abbrev pub answer : Envelope R → Call → Answer
    answer e (enter x j) = let n = length e.readings in entered (cond (nat_lt n capacity) (Ok (n, slice_index_or (entered_as e x j).standings n Held)) (Err EnvelopeFull))
    answer e (recheck j) = rechecked (settled_count e.standings (settled j.word e).standings)
    answer e (query q) = queried e q
    answer e bind = closed

    abbrev pub after_all : Envelope R → List Call → Envelope R
    after_all e [] = e
    after_all e (c ∷ cs) = after_all (after e c) cs

    -- the envelope at moment m: after the first m calls on a new one
    abbrev pub moment : Script → ℕ → Envelope R
    moment s m = after_all empty (take m (calls s))

    -- ---- read off the calls and their answers
    -- whether an enter was accepted
    abbrev pub is_accepted : Answer → Bool
    is_accepted (entered (Ok a)) = true
    is_accepted (entered (Err a)) = false
    is_accepted (rechecked a) = false
    is_accepted (found a) = false
    is_accepted (stood a) = false
    is_accepted (cornered a) = false
    is_accepted closed = false

    -- the readings of the accepted enters, in order
    abbrev pub taken : Envelope R → Call → List R
    taken e (enter x j) = cond (is_accepted (answer e (enter x j))) (x ∷ []) []
    taken e (recheck j) = []
    taken e (query q) = []
    taken e bind = []

    abbrev pub accepted : Envelope R → List Call → List R
    accepted e [] = []
    accepted e (c ∷ cs) = taken e c ++ accepted (after e c) cs

    -- the judge that settled last: that of the latest recheck or accepted enter, or the one before
    abbrev pub settled_by : Envelope R → Call → Option Judging → Option Judging
    settled_by e (enter x j) before = cond (is_accepted (answer e (enter x j))) (Some j) before
    settled_by e (recheck j) before = Some j
    settled_by e (query q) before = before
    settled_by e bind before = before

    abbrev pub last_judge : Envelope R → List Call → Option Judging → Option Judging
    last_judge e [] before = before
    last_judge e (c ∷ cs) before = last_judge (after e c) cs (settled_by e c before)
