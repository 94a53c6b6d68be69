-- Scripts of steps on a new year, and what they answer.
use Rattle.std.specs.Prelude.{◌≡◌, ℕ, ◌<◌, List, length, map, None, slice_index_or}
use Rattle.plane.specs.Points.{Point}
use Rattle.judge.specs.declared.word.Word.{Word}
use Rattle.rules.specs.Calls.{Judging, Call, OpenCall, Script, Answer, enter, recheck, query, locate, standing, corner, entering, rechecking, querying, entered, rechecked, found, stood, cornered, calls, answer, moment}
use Rattle.envelope.specs.declared.replay.Step.{Step}
use Rattle.envelope.specs.declared.replay.Step.TheVariants.{Enter, Recheck, Locate, Standing, Corner}
use Rattle.envelope.specs.declared.replay.Answered.{Answered}
use Rattle.envelope.specs.declared.replay.Answered.TheVariants.{Entered, Rechecked, Found, Stood, Cornered}

abbrev pub said : Answered → Answer
said (Entered a) = entered a
said (Rechecked n) = rechecked n
said (Found l) = found l
said (Stood a) = stood a
said (Cornered a) = cornered a

module _ {R J : Type 0} (stands : R → Point → Type 0) (judging : J → Judging stands) where
  abbrev pub called : Step R J → Call stands
  called (Enter x j) = enter x (judging j)
  called (Recheck j) = recheck (judging j)
  called (Locate x j) = query (locate x (judging j))
  called (Standing i) = query (standing i)
  called (Corner p) = query (corner p)

  abbrev pub open_call : Step R J → OpenCall stands
  open_call (Enter x j) = entering x (judging j)
  open_call (Recheck j) = rechecking (judging j)
  open_call (Locate x j) = querying (locate x (judging j))
  open_call (Standing i) = querying (standing i)
  open_call (Corner p) = querying (corner p)

  abbrev pub script : List (Step R J) → Script stands
  script steps = record { open_year = map open_call steps; bound_year = None }

-- with judges of these words, whose left and right are certain, each step answers what the rules say at its moment
pub record Replayed {R J : Type 0} (stands : R → Point → Type 0) (word : J → R → R → R → Word) (capacity : ℕ) (steps : List (Step R J)) (answers : List Answered) : Type 0 where
  pub judging : J → Judging stands
  pub words : (j : J) → (judging j).word ≡ word j
  pub one_each : length answers ≡ length steps
  pub answered : (m : ℕ) (a : Answered) (c : Call stands) → m < length steps →
      said (slice_index_or answers m a) ≡ answer stands capacity (moment stands capacity (script stands judging steps) m) (slice_index_or (calls stands (script stands judging steps)) m c)
