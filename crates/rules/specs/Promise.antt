-- What an envelope promises over every run of its calls.
use Rattle.std.specs.Prelude.{◌≡◌, ℕ, ◌+◌, ◌<◌, ◌≤◌, ◌≢◌, ◌⊎◌, ◌↔◌, List, [], ◌∷◌, length, take, ℤ, Some, None, Ok, Err, Option, slice_index, slice_index_or}
use Rattle.plane.specs.Fractions.{Positive, Less}
use Rattle.plane.specs.Points.{Point, doubled_area}
use Rattle.plane.specs.Rings.{sides, In}
use Rattle.plane.specs.Directions.{reach}
use Rattle.reading.specs.declared.cause.Cause.TheVariants.{EnvelopeFull, NoSuchReading, NoSuchCorner}
use Rattle.judge.specs.declared.word.Word.TheVariants.{Undecided}
use Rattle.rules.specs.declared.standing.Standing.{Standing}
use Rattle.rules.specs.declared.standing.Standing.TheVariants.{Corner, Inside, Held}
use Rattle.rules.specs.declared.location.Location.TheVariants as location
use Rattle.rules.specs.Envelopes.{Envelope, empty, standing_at, corner_at}
use Rattle.rules.specs.Asking.{located}
use Rattle.rules.specs.Trying.{held_count}
use Rattle.rules.specs.Calls.{Judging, Script, enter, recheck, entered, rechecked, calls, after, answer, moment, accepted, last_judge}

-- each corner other than a side's own two ends lies strictly left of that side
abbrev pub Convex : (ℕ → Point) → List ℕ → Type 0
Convex at ring = (a b c : ℕ) → In (a, b) (sides ring) → In c ring → c ≢ a → c ≢ b → Positive (doubled_area (at a) (at b) (at c))

-- in the direction u, v the point q lies farther out than every corner
abbrev pub Beyond : (ℕ → Point) → List ℕ → ℤ → ℤ → Point → Type 0
Beyond at ring u v q = (c : ℕ) → In c ring → Less (reach u v (at c)) (reach u v q)

-- in no direction; without corners nothing is
abbrev pub Within : (ℕ → Point) → List ℕ → Point → Type 0
Within at ring q = (u v : ℤ) → Beyond at ring u v q → ⊥

-- in some direction; without corners everything is
abbrev pub Out : (ℕ → Point) → List ℕ → Point → Type 0
Out at ring q = (u : ℤ) × (v : ℤ) × Beyond at ring u v q

-- the first number is below all others
abbrev pub Lowest : List ℕ → Type 0
Lowest [] = Unit {0}
Lowest (a ∷ l) = (i : ℕ) → In i l → a < i

module _ {R : Type 0} (stands : R → Point → Type 0) where
  -- one true point for each reading; x stands for a number that is not there
  abbrev pub Chosen : List R → (ℕ → Point) → Type 0
  Chosen rs at = (i : ℕ) (x : R) → i < length rs → stands (slice_index_or rs i x) (at i)

  -- the judge is undecided of a reading, with x for a number that is not there, on some side of the ring
  abbrev pub Unsure : Judging stands → Envelope R → R → Type 0
  Unsure j e x = (s : ℕ × ℕ) × In s (sides e.ring) × (j.word (slice_index_or e.readings s.0 x) (slice_index_or e.readings s.1 x) x ≡ Undecided)

  -- a held reading waits on a side of which the judge is undecided, or, without a ring, all three readings in order of arrival do
  pub record Waits (j : Judging stands) (e : Envelope R) : Type 0 where
    pub side : (i : ℕ) (x : R) → standing_at e i ≡ Ok Held → e.ring ≢ [] → Unsure j e (slice_index_or e.readings i x)
    pub triples : e.ring ≡ [] → (a b c : ℕ) (x : R) → a < b → b < c → c < length e.readings → j.word (slice_index_or e.readings a x) (slice_index_or e.readings b x) (slice_index_or e.readings c x) ≡ Undecided

  -- before any judge there are no readings
  abbrev pub WaitsOn : Option (Judging stands) → Envelope R → Type 0
  WaitsOn None e = e.readings ≡ []
  WaitsOn (Some j) e = Waits j e

  module _ (capacity : ℕ) (s : Script stands) where
    abbrev pub at_moment : ℕ → Envelope R
    at_moment m = moment stands capacity s m

    -- what holds at moment m, for every choice of true points, of the ring and the readings as they then are
    pub record Kept (m : ℕ) : Type 0 where
      -- the readings are those of the accepted enters
      pub readings : (at_moment m).readings ≡ accepted stands capacity empty (take m (calls stands s))
      -- the ring is what corner would answer from position 0 up to its refusal
      pub ring_read : (p : ℕ) → (p < length (at_moment m).ring → corner_at (at_moment m) p ≡ Ok (slice_index (at_moment m).ring p)) × (length (at_moment m).ring ≤ p → corner_at (at_moment m) p ≡ Err NoSuchCorner)
      pub convex : (at : ℕ → Point) → Chosen (at_moment m).readings at → Convex at (at_moment m).ring
      -- what standing, at any moment up to now, would have called inside
      pub stood_inside : (l i : ℕ) → l ≤ m → standing_at (at_moment l) i ≡ Ok Inside → (at : ℕ → Point) → Chosen (at_moment m).readings at → Within at (at_moment m).ring (at i)
      -- what enter called inside
      pub entered_inside : (l i : ℕ) → l < m → (x : R) (j : Judging stands) → slice_index_or (calls stands s) l (enter x j) ≡ enter x j → answer stands capacity (at_moment l) (enter x j) ≡ entered (Ok (i, Inside)) → (at : ℕ → Point) → Chosen (at_moment m).readings at → Within at (at_moment m).ring (at i)
      -- what locate, with any judge and at any moment up to now, would have called inside
      pub located_inside : (l : ℕ) → l ≤ m → (x : R) (j : Judging stands) → located j.word (at_moment l) x ≡ location.Inside → (at : ℕ → Point) → Chosen (at_moment m).readings at → (q : Point) → stands x q → Within at (at_moment m).ring q
      -- what locate, with any judge, now calls outside: there is a ring, and the reading lies outside it
      pub located_outside : (x : R) (j : Judging stands) → located j.word (at_moment m) x ≡ location.Outside → ((at_moment m).ring ≢ []) × ((at : ℕ → Point) → Chosen (at_moment m).readings at → (q : Point) → stands x q → Out at (at_moment m).ring q)
      -- where locate is undecided, there is no ring or the judge is undecided on a side
      pub located_undecided : (x : R) (j : Judging stands) → located j.word (at_moment m) x ≡ location.Undecided → ((at_moment m).ring ≡ []) ⊎ Unsure j (at_moment m) x
      -- every reading has a standing, and no other number has one
      pub standings : (i : ℕ) → (i < length (at_moment m).readings → (t : Standing) × (standing_at (at_moment m) i ≡ Ok t)) × (length (at_moment m).readings ≤ i → standing_at (at_moment m) i ≡ Err NoSuchReading)
      pub corners : (i : ℕ) → (standing_at (at_moment m) i ≡ Ok Corner) ↔ In i (at_moment m).ring
      -- the ring is empty or has at least three corners, and is read from the lowest number
      pub three : ((at_moment m).ring ≡ []) ⊎ (3 ≤ length (at_moment m).ring)
      pub lowest : Lowest (at_moment m).ring
      -- the judge that settled last
      pub waits : WaitsOn (last_judge stands capacity empty (take m (calls stands s)) None) (at_moment m)
      -- an enter would be refused exactly at capacity, and else answer the next number with the standing that it then has
      pub enters : (x : R) (j : Judging stands) → let n = length (at_moment m).readings in
          (capacity ≤ n → answer stands capacity (at_moment m) (enter x j) ≡ entered (Err EnvelopeFull))
          × (n < capacity → (t : Standing) × (answer stands capacity (at_moment m) (enter x j) ≡ entered (Ok (n, t))) × (standing_at (after stands capacity (at_moment m) (enter x j)) n ≡ Ok t))
      -- a recheck would answer how many fewer are held after it
      pub rechecks : (j : Judging stands) → (n : ℕ) × (answer stands capacity (at_moment m) (recheck j) ≡ rechecked n) × (n + held_count (after stands capacity (at_moment m) (recheck j)).standings ≡ held_count (at_moment m).standings)

  -- at every moment: before the first call, and after any
  abbrev pub Promise : Type 0
  Promise = (capacity : ℕ) (s : Script stands) (m : ℕ) → m ≤ length (calls stands s) → Kept capacity s m
