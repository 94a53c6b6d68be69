-- Worked readings, as rows of one list, and what each row says.
use Rattle.std.specs.Prelude.{◌≡◌, ℕ, ◌+◌, ◌*◌, ◌^◌, false, List, [], ◌∷◌, ◌++◌, map, ℤ, pos, negsuc, Ok, Float}
use Rattle.std.specs.Float.{fin}
use Rattle.std.specs.List.{AllByRecursion}
use Rattle.reading.specs.Makes.{logged_made, dipped_made}
use Rattle.judge.specs.declared.word.Word.{Word}
use Rattle.judge.specs.declared.word.Word.TheVariants.{Left, Right, Undecided}
use Rattle.judge.specs.Dips.{Dip}
use Rattle.judge.specs.Quick.{quick_word}
use Rattle.judge.specs.Centre.{centre_area, centre_doubt, centre_word}
use Rattle.judge.specs.Corner.{least, greatest, corner_word}
use Rattle.rules.specs.declared.standing.Standing.{Standing}
use Rattle.rules.specs.declared.standing.Standing.TheVariants.{Corner, Inside, Held}
use Rattle.rules.specs.declared.location.Location.{Location}
use Rattle.rules.specs.declared.location.Location.TheVariants as location
use Rattle.rules.specs.Envelopes.{Envelope, empty}
use Rattle.rules.specs.Asking.{located as located_by}
use Rattle.rules.specs.Settling.{settled, added}

-- what is found of three dips: C, R and the centre judge's word; the least and the greatest doubled area and the corner judge's word
pub record DipsFound : Type 0 where
  pub C : ℤ
  pub R : ℕ
  pub centre : Word
  pub lowest : ℤ
  pub highest : ℤ
  pub corner : Word

abbrev pub of_dips : Dip → Dip → Dip → DipsFound
of_dips a b c = record { C = centre_area a b c; R = centre_doubt a b c; centre = centre_word a b c; lowest = least a b c; highest = greatest a b c; corner = corner_word a b c }

-- what is found of a year of dips that were entered with the corner judge, one after the other
pub record YearFound : Type 0 where
  pub standings : List Standing
  pub ring : List ℕ
  -- dips that are then located
  pub located : List Location

abbrev pub entered : Envelope Dip → List Dip → Envelope Dip
entered e [] = e
entered e (x ∷ xs) = entered (settled corner_word (added e x)) xs

abbrev pub of_year : List Dip → List Dip → YearFound
of_year xs ys = let e = entered empty xs in record { standings = e.standings; ring = e.ring; located = map (located_by corner_word e) ys }

pub data Row : Type 0 where
  -- three dips
  dips : Dip → Dip → Dip → DipsFound → Row
  -- three logged points, a level and a head each, and the quick judge's word
  logs : Float × Float → Float × Float → Float × Float → Word → Row
  -- dips that are entered, and dips that are then located
  year : List Dip → List Dip → YearFound → Row

-- there is such a reading
abbrev pub Dippable : Dip → Type 0
Dippable a = dipped_made a.0 a.1 a.2 a.3 ≡ Ok a

abbrev pub Loggable : Float × Float → Type 0
Loggable a = logged_made a.0 a.1 ≡ Ok a

abbrev pub Holds : Row → Type 0
Holds (dips a b c found) = Dippable a × Dippable b × Dippable c × (of_dips a b c ≡ found)
Holds (logs a b c word) = Loggable a × Loggable b × Loggable c × (quick_word a b c ≡ word)
Holds (year xs ys found) = AllByRecursion Dippable xs × AllByRecursion Dippable ys × (of_year xs ys ≡ found)

-- a dip without tolerance
abbrev mark : ℤ → ℤ → Dip
mark level head = (level, 0, head, 0)

abbrev origin : Dip
origin = mark (pos 0) (pos 0)

abbrev ten : Dip
ten = mark (pos 10) (pos 0)

-- logged numbers

abbrev one : Float
one = fin false 1 (pos 0)

abbrev two : Float
two = fin false 1 (pos 1)

abbrev three : Float
three = fin false 3 (pos 0)

-- years of dips
abbrev triangle : List Dip
triangle = origin ∷ ten ∷ mark (pos 0) (pos 10) ∷ []

abbrev square : List Dip
square = triangle ++ mark (pos 2) (pos 2) ∷ mark (pos 10) (pos 10) ∷ []

abbrev pub rows : List Row
rows =
    dips origin ten (pos 0, 0, pos 10, 0) (record { C = pos 100; R = 0; centre = Left; lowest = pos 100; highest = pos 100; corner = Left })
    ∷ dips origin ten (pos 5, 3, pos 2, 1) (record { C = pos 20; R = 28; centre = Undecided; lowest = pos 10; highest = pos 30; corner = Left })
    ∷ dips origin ten (pos 5, 1, pos 1, 1) (record { C = pos 10; R = 14; centre = Undecided; lowest = pos 0; highest = pos 20; corner = Undecided })
    ∷ dips origin ten (pos 5, 1, negsuc 1, 1) (record { C = negsuc 19; R = 16; centre = Right; lowest = negsuc 29; highest = negsuc 9; corner = Right })
    ∷ logs (one, one) (two, two) (three, fin false (3 * 2 ^ 45 + 1) (negsuc 44)) Left
    ∷ logs (one, one) (two, two) (three, fin false (3 * 2 ^ 46 + 1) (negsuc 45)) Undecided
    ∷ year triangle [] (record { standings = Corner ∷ Corner ∷ Corner ∷ []; ring = 0 ∷ 1 ∷ 2 ∷ []; located = [] })
    ∷ year square (mark (pos 20) (pos 5) ∷ mark (pos 5) (pos 0) ∷ [])
    (record { standings = Corner ∷ Corner ∷ Corner ∷ Inside ∷ Corner ∷ []; ring = 0 ∷ 1 ∷ 4 ∷ 2 ∷ []; located = location.Outside ∷ location.Undecided ∷ [] })
    ∷ year (square ++ mark (pos 5) (pos 0) ∷ []) []
    (record { standings = Corner ∷ Corner ∷ Corner ∷ Inside ∷ Corner ∷ Held ∷ []; ring = 0 ∷ 1 ∷ 4 ∷ 2 ∷ []; located = [] })
    ∷ year (square ++ mark (pos 5) (pos 0) ∷ mark (pos 5) (negsuc 4) ∷ []) []
    (record { standings = Corner ∷ Corner ∷ Corner ∷ Inside ∷ Corner ∷ Inside ∷ Corner ∷ []; ring = 0 ∷ 6 ∷ 1 ∷ 4 ∷ 2 ∷ []; located = [] })
    ∷ []
