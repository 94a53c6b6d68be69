-- Where a new corner goes: between the two ends of the run of right sides.
use Rattle.std.specs.Prelude.{ℕ, suc, ◌+◌, ◌-◌, Bool, true, false, cond, not, ◌&&◌, List, [], ◌∷◌, ◌++◌, length, take, drop, nat_lt, slice_index_or}
use Rattle.judge.specs.declared.word.Word.{Word}
use Rattle.judge.specs.declared.word.Word.TheVariants.{Left, Right, Undecided}

abbrev pub is_right : Word → Bool
is_right Left = false
is_right Right = true
is_right Undecided = false

-- how many sides say right
abbrev pub rights : List Word → ℕ
rights [] = 0
rights (w ∷ ws) = cond (is_right w) (suc (rights ws)) (rights ws)

-- the first side, from position i on, that says right after one that does not; `before` says whether the side before says right
abbrev pub run_from : Bool → ℕ → List Word → ℕ
run_from before i [] = i
run_from before i (w ∷ ws) = cond (is_right w && not before) i (run_from (is_right w) (i + 1) ws)

-- where the run of right sides begins; the last side comes before the first
abbrev pub run_start : List Word → ℕ
run_start ws = run_from (is_right (slice_index_or ws (length ws - 1) Left)) 0 ws

-- the same ring, read from position p
abbrev pub turned : {X : Type 0} → ℕ → List X → List X
turned p xs = drop p xs ++ take p xs

-- a run of n right sides begins at the first corner of the ring: k comes after that corner, and the run's last end after k
abbrev pub placed : ℕ → List ℕ → ℕ → List ℕ
placed n ring k = take 1 ring ++ k ∷ drop n ring

-- the corners between two of these right sides
abbrev pub retired : ℕ → List ℕ → List ℕ
retired n ring = drop 1 (take n ring)

abbrev pub below_all : ℕ → List ℕ → Bool
below_all a [] = true
below_all a (b ∷ l) = nat_lt a b && below_all a l

-- the position of the lowest number
abbrev pub lowest_at : List ℕ → ℕ
lowest_at [] = 0
lowest_at (a ∷ l) = cond (below_all a l) 0 (1 + lowest_at l)

abbrev pub from_lowest : List ℕ → List ℕ
from_lowest ring = turned (lowest_at ring) ring
