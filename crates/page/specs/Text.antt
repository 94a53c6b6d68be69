-- The text of a page.
use Rattle.std.specs.Prelude.{ℕ, suc, List, [], ◌∷◌, ◌++◌, length, codes, decimal}
use Rattle.std.specs.List.{flat_map}
use Rattle.rules.specs.declared.standing.Standing.{Standing}
use Rattle.rules.specs.declared.standing.Standing.TheVariants.{Corner, Inside, Held}

-- C, I or H
abbrev pub letter : Standing → ℕ
letter Corner = 67
letter Inside = 73
letter Held = 72

-- the reading's number, a space and the letter
unfoldable pub standing_line : ℕ → Standing → List ℕ
standing_line i s = decimal i ++ (32 ∷ letter s ∷ 10 ∷ [])

-- a line for each reading, numbered from i on
unfoldable pub standing_lines : ℕ → List Standing → List ℕ
standing_lines i [] = []
standing_lines i (s ∷ ss) = standing_line i s ++ standing_lines (suc i) ss

-- a space before each number
abbrev pub ring_numbers : List ℕ → List ℕ
ring_numbers = flat_map (λ n. 32 ∷ decimal n)

unfoldable pub ring_line : List ℕ → List ℕ
ring_line ns = codes "RING" ++ (ring_numbers ns ++ (10 ∷ []))

-- the title and the count of readings, a line for each reading, and the ring
unfoldable pub page_text : List ℕ → List Standing → List ℕ → List ℕ
page_text title ss ring = title ++ (32 ∷ (decimal (length ss) ++ (10 ∷ (standing_lines 0 ss ++ ring_line ring))))
