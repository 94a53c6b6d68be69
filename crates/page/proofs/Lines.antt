-- The lines of a page, one after another.
use Rattle.std.proofs.Common.{◌≡◌, ℕ, suc, ◌+◌, ◌<◌, ◌≤◌, List, [], ◌∷◌, ◌++◌, length, get_or, take, decimal, codes, append_assoc, arith}
use Rattle.std.proofs.lemmas.List.{append-nil, length-take-le, take_more, take_all, flat_map_more}
use Rattle.rules.specs.declared.standing.Standing.{Standing}
use Rattle.page.specs.Text.{letter, standing_line, standing_lines, ring_numbers, ring_line, page_text}

lines_push : (k : ℕ) (xs : List Standing) (x : Standing) → standing_lines k (xs ++ x ∷ []) ≡ standing_lines k xs ++ standing_line (k + length xs) x
unfolding standing_lines
lines_push k [] x = grind (arith, append-nil)
lines_push k (y ∷ xs) x = grind (arith, append_assoc, lines_push (suc k) xs x)

pub lines_none : standing_lines 0 [] ≡ []
unfolding standing_lines
lines_none = grind arith

pub lines_more : (xs : List Standing) (i : ℕ) (d : Standing) → i < length xs → (standing_lines 0 (take i xs) ++ decimal i) ++ (32 ∷ letter (get_or xs i d) ∷ 10 ∷ []) ≡ standing_lines 0 (take (i + 1) xs)
unfolding standing_line
lines_more xs i d h =
    grind (arith, append_assoc, take_more xs i d h, lines_push 0 (take i xs) (get_or xs i d), length-take-le i xs (omega arith))

pub ring_more : (xs : List ℕ) (i : ℕ) (d : ℕ) → i < length xs → ((codes "RING" ++ ring_numbers (take i xs)) ++ (32 ∷ [])) ++ decimal (get_or xs i d) ≡ codes "RING" ++ ring_numbers (take (i + 1) xs)
ring_more xs i d h =
    grind (arith, append_assoc, take_more xs i d h, flat_map_more (λ n. 32 ∷ decimal n) [] (take i xs) (get_or xs i d))

pub ring_all : (ns : List ℕ) (i : ℕ) → length ns ≤ i → (codes "RING" ++ ring_numbers (take i ns)) ++ (10 ∷ []) ≡ ring_line ns
unfolding ring_line
ring_all ns i h = grind (arith, append_assoc, take_all i ns h)

pub page_all : (title : List ℕ) (ss : List Standing) (ring : List ℕ) → ((((title ++ (32 ∷ [])) ++ decimal (length ss)) ++ (10 ∷ [])) ++ standing_lines 0 ss) ++ ring_line ring ≡ page_text title ss ring
unfolding page_text
page_all title ss ring = grind (arith, append_assoc)
