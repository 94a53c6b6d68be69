-- The count of the held as a count of a filter.
use Rattle.std.proofs.Common.{◌≡◌, suc, Bool, true, false, cond, List, [], ◌∷◌, length, filter, refl, sym, ap, ◌∙◌}
use Rattle.std.proofs.lemmas.List.Sums.{length-filter}
use Rattle.std.specs.List.{count_by}
use Rattle.rules.specs.declared.standing.Standing.{Standing}
use Rattle.rules.specs.Trying.{is_held, held_count}

kept : {A : Type 0} (b : Bool) (x : A) (xs : List A) → length (cond b (x ∷ xs) xs) ≡ cond b (suc (length xs)) (length xs)
kept true x xs = refl
kept false x xs = refl

held_length : (st : List Standing) → held_count st ≡ length (filter is_held st)
held_length [] = refl
held_length (s ∷ st) = ap (λ n. cond (is_held s) (suc n) n) (held_length st) ∙ sym (kept (is_held s) s (filter is_held st))

pub held_count_is : (st : List Standing) → held_count st ≡ count_by is_held st
held_count_is st = held_length st ∙ length-filter is_held st
