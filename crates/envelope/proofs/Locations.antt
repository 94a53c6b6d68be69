-- Where a reading lies, as the words come one by one.
use Rattle.std.proofs.Common.{◌≡◌, ℕ, ◌+◌, ◌<◌, ◌≤◌, cond, List, [], ◌∷◌, length, get_or, drop, refl, sym, ap, ◌∙◌, arith}
use Rattle.std.proofs.lemmas.List.{at_drop_more, at_drop_all}
use Rattle.judge.specs.declared.word.Word.{Word}
use Rattle.judge.specs.declared.word.Word.TheVariants.{Left, Right, Undecided}
use Rattle.rules.specs.declared.location.Location.{Location}
use Rattle.rules.specs.declared.location.Location.TheVariants as location
use Rattle.rules.specs.Asking.{some_right, all_left, location_of}

-- over the words to come
abbrev pub location_from : Location → List Word → Location
location_from so [] = so
location_from so (Left ∷ ws) = location_from so ws
location_from so (Right ∷ ws) = location.Outside
location_from so (Undecided ∷ ws) = location_from location.Undecided ws

after_undecided : (ws : List Word) → location_from location.Undecided ws ≡ cond (some_right ws) location.Outside location.Undecided
after_undecided [] = refl
after_undecided (Left ∷ ws) = after_undecided ws
after_undecided (Right ∷ ws) = refl
after_undecided (Undecided ∷ ws) = after_undecided ws

after_left : (ws : List Word) → location_from location.Inside ws ≡ cond (some_right ws) location.Outside (cond (all_left ws) location.Inside location.Undecided)
after_left [] = refl
after_left (Left ∷ ws) = after_left ws
after_left (Right ∷ ws) = refl
after_left (Undecided ∷ ws) = after_undecided ws

pub location_first : (so : Location) (ws : List Word) → (length ws ≡ 0 → so ≡ location.Undecided) → (0 < length ws → so ≡ location.Inside) → location_from so ws ≡ location_of ws
location_first so [] none some = none refl
location_first so (w ∷ ws) none some = ap (λ s. location_from s (w ∷ ws)) (some (omega arith)) ∙ after_left (w ∷ ws)

module _ (so : Location) (ws : List Word) (i : ℕ) where
  pub location_more : (w : Word) → i < length ws → w ≡ get_or ws i Undecided → location_from so (w ∷ drop (i + 1) ws) ≡ location_from so (drop i ws)
  location_more w h e = ap (λ v. location_from so (v ∷ drop (i + 1) ws)) e ∙ sym (at_drop_more (location_from so) ws i Undecided h)

  pub location_last : length ws ≤ i → location_from so (drop i ws) ≡ so
  location_last h = at_drop_all (location_from so) ws i h
