-- The run of right sides that the words show is the run that there is.
use Rattle.std.proofs.Common.{◌≡◌, ℕ, suc, ◌+◌, ◌-◌, ◌<◌, Bool, true, false, List, [], ◌∷◌, ◌++◌, map, length, get_or, sym, refl, ap, ◌∙◌, append-nil, arith, length-append, get_or-append-add}
use mathlib.Core.List.{head-eq_of_cons-eq}
use lib.Seq.{take-append_seam, drop-append_seam}
use Rattle.std.specs.List.{AllByRecursion}
use Rattle.std.proofs.lemmas.List.{length-map, map-append}
use Rattle.std.proofs.ByRecursion.{All-map}
use Rattle.plane.specs.Rings.{steps, sides}
use Rattle.plane.proofs.Polygons.{Rotated}
use Rattle.plane.proofs.Ways.{steps_append}
use Rattle.judge.specs.declared.word.Word.{Word}
use Rattle.judge.specs.declared.word.Word.TheVariants.{Left, Right, Undecided}
use Rattle.rules.specs.Placing.{is_right, rights, run_from, run_start, turned}

-- ---- words that never turn to right, and end at left
-- after a word that says right or not, only right words and then left ones, and the last is left
data Falling : Bool → List Word → Type 0 where
  ended : Falling false []
  right : {w : Word} {ws : List Word} → w ≡ Right → Falling true ws → Falling true (w ∷ ws)
  left : {before : Bool} {w : Word} {ws : List Word} → w ≡ Left → Falling false ws → Falling before (w ∷ ws)

rights_fall : (rs ls : List Word) → AllByRecursion (λ w. w ≡ Right) rs → Falling true ls → Falling true (rs ++ ls)
rights_fall [] ls h f = f
rights_fall (w ∷ rs) ls h f = right h.0 (rights_fall rs ls h.1 f)

lefts_fall : (l : Word) (ls : List Word) (before : Bool) → AllByRecursion (λ w. w ≡ Left) (l ∷ ls) → Falling before (l ∷ ls)
lefts_fall l [] before h = left h.0 ended
lefts_fall l (w ∷ ls) before h = left h.0 (lefts_fall w ls false h.1)

-- whether the last word says right
abbrev last_right : Bool → List Word → Bool
last_right before [] = before
last_right before (w ∷ ws) = last_right (is_right w) ws

after_falls : (before : Bool) (us vs : List Word) → Falling before (us ++ vs) → Falling (last_right before us) vs
after_falls before [] vs f = f
after_falls before (u ∷ us) vs (right e f) = after_falls (is_right u) us vs (rw e f)
after_falls before (u ∷ us) vs (left e f) = after_falls (is_right u) us vs (rw e f)

run_after : (before : Bool) (i : ℕ) (vs us : List Word) → Falling before vs → run_from before i (vs ++ Right ∷ us) ≡ i + length vs
run_after before i [] us ended = omega arith
run_after before i (v ∷ vs) us (right e f) = rw e (run_after true (i + 1) vs us f ∙ omega arith)
run_after before i (v ∷ vs) us (left e f) = rw e (run_after false (i + 1) vs us f ∙ omega arith)

last_right_is : (u : Word) (us : List Word) → is_right (get_or (u ∷ us) (length us) Left) ≡ last_right (is_right u) us
last_right_is u [] = refl
last_right_is u (v ∷ us) = last_right_is v us

last_at : (vs : List Word) (u : Word) (us : List Word) → is_right (get_or (vs ++ u ∷ us) (length (vs ++ u ∷ us) - 1) Left) ≡ last_right (is_right u) us
last_at vs u us =
    let e : length (vs ++ u ∷ us) - 1 ≡ length vs + length us = simp length-append (omega arith) in
    rw (e, get_or-append-add vs (u ∷ us) (length us) Left) (last_right_is u us)

-- the run begins where the words begin that fall and wrap around
start_at : (u : Word) (us vs : List Word) → u ≡ Right → Falling true (u ∷ us ++ vs) → run_start (vs ++ u ∷ us) ≡ length vs
start_at u us vs e f = rw (last_at vs u us, e) (run_after (last_right true us) 0 vs us (rw e at (after_falls true (u ∷ us) vs f)) ∙ omega arith)

-- ---- how many words say right
rights_append : (us vs : List Word) → rights (us ++ vs) ≡ rights us + rights vs
rights_append [] vs = omega arith
rights_append (Left ∷ us) vs = rights_append us vs
rights_append (Right ∷ us) vs = ap suc (rights_append us vs) ∙ omega arith
rights_append (Undecided ∷ us) vs = rights_append us vs

rights_all : (rs : List Word) → AllByRecursion (λ w. w ≡ Right) rs → rights rs ≡ length rs
rights_all [] h = refl
rights_all (w ∷ rs) h = rw h.0 (ap suc (rights_all rs h.1))

rights_none : (ls : List Word) → AllByRecursion (λ w. w ≡ Left) ls → rights ls ≡ 0
rights_none [] h = refl
rights_none (w ∷ ls) h = rw h.0 (rights_none ls h.1)

-- words that say right and then left, read from elsewhere
words_turned : (us vs rs ls : List Word) → 0 < length us → 0 < length rs → 0 < length ls → AllByRecursion (λ w. w ≡ Right) rs → AllByRecursion (λ w. w ≡ Left) ls
    → us ++ vs ≡ rs ++ ls → (run_start (vs ++ us) ≡ length vs) × (rights (vs ++ us) ≡ length rs)
words_turned (u ∷ us) vs (r ∷ rs) (l ∷ ls) hu hr hl hrs hls e =
    let first : u ≡ Right = head-eq_of_cons-eq e ∙ hrs.0 in
    let falls : Falling true (u ∷ us ++ vs) = rw e (rights_fall (r ∷ rs) (l ∷ ls) hrs (lefts_fall l ls true hls)) in
    let count : rights (u ∷ us) + rights vs ≡ rights (r ∷ rs) + rights (l ∷ ls) = sym (rights_append (u ∷ us) vs) ∙ ap rights e ∙ rights_append (r ∷ rs) (l ∷ ls) in
    (start_at u us vs first falls, rights_append vs (u ∷ us) ∙ omega (arith, rights_all (r ∷ rs) hrs, rights_none (l ∷ ls) hls))
words_turned [] vs rs ls hu hr hl hrs hls e = absurd (omega arith)
words_turned (u ∷ us) vs [] ls hu hr hl hrs hls e = absurd (omega arith)
words_turned (u ∷ us) vs (r ∷ rs) [] hu hr hl hrs hls e = absurd (omega arith)

-- ---- the words on the sides of a ring
steps_length : (a : ℕ) (l : List ℕ) (z : ℕ) → length (steps a l z) ≡ suc (length l)
steps_length a [] z = refl
steps_length a (b ∷ l) z = ap suc (steps_length b l z)

turned_at : {X : Type 0} (xs ys : List X) (n : ℕ) → n ≡ length xs → turned n (xs ++ ys) ≡ ys ++ xs
turned_at xs ys n e = rw (e, take-append_seam, drop-append_seam)

module _ (W : ℕ × ℕ → Word) (a b : ℕ) (removed rest : List ℕ) (hr : AllByRecursion (λ s. W s ≡ Right) (steps a removed b)) (hl : AllByRecursion (λ s. W s ≡ Left) (steps b rest a)) where
  sides_turned : (us vs : List (ℕ × ℕ)) → 0 < length us → us ++ vs ≡ sides (a ∷ (removed ++ b ∷ rest))
      → (run_start (map W (vs ++ us)) ≡ length vs) × (rights (map W (vs ++ us)) ≡ suc (length removed))
  sides_turned us vs hu e =
      let run = steps a removed b in
      let others = steps b rest a in
      let words : map W us ++ map W vs ≡ map W run ++ map W others = sym (map-append W us vs) ∙ ap (map W) (e ∙ steps_append a removed b rest a) ∙ map-append W run others in
      let some : 0 < length (map W run) = simp (length-map, steps_length) (omega arith) in
      let more : 0 < length (map W others) = simp (length-map, steps_length) (omega arith) in
      let t = words_turned (map W us) (map W vs) (map W run) (map W others) (simp length-map hu) some more (All-map (λ w. w ≡ Right) W run hr) (All-map (λ w. w ≡ Left) W others hl) words in
      simp map-append (t.0 ∙ length-map vs W, t.1 ∙ length-map run W ∙ steps_length a removed b)

  found_at : (front : List ℕ) (y : ℕ) (back : List ℕ) → a ∷ (removed ++ b ∷ rest) ≡ y ∷ back ++ front → let ring = front ++ y ∷ back in
      (turned (run_start (map W (sides ring))) ring ≡ a ∷ (removed ++ b ∷ rest)) × (rights (map W (sides ring)) ≡ suc (length removed))
  found_at [] y back e =
      let t = sides_turned (steps y back y) [] (simp steps_length (omega arith)) (append-nil (steps y back y) ∙ ap sides (rw append-nil at (sym e))) in
      (turned_at [] (y ∷ back) (run_start (map W (steps y back y))) t.0 ∙ sym e, t.1)
  found_at (x ∷ front) y back e =
      let t = sides_turned (steps y back x) (steps x front y) (simp steps_length (omega arith)) (sym (steps_append y back x front y) ∙ ap sides (sym e)) in
      let at_front = turned_at (x ∷ front) (y ∷ back) (run_start (map W (steps x front y ++ steps y back x))) (t.0 ∙ steps_length x front y) in
      rw (steps_append x front y back x) (at_front ∙ sym e, t.1)

  found_in : (ring front back : List ℕ) → ring ≡ front ++ back → a ∷ (removed ++ b ∷ rest) ≡ back ++ front
      → (turned (run_start (map W (sides ring))) ring ≡ a ∷ (removed ++ b ∷ rest)) × (rights (map W (sides ring)) ≡ suc (length removed))
  found_in ring front [] was is = rw (was ∙ append-nil front ∙ sym is) (found_at [] a (removed ++ b ∷ rest) (sym (append-nil (a ∷ (removed ++ b ∷ rest)))))
  found_in ring front (y ∷ back) was is = rw was (found_at front y back is)

pub found_run : (W : ℕ × ℕ → Word) (ring : List ℕ) (a b : ℕ) (removed rest : List ℕ) → Rotated ring (a ∷ (removed ++ b ∷ rest))
    → AllByRecursion (λ s. W s ≡ Right) (steps a removed b) → AllByRecursion (λ s. W s ≡ Left) (steps b rest a)
    → (turned (run_start (map W (sides ring))) ring ≡ a ∷ (removed ++ b ∷ rest)) × (rights (map W (sides ring)) ≡ suc (length removed))
found_run W ring a b removed rest r hr hl = found_in W a b removed rest hr hl ring r.front r.back r.was r.is
