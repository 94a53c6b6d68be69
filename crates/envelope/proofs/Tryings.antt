-- What a walk round the ring makes of a held reading is what trying it makes.
use Rattle.std.proofs.Common.{◌≡◌, ℕ, ◌+◌, ◌-◌, ◌<◌, ◌≤◌, Bool, true, false, cond, not, ◌&&◌, List, [], ◌∷◌, length, get_or, set, Some, None, Option, refl, sym, ap, ◌∙◌, arith}
use Rattle.std.proofs.lemmas.List.{get_or_read}
use Rattle.std.proofs.lemmas.Bool.{cond_both}
use Rattle.judge.specs.declared.word.Word.{Word}
use Rattle.judge.specs.declared.word.Word.TheVariants.{Left, Right, Undecided}
use Rattle.rules.specs.declared.standing.Standing.{Standing}
use Rattle.rules.specs.declared.standing.Standing.TheVariants.{Corner, Inside, Held}
use Rattle.rules.specs.Envelopes.{Envelope}
use Rattle.rules.specs.Asking.{asked, all_left, some_undecided}
use Rattle.rules.specs.Placing.{is_right, rights, run_from, run_start}
use Rattle.rules.specs.Trying.{verdict, judged, tried}
use Rattle.envelope.specs.declared.run.Run.{Run}
use Rattle.envelope.specs.Runs.{run_of}
use Rattle.envelope.specs.Corners.{with_corner}

-- ---- words
not_left : (ws : List Word) → some_undecided ws ≡ true → all_left ws ≡ false
not_left [] h = sym h
not_left (Left ∷ ws) h = not_left ws h
not_left (Right ∷ ws) h = refl
not_left (Undecided ∷ ws) h = refl

no_rights : (ws : List Word) → some_undecided ws ≡ false → rights ws ≡ 0 → all_left ws ≡ true
no_rights [] h r = refl
no_rights (Left ∷ ws) h r = no_rights ws h r
no_rights (Right ∷ ws) h r = absurd (omega arith)
no_rights (Undecided ∷ ws) h r = sym h

some_rights : (ws : List Word) → 0 < rights ws → all_left ws ≡ false
some_rights [] h = absurd (omega arith)
some_rights (Left ∷ ws) h = some_rights ws h
some_rights (Right ∷ ws) h = refl
some_rights (Undecided ∷ ws) h = refl

rights_within : (ws : List Word) → rights ws ≤ length ws
rights_within [] = omega arith
rights_within (Left ∷ ws) = let h = rights_within ws in omega arith
rights_within (Right ∷ ws) = let h = rights_within ws in omega arith
rights_within (Undecided ∷ ws) = let h = rights_within ws in omega arith

run_within : (before : Bool) (i : ℕ) (ws : List Word) → run_from before i ws ≤ i + length ws
run_within before i [] = omega arith
run_within before i (w ∷ ws) = let h = run_within (is_right w) (i + 1) ws in cond_both (is_right w && not before) i (run_from (is_right w) (i + 1) ws) (λ n. n ≤ i + length (w ∷ ws)) (λ t. omega arith) (λ t. omega arith)

-- ---- what is found
found_as : (ws : List Word) (r : Run) → Some r ≡ run_of ws → (some_undecided ws ≡ false) × (r ≡ record { start = run_start ws; rights = rights ws })
found_as ws r e = by (some_undecided ws) e
  where
    by : (u : Bool) → Some r ≡ cond u None (Some record { start = run_start ws; rights = rights ws }) → (u ≡ false) × (r ≡ record { start = run_start ws; rights = rights ws })
    by true e = let z : ◌≡◌ {A = ℕ} 0 1 = cc in absurd (omega arith)
    by false e = (refl, (cc))

pub found_within : (ws : List Word) (r : Run) → Some r ≡ run_of ws → (r.start ≤ length ws) × (r.rights ≤ length ws)
found_within ws r e =
    let f = found_as ws r e in
    let n = run_within (is_right (get_or ws (length ws - 1) Left)) 0 ws in
    rw f.1 (omega arith, rights_within ws)

none_as : (ws : List Word) → ◌≡◌ {A = Option Run} None (run_of ws) → some_undecided ws ≡ true
none_as ws e = by (some_undecided ws) e
  where
    by : (u : Bool) → ◌≡◌ {A = Option Run} None (cond u None (Some record { start = run_start ws; rights = rights ws })) → u ≡ true
    by true e = refl
    by false e = let z : ◌≡◌ {A = ℕ} 0 1 = cc in absurd (omega arith)

-- reading k was read as y, and stands as s, which is held
pub record Taken {R : Type 0} (e : Envelope R) (k : ℕ) (s : Standing) (y : R) : Type 0 where
  pub within : k < length e.readings
  pub level : length e.standings ≡ length e.readings
  pub stands : s ≡ get_or e.standings k s
  pub held : s ≡ Held
  pub reads : y ≡ get_or e.readings k y

pub taken_held : {R : Type 0} (e : Envelope R) (k : ℕ) (s : Standing) (y : R) → Taken e k s y → get_or e.standings k Corner ≡ Held
taken_held e k s y t = sym (get_or_read e.standings k s (let w = t.within in let l = t.level in omega arith) t.stands Corner) ∙ t.held

module _ {R : Type 0} (word : R → R → R → Word) (e : Envelope R) (k : ℕ) (s : Standing) (y : R) (t : Taken e k s y) (x : R) where
  tried_as : (v : Standing) → verdict (asked word e y) ≡ v → judged v e k (asked word e y) ≡ tried word e k (get_or e.readings k x)
  tried_as v h = rw (← get_or_read e.readings k y t.within t.reads x, taken_held e k s y t, ← h) refl

  pub stays_held : None ≡ run_of (asked word e y) → e ≡ tried word e k (get_or e.readings k x)
  stays_held n = let u = none_as (asked word e y) n in tried_as Held (rw (not_left (asked word e y) u, u) refl)

  module _ (r : Run) (found : Some r ≡ run_of (asked word e y)) where
    pub goes_inside : r.rights ≡ 0 → record { readings = e.readings; standings = set e.standings k Inside; ring = e.ring } ≡ tried word e k (get_or e.readings k x)
    goes_inside n = let f = found_as (asked word e y) r found in tried_as Inside (rw (no_rights (asked word e y) f.0 (sym (ap (λ q. q.rights) f.1) ∙ n)) refl)

    pub becomes_corner : 0 < r.rights → with_corner e k r ≡ tried word e k (get_or e.readings k x)
    becomes_corner n = let f = found_as (asked word e y) r found in let more : 0 < rights (asked word e y) = rw f.1 at n in ap (with_corner e k) f.1 ∙ tried_as Corner (rw (some_rights (asked word e y) more, f.0) refl)
