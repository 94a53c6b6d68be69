-- A walk round the ring, side by side, while no word is undecided.
use Rattle.std.proofs.Common.{◌≡◌, ℕ, suc, ◌+◌, ◌-◌, ◌<◌, ◌≤◌, Bool, true, false, cond, not, ◌&&◌, ◌||◌, eqb, List, [], ◌∷◌, length, get_or, drop, Some, None, refl, sym, ap, ◌∙◌, zero-add, arith}
use mir.Val.{bool_byte}
use Rattle.std.proofs.lemmas.List.{drop_more, drop_all, get_or_default}
use Rattle.std.proofs.lemmas.Bool.{eq-eqb, ne_eqb, eqb-true, eqb-false}
use Rattle.judge.specs.declared.word.Word.{Word}
use Rattle.judge.specs.declared.word.Word.TheVariants.{Left, Right, Undecided}
use Rattle.rules.specs.Asking.{some_undecided}
use Rattle.rules.specs.Placing.{is_right, rights, run_from, run_start}
use Rattle.envelope.specs.Runs.{run_of}

-- after i sides: n of them say right, the first run that does not begin with the first side begins at s, or none did and s is i, and what the first side and the one before say
pub record Walked (ws : List Word) (i n s : ℕ) (first before : Bool) : Type 0 where
  pub decided : some_undecided (drop i ws) ≡ some_undecided ws
  pub counted : n + rights (drop i ws) ≡ rights ws
  pub begins : cond (eqb s i) (run_from before i (drop i ws)) s ≡ run_from true 0 ws
  pub within : s ≤ i
  pub fewer : n ≤ i
  pub first_is : 0 < i → first ≡ is_right (get_or ws 0 Left)
  pub before_is : (j : ℕ) → i ≡ suc j → before ≡ is_right (get_or ws j Left)

pub walk_begins : (ws : List Word) → Walked ws 0 0 0 false true
walk_begins ws = record {
  decided = refl;
  counted = zero-add (rights ws);
  begins = refl;
  within = omega arith;
  fewer = omega arith;
  first_is = λ h. absurd (omega arith);
  before_is = λ j h. absurd (omega arith);
}

-- the word that is not undecided
abbrev pub decided_as : Bool → Word
decided_as right = cond right Right Left

run_step : (right before : Bool) (i s t : ℕ) (r : List Word) (z : ℕ) → s ≤ i
    → cond (eqb s i) (run_from before i (decided_as right ∷ r)) s ≡ z
    → t ≡ cond (eqb s i) (s + cond (before || not right) 1 0) s
    → cond (eqb t (i + 1)) (run_from right (i + 1) r) t ≡ z
run_step right before i s t r z h e u = by (eqb s i) refl right before e u
  where
    by : (q : Bool) → eqb s i ≡ q → (right before : Bool) → cond q (run_from before i (decided_as right ∷ r)) s ≡ z → t ≡ cond q (s + cond (before || not right) 1 0) s
        → cond (eqb t (i + 1)) (run_from right (i + 1) r) t ≡ z
    by false q right before e u = rw (u, ne_eqb s (i + 1) (λ k. omega arith)) e
    by true q true true e u = rw (eq-eqb t (i + 1) (let k = eqb-true s i q in omega arith)) e
    by true q true false e u = let k = eqb-true s i q in let v : t ≡ i = omega arith in rw (v, ne_eqb i (i + 1) (λ k. omega arith)) e
    by true q false true e u = rw (eq-eqb t (i + 1) (let k = eqb-true s i q in omega arith)) e
    by true q false false e u = rw (eq-eqb t (i + 1) (let k = eqb-true s i q in omega arith)) e

decided_on : (b : Bool) (r : List Word) → some_undecided (decided_as b ∷ r) ≡ some_undecided r
decided_on true r = refl
decided_on false r = refl

counted_on : (b : Bool) (r : List Word) → rights (decided_as b ∷ r) ≡ rights r + cond b 1 0
counted_on true r = omega arith
counted_on false r = omega arith

right_as : (b : Bool) → is_right (decided_as b) ≡ b
right_as true = refl
right_as false = refl

one_at_most : (q b : Bool) (s : ℕ) → cond q (s + cond b 1 0) s ≤ s + 1
one_at_most true true s = omega arith
one_at_most true false s = omega arith
one_at_most false b s = omega arith

-- one side more
pub walk_more : (ws : List Word) (i n s : ℕ) (first before : Bool) → i < length ws → (right : Bool) → decided_as right ≡ get_or ws i Undecided
    → (m t : ℕ) (f : Bool) → m ≡ n + cond right 1 0 → t ≡ cond (eqb s i) (s + cond (before || not right) 1 0) s → f ≡ cond (eqb i 0) right first
    → Walked ws i n s first before → Walked ws (i + 1) m t f right
walk_more ws i n s first before h right w m t f em et ef k = record {
  decided = sym (ap some_undecided here ∙ decided_on right (drop (i + 1) ws)) ∙ k.decided;
  counted = let c = ap rights here ∙ counted_on right (drop (i + 1) ws) in let e = k.counted in omega arith;
  begins = run_step right before i s t (drop (i + 1) ws) _ k.within (ap (λ r. cond (eqb s i) (run_from before i r) s) (sym here) ∙ k.begins) et;
  within = let b = one_at_most (eqb s i) (before || not right) s in let e = k.within in omega arith;
  fewer = let b = one_at_most true right n in let e = k.fewer in omega arith;
  first_is = λ l. first_side (eqb i 0) refl;
  before_is = λ j e. says j (omega arith);
}
  where
    here : drop i ws ≡ decided_as right ∷ drop (i + 1) ws
    here = drop_more ws i Undecided h ∙ ap (λ v. v ∷ drop (i + 1) ws) (sym w)

    says : (j : ℕ) → i ≡ j → right ≡ is_right (get_or ws j Left)
    says j e = rw (← e) (sym (right_as right) ∙ ap is_right (w ∙ get_or_default ws i Undecided Left h))

    first_side : (q : Bool) → eqb i 0 ≡ q → f ≡ is_right (get_or ws 0 Left)
    first_side true e = ef ∙ ap (λ q. cond q right first) e ∙ says 0 (eqb-true i 0 e)
    first_side false e = ef ∙ ap (λ q. cond q right first) e ∙ k.first_is (let z = eqb-false i 0 e in omega arith)

run_starts : (ws : List Word) (first before : Bool) → (0 < length ws → first ≡ is_right (get_or ws 0 Left)) → (0 < length ws → before ≡ is_right (get_or ws (length ws - 1) Left))
    → run_start ws ≡ cond (first && not before) 0 (run_from true 0 ws)
run_starts [] first before f b = either (first && not before)
  where
    either : (q : Bool) → ◌≡◌ {A = ℕ} 0 (cond q 0 0)
    either true = refl
    either false = refl
run_starts (w ∷ ws) first before f b =
    let l = f (omega arith) in
    let r = b (omega arith) in
    rw (l, r) (apart (is_right w) (is_right (get_or (w ∷ ws) (length (w ∷ ws) - 1) Left)) (run_from (is_right w) 1 ws))
  where
    apart : (r c : Bool) (x : ℕ) → cond (r && not c) 0 x ≡ cond (r && not c) 0 (cond (r && false) 0 x)
    apart true true x = refl
    apart true false x = refl
    apart false c x = refl

-- all sides are passed
walk_ends : (ws : List Word) (i n s : ℕ) (first before : Bool) → i ≡ length ws → Walked ws i n s first before
    → (some_undecided ws ≡ false) × (rights ws ≡ n) × (run_start ws ≡ cond (first && not before) 0 s)
walk_ends ws i n s first before e k = (
  sym k.decided ∙ ap some_undecided none,
  (let c = ap rights none in let d = k.counted in omega arith),
  run_starts ws first before (λ h. k.first_is (omega arith)) (λ h. k.before_is (length ws - 1) (omega arith)) ∙ ap (cond (first && not before) 0) (sym k.begins ∙ start (eqb s i) refl),
)
  where
    none : drop i ws ≡ []
    none = drop_all i ws (omega arith)

    start : (q : Bool) → eqb s i ≡ q → cond (eqb s i) (run_from before i (drop i ws)) s ≡ s
    start true q = rw (q, none) (sym (eqb-true s i q))
    start false q = rw q refl

-- the walk stops at a side that is undecided
pub walk_stops : (ws : List Word) (i n s : ℕ) (first before : Bool) → i < length ws → Undecided ≡ get_or ws i Undecided → Walked ws i n s first before → None ≡ run_of ws
walk_stops ws i n s first before h u k = rw (sym k.decided ∙ ap some_undecided (drop_more ws i Undecided h ∙ ap (λ v. v ∷ drop (i + 1) ws) (sym u))) refl

pub walk_finds : (ws : List Word) (i n s : ℕ) (first before : Bool) → i ≡ length ws → Walked ws i n s first before
    → (t : ℕ) → t ≡ cond (first && not before) 0 s → Some record { start = t; rights = n } ≡ run_of ws
walk_finds ws i n s first before e k t is = let f = walk_ends ws i n s first before e k in rw (f.0, f.1, f.2, is) refl

pub byte_is : (b : Bool) → bool_byte b ≡ cond b 1 0
byte_is true = refl
byte_is false = refl
