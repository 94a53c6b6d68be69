-- A pass, reading by reading, and passes, one by one.
use Rattle.std.proofs.Common.{◌≡◌, ℕ, zero, suc, ◌+◌, ◌<◌, ◌≤◌, ◌≢◌, Bool, true, false, cond, eqb, List, [], ◌∷◌, length, get_or, drop, refl, sym, ap, ◌∙◌, arith, length-drop}
use Rattle.std.proofs.lemmas.List.{drop-drop, get_or-drop, drop_all}
use Rattle.std.proofs.lemmas.Bool.{eq-eqb, ne_eqb}
use Rattle.judge.specs.declared.word.Word.{Word}
use Rattle.rules.specs.Envelopes.{Envelope}
use Rattle.rules.specs.Trying.{tried, pass, held_count, passes}
use Rattle.rules.proofs.Waiting.{pass_count}

-- a reading, where there is one
pub one_of : {R : Type 0} (rs : List R) (k : ℕ) → k < length rs → R
one_of [] k h = absurd (omega arith)
one_of (x ∷ rs) k h = x

module _ {R : Type 0} (word : R → R → R → Word) where
  -- reading k is tried
  pub pass_step : (rs : List R) (k : ℕ) (e f z : Envelope R) → k < length rs → e.readings ≡ rs → ((x : R) → f ≡ tried word e k (get_or e.readings k x))
      → pass word (drop k rs) k e ≡ z → pass word (drop (k + 1) rs) (k + 1) f ≡ z
  pass_step rs k e f z h same step = by (drop k rs) refl
    where
      by : (xs : List R) → drop k rs ≡ xs → pass word xs k e ≡ z → pass word (drop (k + 1) rs) (k + 1) f ≡ z
      by [] q p = let l = ap length q in let m = length-drop k rs in absurd (omega arith)
      by (x ∷ xs) q p =
          let here : (y : R) → get_or rs k y ≡ x = λ y. ap (λ n. get_or rs n y) (omega arith) ∙ sym (get_or-drop k rs 0 y) ∙ ap (λ ys. get_or ys 0 y) q in
          let after : drop (k + 1) rs ≡ xs = sym (drop-drop 1 k rs) ∙ ap (drop 1) q in
          let now : f ≡ tried word e k x = step x ∙ ap (λ rs. tried word e k (get_or rs k x)) same ∙ ap (tried word e k) (here x) in
          rw (after, now) p

  pub pass_end : (rs : List R) (k : ℕ) (e : Envelope R) → length rs ≤ k → pass word (drop k rs) k e ≡ e
  pass_end rs k e h = rw (drop_all k rs h) refl

-- ---- one pass more
module _ {R : Type 0} (word : R → R → R → Word) (n : ℕ) (e f z : Envelope R) (p : f ≡ pass word e.readings 0 e) (all : passes word (suc n) e ≡ z) where
  either : (b : Bool) → eqb (held_count f.standings) (held_count e.standings) ≡ b → cond b f (passes word n f) ≡ z
  either b q = rw (← q, p) all

  again : held_count f.standings ≢ held_count e.standings → passes word n f ≡ z
  again more = either false (ne_eqb _ _ more)

  last : held_count f.standings ≡ held_count e.standings → f ≡ z
  last same = either true (eq-eqb _ _ same)

-- the passes from s on have come to e, where so many are held, and so many passes may follow
pub record Passing {R : Type 0} (word : R → R → R → Word) (s e : Envelope R) (held : ℕ) : Type 0 where
  pub counted : held ≡ held_count e.standings
  pub left : ℕ
  pub enough : held < left
  pub rest : passes word left e ≡ passes word (suc (held_count s.standings)) s

module _ {R : Type 0} (word : R → R → R → Word) (s : Envelope R) where
  pub passing_first : (held : ℕ) → held ≡ held_count s.standings → Passing word s s held
  passing_first held c = record { counted = c; left = suc (held_count s.standings); enough = omega arith; rest = refl }

  module _ (e f : Envelope R) (held next : ℕ) (p : f ≡ pass word e.readings 0 e) (c : next ≡ held_count f.standings) (passing : Passing word s e held) where
    pub passing_less : next ≢ held → next < held
    passing_less ne = let h = pass_count word e.readings 0 e in let k = ap (λ g. held_count g.standings) p in let d = passing.counted in omega arith

    pub passing_more : next ≢ held → Passing word s f next
    passing_more ne = by passing.left passing.enough passing.rest
      where
        by : (n : ℕ) → held < n → passes word n e ≡ passes word (suc (held_count s.standings)) s → Passing word s f next
        by zero h q = absurd (omega arith)
        by (suc n) h q =
            let less = passing_less ne in
            record { counted = c; left = n; enough = omega arith; rest = again word n e f _ p q (λ g. ne (c ∙ g ∙ sym passing.counted)) }

    pub passing_last : next ≡ held → f ≡ passes word (suc (held_count s.standings)) s
    passing_last same = by passing.left passing.enough passing.rest
      where
        by : (n : ℕ) → held < n → passes word n e ≡ passes word (suc (held_count s.standings)) s → f ≡ passes word (suc (held_count s.standings)) s
        by zero h q = absurd (omega arith)
        by (suc n) h q = last word n e f _ p q (sym c ∙ same ∙ passing.counted)
