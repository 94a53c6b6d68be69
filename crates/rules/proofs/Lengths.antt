-- Settling keeps the readings, and the number of standings.
use Rattle.std.proofs.Common.{◌≡◌, ℕ, zero, suc, ◌+◌, eqb, List, [], ◌∷◌, length, get_or, set, Some, None, Option, refl, ◌∙◌, length-set}
use Rattle.std.proofs.lemmas.Bool.{cond_both}
use Rattle.judge.specs.declared.word.Word.{Word}
use Rattle.rules.specs.declared.standing.Standing.{Standing}
use Rattle.rules.specs.declared.standing.Standing.TheVariants.{Corner, Inside, Held}
use Rattle.rules.specs.Envelopes.{Envelope}
use Rattle.rules.specs.Asking.{asked}
use Rattle.rules.specs.Placing.{rights, run_start, turned, retired}
use Rattle.rules.specs.Trying.{verdict, judged, is_held, tried, pass, held_count, passes}
use Rattle.rules.specs.Starting.{first_from, started}
use Rattle.rules.specs.Settling.{begun, continued, settled}
use Rattle.rules.proofs.Placements.{all_inside_length}

module _ {R : Type 0} where
  pub judged_readings : (s : Standing) (e : Envelope R) (k : ℕ) (ws : List Word) → (judged s e k ws).readings ≡ e.readings
  judged_readings Inside e k ws = refl
  judged_readings Held e k ws = refl
  judged_readings Corner e k ws = refl

  pub judged_length : (s : Standing) (e : Envelope R) (k : ℕ) (ws : List Word) → length (judged s e k ws).standings ≡ length e.standings
  judged_length Inside e k ws = length-set e.standings k Inside
  judged_length Held e k ws = refl
  judged_length Corner e k ws = all_inside_length (retired (rights ws) (turned (run_start ws) e.ring)) (set e.standings k Corner) ∙ length-set e.standings k Corner

  pub started_readings : (e : Envelope R) (o : Option (ℕ × ℕ × ℕ)) → (started e o).readings ≡ e.readings
  started_readings e None = refl
  started_readings e (Some t) = refl

  pub started_length : (e : Envelope R) (o : Option (ℕ × ℕ × ℕ)) → length (started e o).standings ≡ length e.standings
  started_length e None = refl
  started_length e (Some t) = simp length-set

module _ {R : Type 0} (word : R → R → R → Word) where
  pub tried_readings : (e : Envelope R) (k : ℕ) (x : R) → (tried word e k x).readings ≡ e.readings
  tried_readings e k x =
      cond_both (is_held (get_or e.standings k Corner)) (judged (verdict (asked word e x)) e k (asked word e x)) e (λ (f : Envelope R). f.readings ≡ e.readings)
      (λ t. judged_readings (verdict (asked word e x)) e k (asked word e x)) (λ t. refl)

  pub tried_length : (e : Envelope R) (k : ℕ) (x : R) → length (tried word e k x).standings ≡ length e.standings
  tried_length e k x =
      cond_both (is_held (get_or e.standings k Corner)) (judged (verdict (asked word e x)) e k (asked word e x)) e (λ (f : Envelope R). length f.standings ≡ length e.standings)
      (λ t. judged_length (verdict (asked word e x)) e k (asked word e x)) (λ t. refl)

  pub pass_readings : (xs : List R) (k : ℕ) (e : Envelope R) → (pass word xs k e).readings ≡ e.readings
  pass_readings [] k e = refl
  pass_readings (x ∷ xs) k e = pass_readings xs (k + 1) (tried word e k x) ∙ tried_readings e k x

  pub pass_length : (xs : List R) (k : ℕ) (e : Envelope R) → length (pass word xs k e).standings ≡ length e.standings
  pass_length [] k e = refl
  pass_length (x ∷ xs) k e = pass_length xs (k + 1) (tried word e k x) ∙ tried_length e k x

  pub passes_readings : (n : ℕ) (e : Envelope R) → (passes word n e).readings ≡ e.readings
  passes_readings zero e = refl
  passes_readings (suc n) e =
      let f = pass word e.readings 0 e in
      let p = pass_readings e.readings 0 e in
      cond_both (eqb (held_count f.standings) (held_count e.standings)) f (passes word n f) (λ (g : Envelope R). g.readings ≡ e.readings) (λ t. p) (λ t. passes_readings n f ∙ p)

  pub passes_length : (n : ℕ) (e : Envelope R) → length (passes word n e).standings ≡ length e.standings
  passes_length zero e = refl
  passes_length (suc n) e =
      let f = pass word e.readings 0 e in
      let p = pass_length e.readings 0 e in
      cond_both (eqb (held_count f.standings) (held_count e.standings)) f (passes word n f) (λ (g : Envelope R). length g.standings ≡ length e.standings) (λ t. p) (λ t. passes_length n f ∙ p)

  pub begun_readings : (e : Envelope R) (ring : List ℕ) → (begun word e ring).readings ≡ e.readings
  begun_readings e [] = started_readings e (first_from word 0 e.readings)
  begun_readings e (a ∷ l) = refl

  pub begun_length : (e : Envelope R) (ring : List ℕ) → length (begun word e ring).standings ≡ length e.standings
  begun_length e [] = started_length e (first_from word 0 e.readings)
  begun_length e (a ∷ l) = refl

  pub continued_readings : (e : Envelope R) (ring : List ℕ) → (continued word e ring).readings ≡ e.readings
  continued_readings e [] = refl
  continued_readings e (a ∷ l) = passes_readings (suc (held_count e.standings)) e

  pub continued_length : (e : Envelope R) (ring : List ℕ) → length (continued word e ring).standings ≡ length e.standings
  continued_length e [] = refl
  continued_length e (a ∷ l) = passes_length (suc (held_count e.standings)) e

  pub settled_readings : (e : Envelope R) → (settled word e).readings ≡ e.readings
  settled_readings e = let f = begun word e e.ring in continued_readings f f.ring ∙ begun_readings e e.ring

  pub settled_length : (e : Envelope R) → length (settled word e).standings ≡ length e.standings
  settled_length e = let f = begun word e e.ring in continued_length f f.ring ∙ begun_length e e.ring
