-- A try keeps an envelope sound, whatever the judge says.
use Rattle.std.proofs.Common.{◌≡◌, ℕ, ◌<◌, Bool, true, false, cond, ◌≢◌, ◌⊎◌, List, [], map, length, get_or, set, ℤ, pos, ◌<ℤ◌, sym, refl, ◌∙◌, subst, inl, inr, ⊎_elim, arith}
use borrow.Author.Differences.{ints}
use Rattle.std.proofs.lemmas.List.{get_or_default}
use Rattle.plane.specs.Points.{Point}
use Rattle.plane.specs.Rings.{steps, sides, In}
use Rattle.plane.proofs.Members.{all_in, all_from_in, in_left, in_right}
use Rattle.plane.proofs.Ways.{steps_append}
use Rattle.judge.specs.declared.word.Word.{Word}
use Rattle.judge.specs.declared.word.Word.TheVariants.{Left, Right}
use Rattle.judge.specs.Words.{Certain}
use Rattle.rules.specs.declared.standing.Standing.{Standing}
use Rattle.rules.specs.declared.standing.Standing.TheVariants.{Corner, Inside, Held}
use Rattle.rules.specs.Envelopes.{Envelope}
use Rattle.rules.specs.Asking.{asked, all_left, some_undecided}
use Rattle.rules.specs.Placing.{placed, retired, from_lowest}
use Rattle.rules.specs.Trying.{is_held, all_inside, judged, tried}
use Rattle.rules.specs.Promise.{Chosen}
use Rattle.rules.proofs.Rotations.{rotated_sides}
use Rattle.rules.proofs.Wordings.{words_are, all_left_each, decided, not_all_left}
use Rattle.rules.proofs.FindingRuns.{found_run}
use Rattle.rules.proofs.Placements.{placed_at, retired_at}
use Rattle.rules.proofs.Geometry.{LeftOf, RightOf, Run, one_run_is}
use Rattle.rules.proofs.Soundness.{standing, Sound, Step, same}
use Rattle.rules.proofs.Saying.{W, said_left, said_right}
use Rattle.rules.proofs.Enclosing.{enclosing}
use Rattle.rules.proofs.Cornering.{cornered, cornering}

only_held : (t : Standing) → is_held t ≡ true → t ≡ Held
only_held Held h = refl
only_held Corner h = let z : ◌≡◌ {A = ℕ} 0 1 = cc in absurd (omega arith)
only_held Inside h = let z : ◌≡◌ {A = ℕ} 0 1 = cc in absurd (omega arith)

not_both : (z : ℤ) → pos 0 <ℤ z → z <ℤ pos 0 → ⊥
not_both z h k = omega (arith, ints)

module _ {R : Type 0} (stands : R → Point → Type 0) (some : (r : R) → (q : Point) × stands r q) (word : R → R → R → Word) (certain : (a b c : R) → Certain stands a b c (word a b c))
    (e : Envelope R) (s : Sound stands e) (k : ℕ) (x : R) (hk : k < length e.readings) (is : (d : R) → get_or e.readings k d ≡ x) (filled : e.ring ≢ []) where
  abbrev V : ℕ × ℕ → Word
  V = W stands word certain e.readings e.ring s.under x

  words : asked word e x ≡ map V (sides e.ring)
  words = words_are word e.readings (sides e.ring) x

  true_k : (at : ℕ → Point) → Chosen stands e.readings at → stands x (at k)
  true_k at ch = subst (λ r. stands r (at k)) (is x) (ch k x hk)

  left : (at : ℕ → Point) → Chosen stands e.readings at → (t : ℕ × ℕ) → In t (sides e.ring) → V t ≡ Left → LeftOf at t k
  left at ch t i = said_left stands word certain e.readings e.ring s.under x at ch k (true_k at ch) t i

  right : (at : ℕ → Point) → Chosen stands e.readings at → (t : ℕ × ℕ) → In t (sides e.ring) → V t ≡ Right → RightOf at t k
  right at ch t i = said_right stands word certain e.readings e.ring s.under x at ch k (true_k at ch) t i

  -- one choice of true points, by which the run of right sides is found
  sample : ℕ → Point
  sample i = (some (get_or e.readings i x)).0

  sample_chosen : Chosen stands e.readings sample
  unfolding sample
  sample_chosen i y l = subst (λ r. stands r (sample i)) (get_or_default e.readings i x y l) (some (get_or e.readings i x)).1

  module _ (held : standing e k ≡ Held) (d : some_undecided (map V (sides e.ring)) ≡ false) (l : all_left (map V (sides e.ring)) ≡ false) where
    said : (t : ℕ × ℕ) → In t (sides e.ring) → (V t ≡ Left) ⊎ (V t ≡ Right)
    said = all_in (λ t. (V t ≡ Left) ⊎ (V t ≡ Right)) (sides e.ring) (decided V (sides e.ring) d)

    run : Run sample e.ring k
    run =
        let r = not_all_left V (sides e.ring) d l in
        one_run_is sample (length e.readings) e.ring s.under k hk (s.convex sample sample_chosen) s.distinct
        (λ t i. ⊎_elim (λ q. inl (left sample sample_chosen t i q)) (λ q. inr (right sample sample_chosen t i q)) (said t i))
        r.0 r.1 (right sample sample_chosen r.0 r.1 r.2)

    of_run : (t : ℕ × ℕ) → In t (steps run.a run.removed run.b) → In t (sides e.ring)
    of_run t i = rotated_sides run.rotated t (rw (steps_append run.a run.removed run.b run.rest run.a) (in_left t (steps run.a run.removed run.b) (steps run.b run.rest run.a) i))

    of_rest : (t : ℕ × ℕ) → In t (steps run.b run.rest run.a) → In t (sides e.ring)
    of_rest t i = rotated_sides run.rotated t (rw (steps_append run.a run.removed run.b run.rest run.a) (in_right t (steps run.a run.removed run.b) (steps run.b run.rest run.a) i))

    says_right : (t : ℕ × ℕ) → In t (steps run.a run.removed run.b) → V t ≡ Right
    says_right t i = ⊎_elim (λ q. absurd (not_both _ (left sample sample_chosen t (of_run t i) q) (run.rights t i))) (λ q. q) (said t (of_run t i))

    says_left : (t : ℕ × ℕ) → In t (steps run.b run.rest run.a) → V t ≡ Left
    says_left t i = ⊎_elim (λ q. q) (λ q. absurd (not_both _ (run.lefts t i) (right sample sample_chosen t (of_rest t i) q))) (said t (of_rest t i))

    abbrev with_k : Envelope R
    with_k = cornered stands e s k hk filled held run.a run.b run.removed run.rest run.rotated (λ at ch t i. right at ch t (of_run t i) (says_right t i)) (λ at ch t i. left at ch t (of_rest t i) (says_left t i))

    becomes : judged Corner e k (map V (sides e.ring)) ≡ with_k
    becomes =
        let f = found_run V e.ring run.a run.b run.removed run.rest run.rotated
        (all_from_in (λ t. V t ≡ Right) (steps run.a run.removed run.b) says_right) (all_from_in (λ t. V t ≡ Left) (steps run.b run.rest run.a) says_left) in
        (λ i. record { readings = e.readings; standings = all_inside (retired (f.1 i) (f.0 i)) (set e.standings k Corner); ring = from_lowest (placed (f.1 i) (f.0 i) k) })
        ∙ (λ i. record { readings = e.readings; standings = all_inside (retired_at run.a run.b run.removed run.rest i) (set e.standings k Corner); ring = from_lowest (placed_at run.a run.b run.removed run.rest k i) })

    corner_step : Step stands e (judged Corner e k (map V (sides e.ring)))
    corner_step = subst (Step stands e) (sym becomes) (cornering stands e s k hk filled held run.a run.b run.removed run.rest run.rotated (λ at ch t i. right at ch t (of_run t i) (says_right t i)) (λ at ch t i. left at ch t (of_rest t i) (says_left t i)))

  unchanged : Step stands e e
  unchanged = record { sound = s; grows = same stands e }

  abbrev ws : List Word
  ws = map V (sides e.ring)

  by_words : (b l u : Bool) → is_held (get_or e.standings k Corner) ≡ b → all_left ws ≡ l → some_undecided ws ≡ u → Step stands e (cond b (judged (cond l Inside (cond u Held Corner)) e k ws) e)
  by_words false l u h p q = unchanged
  by_words true true u h p q = enclosing stands e s k hk filled (held h) ws (λ at ch t i. left at ch t i (all_in (λ t. V t ≡ Left) (sides e.ring) (all_left_each V (sides e.ring) p) t i))
    where
      held : is_held (get_or e.standings k Corner) ≡ true → standing e k ≡ Held
      held h = get_or_default e.standings k Held Corner (rw s.sized hk) ∙ only_held _ h
  by_words true false true h p q = unchanged
  by_words true false false h p q = corner_step (get_or_default e.standings k Held Corner (rw s.sized hk) ∙ only_held _ h) q p

  pub try_step : Step stands e (tried word e k x)
  try_step = subst (λ v. Step stands e (cond (is_held (get_or e.standings k Corner)) (judged (cond (all_left v) Inside (cond (some_undecided v) Held Corner)) e k v) e)) (sym words) (by_words _ _ _ refl refl refl)
