-- Settling keeps an envelope sound, and so do enter and recheck.
use Rattle.std.proofs.Common.{◌≡◌, ℕ, suc, ◌<◌, ◌≢◌, List, [], ◌∷◌, length, get_or, Some, None, Option, sym, refl, subst, inl, inr, arith}
use Rattle.plane.specs.Points.{Point}
use Rattle.judge.specs.declared.word.Word.{Word}
use Rattle.judge.specs.Words.{Certain}
use Rattle.rules.specs.Envelopes.{Envelope}
use Rattle.rules.specs.Trying.{held_count}
use Rattle.rules.specs.Starting.{first_from, started}
use Rattle.rules.specs.Settling.{begun, continued, settled}
use Rattle.rules.proofs.Keeping.{passes_keeps}
use Rattle.rules.proofs.Searching.{Found, three_found}
use Rattle.rules.proofs.Geometry.{counterclockwise}
use Rattle.rules.proofs.Soundness.{Sound, Step, same, steps_on}
use Rattle.rules.proofs.Beginning.{beginning}
use Rattle.rules.proofs.Tries.{try_step}

one_of : {R : Type 0} (rs : List R) (i : ℕ) → i < length rs → R
one_of [] i h = absurd (omega arith)
one_of (r ∷ rs) i h = r

module _ {R : Type 0} (stands : R → Point → Type 0) (some : (r : R) → (q : Point) × stands r q) (word : R → R → R → Word) (certain : (a b c : R) → Certain stands a b c (word a b c)) (e : Envelope R) (s : Sound stands e) where
  unchanged : Step stands e e
  unchanged = record { sound = s; grows = same stands e }

  -- ---- the start search
  first_ring : e.ring ≡ [] → (t : ℕ × ℕ × ℕ) → Found word e.readings t → Step stands e (started e (Some t))
  first_ring none t f =
      let x = one_of e.readings f.c f.third in
      elim (f.says x) [
        | inl l ↦ subst (λ u. Step stands e (started e (Some u))) (sym l.1)
            (beginning stands e s none f.a f.b f.c ha hb f.third f.first ac (λ q. omega (arith, f.second))
            (λ at ch. subst (Certain stands _ _ _) l.0 (certain (get_or e.readings f.a x) (get_or e.readings f.b x) (get_or e.readings f.c x)) (at f.a) (at f.b) (at f.c) (ch f.a x ha) (ch f.b x hb) (ch f.c x f.third)))
        | inr r ↦ subst (λ u. Step stands e (started e (Some u))) (sym r.1)
            (beginning stands e s none f.a f.c f.b ha f.third hb ac f.first (λ q. omega (arith, f.second))
            (λ at ch. counterclockwise at f.a f.b f.c (subst (Certain stands _ _ _) r.0 (certain (get_or e.readings f.a x) (get_or e.readings f.b x) (get_or e.readings f.c x)) (at f.a) (at f.b) (at f.c) (ch f.a x ha) (ch f.b x hb) (ch f.c x f.third))))
      ]
    where
      hb : f.b < length e.readings
      hb = omega (arith, f.second, f.third)

      ac : f.a < f.c
      ac = omega (arith, f.first, f.second)

      ha : f.a < length e.readings
      ha = omega (arith, f.first, f.second, f.third)

  begun_step : Step stands e (begun word e e.ring)
  begun_step = by e.ring refl
    where
      found : e.ring ≡ [] → (o : Option (ℕ × ℕ × ℕ)) → first_from word 0 e.readings ≡ o → Step stands e (started e o)
      found none None h = unchanged
      found none (Some t) h = first_ring none t (three_found word e.readings t h)

      by : (l : List ℕ) → e.ring ≡ l → Step stands e (begun word e l)
      by [] h = found h (first_from word 0 e.readings) refl
      by (a ∷ l) h = unchanged

  -- ---- passes
  Going : Envelope R → Type 0
  Going f = Step stands e f × (f.ring ≢ [])

  goes_on : (f : Envelope R) (l : List ℕ) → f.ring ≡ l → Step stands e f → Step stands e (continued word f l)
  unfolding Going
  goes_on f [] h st = st
  goes_on f (a ∷ l) h st =
      (passes_keeps word Going
      (λ g k x hk is p. let t = λ (so : Sound stands g). try_step stands some word certain g so k x hk is p.1 in (steps_on stands p.0 t, (t p.0.sound).grows.ring_stays p.1))
      (suc (held_count f.standings)) f (st, (λ q. filled (sym h) q))).0
    where
      filled : ◌≡◌ {A = List ℕ} (a ∷ l) f.ring → f.ring ≡ [] → ⊥
      filled p q = let z : ◌≡◌ {A = ℕ} 0 1 = cc in omega arith

  pub settle_step : Step stands e (settled word e)
  settle_step = goes_on (begun word e e.ring) (begun word e e.ring).ring refl begun_step
