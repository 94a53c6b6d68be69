-- A reading more, held, changes nothing else.
use Rattle.std.proofs.Common.{◌≡◌, ℕ, zero, suc, ◌+◌, List, [], ◌∷◌, ◌++◌, get_or, sym, refl, ap, ◌∙◌, subst, arith, length-append}
use lib.ListN.{get_or-append}
use Rattle.plane.specs.Points.{Point}
use Rattle.rules.specs.declared.standing.Standing.{Standing}
use Rattle.rules.specs.declared.standing.Standing.TheVariants.{Held}
use Rattle.rules.specs.Envelopes.{Envelope}
use Rattle.rules.specs.Settling.{added}
use Rattle.rules.specs.Promise.{Chosen}
use Rattle.rules.proofs.Soundness.{Sound, Step}

held_more : (st : List Standing) (i : ℕ) → get_or (st ++ Held ∷ []) i Held ≡ get_or st i Held
held_more [] zero = refl
held_more [] (suc i) = refl
held_more (s ∷ st) zero = refl
held_more (s ∷ st) (suc i) = held_more st i

module _ {R : Type 0} (stands : R → Point → Type 0) (e : Envelope R) (x : R) where
  fewer : (at : ℕ → Point) → Chosen stands (e.readings ++ x ∷ []) at → Chosen stands e.readings at
  fewer at h i y l = subst (λ r. stands r (at i)) (get_or-append e.readings (x ∷ []) y i l) (h i y (rw (length-append e.readings (x ∷ [])) (omega arith)))

  pub adding : Sound stands e → Step stands e (added e x)
  adding s = record {
    sound = record {
      sized = length-append e.standings (Held ∷ []) ∙ ap (λ n. n + 1) s.sized ∙ sym (length-append e.readings (x ∷ []));
      under = λ i j. rw (length-append e.readings (x ∷ [])) (omega (arith, s.under i j));
      distinct = s.distinct;
      corner_in = λ i h. s.corner_in i (sym (held_more e.standings i) ∙ h);
      in_corner = λ i j. held_more e.standings i ∙ s.in_corner i j;
      three = s.three;
      lowest = s.lowest;
      fresh = λ h i. held_more e.standings i ∙ s.fresh h i;
      convex = λ at h. s.convex at (fewer at h);
      inside = λ i h at c. s.inside i (sym (held_more e.standings i) ∙ h) at (fewer at c);
    };
    grows = record {
      chosen = fewer;
      longer = rw (length-append e.readings (x ∷ [])) (omega arith);
      ring_stays = λ h. h;
      inside_stays = λ i h. held_more e.standings i ∙ h;
      held_was = λ i h. sym (held_more e.standings i) ∙ h;
      left_stays = λ h at ch c l. l;
    };
  }
