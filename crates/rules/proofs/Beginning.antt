-- The first ring: three readings that the judge decides.
use Rattle.std.proofs.Common.{◌≡◌, ℕ, ◌<◌, ◌≢◌, ◌⊎◌, List, [], ◌∷◌, length, get_or, set, Some, sym, ◌∙◌, subst, inl, inr, arith, lit≤, length-set, get_or-set_other, get_or-set_same}
use native.Mathlib.Decide.{ℕ_discrete}
use Rattle.plane.specs.Points.{Point}
use Rattle.plane.specs.Rings.{In}
use Rattle.rules.specs.declared.standing.Standing.{Standing}
use Rattle.rules.specs.declared.standing.Standing.TheVariants.{Corner, Inside, Held}
use Rattle.rules.specs.Envelopes.{Envelope}
use Rattle.rules.specs.Starting.{started}
use Rattle.rules.specs.Promise.{Chosen}
use Rattle.rules.proofs.Geometry.{LeftOf, triangle}
use Rattle.rules.proofs.Soundness.{standing, Sound, Step}

-- two standings are not both at once
pub held_not_inside : Held ≡ Inside → ⊥
held_not_inside e = let z : ◌≡◌ {A = ℕ} 0 1 = cc in omega arith

pub held_not_corner : Held ≡ Corner → ⊥
held_not_corner e = let z : ◌≡◌ {A = ℕ} 0 1 = cc in omega arith

pub corner_not_inside : Corner ≡ Inside → ⊥
corner_not_inside e = let z : ◌≡◌ {A = ℕ} 0 1 = cc in omega arith

module _ (st : List Standing) (a b c : ℕ) (ha : a < length st) (hb : b < length st) (hc : c < length st) where
  abbrev three_set : List Standing
  three_set = set (set (set st a Corner) b Corner) c Corner

  at_three : (i : ℕ) → In i (a ∷ b ∷ c ∷ []) → get_or three_set i Held ≡ Corner
  at_three i j = by i (ℕ_discrete i c) (ℕ_discrete i b) j
    where
      by : (i : ℕ) → Dec (i ≡ c) → Dec (i ≡ b) → In i (a ∷ b ∷ c ∷ []) → get_or three_set i Held ≡ Corner
      by i (yes e) d j = subst (λ k. get_or three_set k Held ≡ Corner) (sym e) (get_or-set_same _ c Corner Held (rw (length-set (set st a Corner) b Corner, length-set st a Corner) hc))
      by i (no n) (yes e) j = get_or-set_other _ c i Corner Held n ∙ subst (λ k. get_or (set (set st a Corner) b Corner) k Held ≡ Corner) (sym e) (get_or-set_same _ b Corner Held (rw (length-set st a Corner) hb))
      by i (no n) (no m) (inl e) = get_or-set_other _ c i Corner Held n ∙ get_or-set_other _ b i Corner Held m ∙ subst (λ k. get_or (set st a Corner) k Held ≡ Corner) (sym e) (get_or-set_same st a Corner Held ha)
      by i (no n) (no m) (inr (inl e)) = absurd (m e)
      by i (no n) (no m) (inr (inr (inl e))) = absurd (n e)
      by i (no n) (no m) (inr (inr (inr j))) = absurd j

  other_three : (i : ℕ) → (In i (a ∷ b ∷ c ∷ []) → ⊥) → get_or three_set i Held ≡ get_or st i Held
  other_three i n = get_or-set_other _ c i Corner Held (λ e. n (inr (inr (inl e)))) ∙ get_or-set_other _ b i Corner Held (λ e. n (inr (inl e))) ∙ get_or-set_other st a i Corner Held (λ e. n (inl e))

  among : (i : ℕ) → In i (a ∷ b ∷ c ∷ []) ⊎ (In i (a ∷ b ∷ c ∷ []) → ⊥)
  among i = by (ℕ_discrete i a) (ℕ_discrete i b) (ℕ_discrete i c)
    where
      by : Dec (i ≡ a) → Dec (i ≡ b) → Dec (i ≡ c) → In i (a ∷ b ∷ c ∷ []) ⊎ (In i (a ∷ b ∷ c ∷ []) → ⊥)
      by (yes e) q r = inl (inl e)
      by (no p) (yes e) r = inl (inr (inl e))
      by (no p) (no q) (yes e) = inl (inr (inr (inl e)))
      by (no p) (no q) (no r) = inr (none p q r)
        where
          none : i ≢ a → i ≢ b → i ≢ c → In i (a ∷ b ∷ c ∷ []) → ⊥
          none p q r (inl e) = p e
          none p q r (inr (inl e)) = q e
          none p q r (inr (inr (inl e))) = r e
          none p q r (inr (inr (inr j))) = j

module _ {R : Type 0} (stands : R → Point → Type 0) (e : Envelope R) (s : Sound stands e) (none : e.ring ≡ []) (a b c : ℕ)
    (ha : a < length e.readings) (hb : b < length e.readings) (hc : c < length e.readings) (ab : a < b) (ac : a < c) (bc : b ≢ c)
    (left : (at : ℕ → Point) → Chosen stands e.readings at → LeftOf at (a, b) c) where
  below : {i : ℕ} → i < length e.readings → i < length e.standings
  below l = rw s.sized l

  now : (i : ℕ) → ((standing (started e (Some (a, b, c))) i ≡ Corner) × In i (a ∷ b ∷ c ∷ [])) ⊎ ((standing (started e (Some (a, b, c))) i ≡ Held) × (In i (a ∷ b ∷ c ∷ []) → ⊥))
  now i = elim (among e.standings a b c (below ha) (below hb) (below hc) i) [
    | inl j ↦ inl (at_three e.standings a b c (below ha) (below hb) (below hc) i j, j)
    | inr n ↦ inr (other_three e.standings a b c (below ha) (below hb) (below hc) i n ∙ s.fresh none i, n)
  ]

  pub beginning : Step stands e (started e (Some (a, b, c)))
  beginning = record {
    sound = record {
      sized = length-set _ c Corner ∙ length-set _ b Corner ∙ length-set e.standings a Corner ∙ s.sized;
      under = under;
      distinct = (away (λ h. omega arith) (λ h. omega arith), (one bc, ((λ j. j), tt)));
      corner_in = λ i h. elim (now i) [ inl w ↦ w.1 | inr w ↦ absurd (held_not_corner (sym w.0 ∙ h)) ];
      in_corner = λ i j. elim (now i) [ inl w ↦ w.0 | inr w ↦ absurd (w.1 j) ];
      three = inr (lit≤ tt);
      lowest = lowest;
      fresh = λ h. absurd (filled h);
      convex = λ at ch. triangle at a b c (left at ch);
      inside = λ i h. elim (now i) [ inl w ↦ absurd (corner_not_inside (sym w.0 ∙ h)) | inr w ↦ absurd (held_not_inside (sym w.0 ∙ h)) ];
    };
    grows = record {
      chosen = λ at h. h;
      longer = omega arith;
      ring_stays = λ h. absurd (h none);
      inside_stays = λ i h. absurd (held_not_inside (sym (s.fresh none i) ∙ h));
      held_was = λ i h. s.fresh none i;
      left_stays = λ h. absurd (h none);
    };
  }
    where
      under : (i : ℕ) → In i (a ∷ b ∷ c ∷ []) → i < length e.readings
      under i (inl h) = rw h ha
      under i (inr (inl h)) = rw h hb
      under i (inr (inr (inl h))) = rw h hc
      under i (inr (inr (inr j))) = absurd j

      away : a ≢ b → a ≢ c → In a (b ∷ c ∷ []) → ⊥
      away p q (inl h) = p h
      away p q (inr (inl h)) = q h
      away p q (inr (inr j)) = j

      lowest : (i : ℕ) → In i (b ∷ c ∷ []) → a < i
      lowest i (inl h) = rw h ab
      lowest i (inr (inl h)) = rw h ac
      lowest i (inr (inr j)) = absurd j

      one : b ≢ c → In b (c ∷ []) → ⊥
      one p (inl h) = p h
      one p (inr j) = j

      filled : ◌≡◌ {A = List ℕ} (a ∷ b ∷ c ∷ []) [] → ⊥
      filled h = let z : ◌≡◌ {A = ℕ} 0 1 = cc in omega arith
