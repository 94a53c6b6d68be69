-- A held reading that all sides have on their left becomes inside.
use Rattle.std.proofs.Common.{◌≡◌, ℕ, ◌<◌, ◌≢◌, List, [], length, sym, ◌∙◌, arith, length-set, get_or-set_other, get_or-set_same}
use native.Mathlib.Decide.{ℕ_discrete}
use Rattle.plane.specs.Points.{Point}
use Rattle.plane.specs.Rings.{In}
use Rattle.rules.specs.declared.standing.Standing.TheVariants.{Inside, Held}
use Rattle.judge.specs.declared.word.Word.{Word}
use Rattle.rules.specs.Envelopes.{Envelope}
use Rattle.rules.specs.Trying.{judged}
use Rattle.rules.specs.Promise.{Chosen}
use Rattle.rules.proofs.Geometry as geometry
use Rattle.rules.proofs.Geometry.{AllLeft}
use Rattle.rules.proofs.Soundness.{standing, Sound, Step}
use Rattle.rules.proofs.Beginning.{held_not_corner, corner_not_inside}

module _ {R : Type 0} (stands : R → Point → Type 0) (e : Envelope R) (s : Sound stands e) (k : ℕ) (hk : k < length e.readings) (filled : e.ring ≢ []) (held : standing e k ≡ Held) where
  pub not_in_ring : In k e.ring → ⊥
  not_in_ring i = held_not_corner (sym held ∙ s.in_corner k i)

  module _ (ws : List Word) (left : (at : ℕ → Point) → Chosen stands e.readings at → AllLeft at e.ring k) where
    abbrev after : Envelope R
    after = judged Inside e k ws

    at_k : standing after k ≡ Inside
    at_k = get_or-set_same e.standings k Inside Held (rw s.sized hk)

    other : (i : ℕ) → i ≢ k → standing after i ≡ standing e i
    other i n = get_or-set_other e.standings k i Inside Held n

    inside_or : (i : ℕ) → standing after i ≡ Inside → (at : ℕ → Point) → Chosen stands e.readings at → geometry.Inside at e.ring i
    inside_or i h at ch = by (ℕ_discrete i k)
      where
        by : Dec (i ≡ k) → geometry.Inside at e.ring i
        by (yes q) = rw q (λ a b j na nb. left at ch (a, b) j)
        by (no n) = s.inside i (sym (other i n) ∙ h) at ch

    pub enclosing : Step stands e after
    enclosing = record {
      sound = record {
        sized = length-set e.standings k Inside ∙ s.sized;
        under = s.under;
        distinct = s.distinct;
        corner_in = λ i h. elim (ℕ_discrete i k) [ yes q ↦ absurd (corner_not_inside (sym h ∙ (rw q at_k))) | no n ↦ s.corner_in i (sym (other i n) ∙ h) ];
        in_corner = λ i j. elim (ℕ_discrete i k) [ yes q ↦ absurd (not_in_ring (rw q at j)) | no n ↦ other i n ∙ s.in_corner i j ];
        three = s.three;
        lowest = s.lowest;
        fresh = λ h. absurd (filled h);
        convex = s.convex;
        inside = inside_or;
      };
      grows = record {
        chosen = λ at h. h;
        longer = omega arith;
        ring_stays = λ h. h;
        inside_stays = λ i h. elim (ℕ_discrete i k) [ yes q ↦ rw q at_k | no n ↦ other i n ∙ h ];
        held_was = λ i h. elim (ℕ_discrete i k) [ yes q ↦ rw q held | no n ↦ sym (other i n) ∙ h ];
        left_stays = λ h at ch c l. l;
      };
    }
