-- What every envelope keeps, and how a later envelope stands to an earlier one.
use Rattle.std.proofs.Common.{◌≡◌, ℕ, ◌≤◌, ◌≢◌, ◌⊎◌, [], length, get_or, arith}
use Rattle.plane.specs.Points.{Point}
use Rattle.plane.specs.Rings.{In}
use Rattle.plane.proofs.Polygons.{Distinct}
use Rattle.rules.specs.declared.standing.Standing.{Standing}
use Rattle.rules.specs.declared.standing.Standing.TheVariants.{Corner, Inside, Held}
use Rattle.rules.specs.Envelopes.{Envelope}
use Rattle.rules.specs.Promise.{Convex, Lowest, Chosen}
use Rattle.rules.proofs.Geometry as geometry
use Rattle.rules.proofs.Geometry.{Under, AllLeft}

-- the standing of number i; a number that is not there counts as held
abbrev pub standing : {R : Type 0} → Envelope R → ℕ → Standing
standing e i = get_or e.standings i Held

module _ {R : Type 0} (stands : R → Point → Type 0) where
  pub record Sound (e : Envelope R) : Type 0 where
    pub sized : length e.standings ≡ length e.readings
    pub under : Under (length e.readings) e.ring
    pub distinct : Distinct e.ring
    pub corner_in : (i : ℕ) → standing e i ≡ Corner → In i e.ring
    pub in_corner : (i : ℕ) → In i e.ring → standing e i ≡ Corner
    pub three : (e.ring ≡ []) ⊎ (3 ≤ length e.ring)
    pub lowest : Lowest e.ring
    -- without a ring all is held
    pub fresh : e.ring ≡ [] → (i : ℕ) → standing e i ≡ Held
    pub convex : (at : ℕ → Point) → Chosen stands e.readings at → Convex at e.ring
    pub inside : (i : ℕ) → standing e i ≡ Inside → (at : ℕ → Point) → Chosen stands e.readings at → geometry.Inside at e.ring i

  -- f comes after e
  pub record Grows (e f : Envelope R) : Type 0 where
    pub chosen : (at : ℕ → Point) → Chosen stands f.readings at → Chosen stands e.readings at
    pub longer : length e.readings ≤ length f.readings
    pub ring_stays : e.ring ≢ [] → f.ring ≢ []
    pub inside_stays : (i : ℕ) → standing e i ≡ Inside → standing f i ≡ Inside
    pub held_was : (i : ℕ) → standing f i ≡ Held → standing e i ≡ Held
    pub left_stays : e.ring ≢ [] → (at : ℕ → Point) → Chosen stands f.readings at → (c : ℕ) → AllLeft at e.ring c → AllLeft at f.ring c

  pub same : (e : Envelope R) → Grows e e
  same e = record { chosen = λ at h. h; longer = omega arith; ring_stays = λ h. h; inside_stays = λ i h. h; held_was = λ i h. h; left_stays = λ h at ch c l. l }

  pub then : {e f g : Envelope R} → Grows e f → Grows f g → Grows e g
  then p q = record {
    chosen = λ at h. p.chosen at (q.chosen at h);
    longer = omega (arith, p.longer, q.longer);
    ring_stays = λ h. q.ring_stays (p.ring_stays h);
    inside_stays = λ i h. q.inside_stays i (p.inside_stays i h);
    held_was = λ i h. p.held_was i (q.held_was i h);
    left_stays = λ h at ch c l. q.left_stays (p.ring_stays h) at ch c (p.left_stays h at (q.chosen at ch) c l);
  }

  -- f is sound and comes after e
  pub record Step (e f : Envelope R) : Type 0 where
    pub sound : Sound f
    pub grows : Grows e f

  pub steps_on : {e f g : Envelope R} → Step e f → (Sound f → Step f g) → Step e g
  steps_on p q = let s = q p.sound in record { sound = s.sound; grows = then p.grows s.grows }
