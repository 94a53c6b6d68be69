-- A reading beyond the ring becomes a corner between the ends of the run of right sides, and the corners of the run become inside.
use Rattle.std.proofs.Common.{◌≡◌, ℕ, zero, suc, ◌+◌, ◌<◌, ◌≤◌, ◌≢◌, ◌⊎◌, List, [], ◌∷◌, ◌++◌, length, get_or, set, sym, refl, ap, ◌∙◌, subst, inl, inr, ⊎_elim, arith, length-set, get_or-set_other, get_or-set_same}
use native.Mathlib.Decide.{ℕ_discrete}
use Rattle.plane.specs.Points.{Point}
use Rattle.plane.specs.Rings.{steps, In}
use Rattle.plane.proofs.Polygons.{Distinct, Rotated}
use Rattle.plane.proofs.Members.{in_left, in_right, in_either}
use Rattle.rules.specs.declared.standing.Standing.{Standing}
use Rattle.rules.specs.declared.standing.Standing.TheVariants.{Corner, Inside, Held}
use Rattle.rules.specs.Envelopes.{Envelope}
use Rattle.rules.specs.Placing.{from_lowest}
use Rattle.rules.specs.Trying.{all_inside}
use Rattle.rules.specs.Promise.{Convex, Chosen}
use Rattle.rules.proofs.Geometry as geometry
use Rattle.rules.proofs.Geometry.{LeftOf, RightOf, AllLeft, convex_turns, inside_turns, all_left_turns, convex_grows, inside_grows, all_left_grows}
use Rattle.rules.proofs.Rotations.{lowest_rotates, rotated_length, rotated_in, rotated_distinct}
use Rattle.rules.proofs.Lowests.{lowest_first}
use Rattle.rules.proofs.Placements.{all_inside_length, all_inside_at, all_inside_other}
use Rattle.rules.proofs.Soundness.{standing, Sound, Step}
use Rattle.rules.proofs.Beginning.{held_not_inside, corner_not_inside}
use Rattle.rules.proofs.Enclosing.{not_in_ring}

-- ---- lists of distinct numbers
member : (i : ℕ) (l : List ℕ) → In i l ⊎ (In i l → ⊥)
member i [] = inr (λ j. j)
member i (a ∷ l) = by (ℕ_discrete i a) (member i l)
  where
    by : Dec (i ≡ a) → In i l ⊎ (In i l → ⊥) → In i (a ∷ l) ⊎ (In i (a ∷ l) → ⊥)
    by (yes e) m = inl (inl e)
    by (no n) (inl j) = inl (inr j)
    by (no n) (inr m) = inr (⊎_elim n m)

distinct_back : (l m : List ℕ) → Distinct (l ++ m) → Distinct m
distinct_back [] m d = d
distinct_back (a ∷ l) m d = distinct_back l m d.1

apart : (l m : List ℕ) → Distinct (l ++ m) → (i : ℕ) → In i l → In i m → ⊥
apart [] m d i p q = p
apart (a ∷ l) m d i (inl e) q = d.0 (in_right a l m (subst (λ j. In j m) e q))
apart (a ∷ l) m d i (inr p) q = apart l m d.1 i p q

-- what is not held is there
pub there : (st : List Standing) (i : ℕ) → get_or st i Held ≡ Inside → i < length st
there [] i h = absurd (held_not_inside h)
there (t ∷ st) zero h = omega arith
there (t ∷ st) (suc i) h = let l = there st i h in omega arith

module _ {R : Type 0} (stands : R → Point → Type 0) (e : Envelope R) (s : Sound stands e) (k : ℕ) (hk : k < length e.readings) (filled : e.ring ≢ []) (held : standing e k ≡ Held)
    (a b : ℕ) (removed rest : List ℕ) (rotated : Rotated e.ring (a ∷ (removed ++ b ∷ rest)))
    (rights : (at : ℕ → Point) → Chosen stands e.readings at → (t : ℕ × ℕ) → In t (steps a removed b) → RightOf at t k)
    (lefts : (at : ℕ → Point) → Chosen stands e.readings at → (t : ℕ × ℕ) → In t (steps b rest a) → LeftOf at t k) where
  abbrev grown : List ℕ
  grown = a ∷ k ∷ b ∷ rest

  -- the envelope with k in the ring
  abbrev pub cornered : Envelope R
  cornered = record { readings = e.readings; standings = all_inside removed (set e.standings k Corner); ring = from_lowest grown }

  -- ---- the old ring, read from a
  was_in : (i : ℕ) → In i (a ∷ (removed ++ b ∷ rest)) → In i e.ring
  was_in i = (rotated_in rotated i).1

  distinct_a : Distinct (a ∷ (removed ++ b ∷ rest))
  distinct_a = rotated_distinct rotated s.distinct

  k_new : (i : ℕ) → In i (a ∷ (removed ++ b ∷ rest)) → i ≢ k
  k_new i j q = not_in_ring stands e s k hk filled held (subst (λ c. In c e.ring) q (was_in i j))

  removed_was : (i : ℕ) → In i removed → In i (a ∷ (removed ++ b ∷ rest))
  removed_was i j = inr (in_left i removed (b ∷ rest) j)

  rest_was : (i : ℕ) → In i (b ∷ rest) → In i (a ∷ (removed ++ b ∷ rest))
  rest_was i j = inr (in_right i removed (b ∷ rest) j)

  -- ---- the standings
  at_removed : (i : ℕ) → In i removed → standing cornered i ≡ Inside
  at_removed i j = all_inside_at removed (set e.standings k Corner) i Held j (rw (length-set e.standings k Corner, s.sized) (s.under i (was_in i (removed_was i j))))

  not_removed : (i : ℕ) → (In i removed → ⊥) → standing cornered i ≡ get_or (set e.standings k Corner) i Held
  not_removed i n = all_inside_other removed (set e.standings k Corner) i Held n

  at_k : standing cornered k ≡ Corner
  at_k = not_removed k (λ j. k_new k (removed_was k j) refl) ∙ get_or-set_same e.standings k Corner Held (rw s.sized hk)

  other : (i : ℕ) → (In i removed → ⊥) → i ≢ k → standing cornered i ≡ standing e i
  other i n q = not_removed i n ∙ get_or-set_other e.standings k i Corner Held q

  -- ---- corners
  in_new : (i : ℕ) → In i (from_lowest grown) → In i grown
  in_new i = (rotated_in (lowest_rotates grown) i).1

  to_new : (i : ℕ) → In i grown → In i (from_lowest grown)
  to_new i = (rotated_in (lowest_rotates grown) i).0

  corner_now : (i : ℕ) → In i grown → standing cornered i ≡ Corner
  corner_now i (inl q) = other i (λ j. distinct_a.0 (in_left a removed (b ∷ rest) (subst (λ c. In c removed) q j))) (k_new i (inl q)) ∙ s.in_corner i (was_in i (inl q))
  corner_now i (inr (inl q)) = rw q at_k
  corner_now i (inr (inr j)) = other i (λ r. apart removed (b ∷ rest) distinct_a.1 i r j) (k_new i (rest_was i j)) ∙ s.in_corner i (was_in i (rest_was i j))

  in_now : (i : ℕ) → standing cornered i ≡ Corner → In i grown
  in_now i h = by (member i removed) (ℕ_discrete i k)
    where
      still : (In i removed → ⊥) → In i (a ∷ (removed ++ b ∷ rest)) → In i grown
      still n (inl q) = inl q
      still n (inr j) = ⊎_elim (λ r. absurd (n r)) (λ r. inr (inr r)) (in_either i removed (b ∷ rest) j)

      by : In i removed ⊎ (In i removed → ⊥) → Dec (i ≡ k) → In i grown
      by (inl j) d = absurd (corner_not_inside (sym h ∙ at_removed i j))
      by (inr n) (yes q) = inr (inl q)
      by (inr n) (no m) = still n ((rotated_in rotated i).0 (s.corner_in i (sym (other i n m) ∙ h)))

  distinct_new : Distinct grown
  distinct_new = (first, ((λ j. k_new k (rest_was k j) refl), distinct_back removed (b ∷ rest) distinct_a.1))
    where
      first : In a (k ∷ b ∷ rest) → ⊥
      first (inl q) = k_new a (inl refl) q
      first (inr j) = distinct_a.0 (in_right a removed (b ∷ rest) j)

  long : 3 ≤ length (from_lowest grown)
  long = rw (rotated_length (lowest_rotates grown)) (omega arith)

  -- ---- geometry
  convex_now : (at : ℕ → Point) → Chosen stands e.readings at → Convex at (from_lowest grown)
  convex_now at ch = convex_turns at (lowest_rotates grown) (convex_grows at (length e.readings) e.ring s.under (s.convex at ch) k hk a b removed rest rotated (rights at ch) (lefts at ch))

  module _ (at : ℕ → Point) (ch : Chosen stands e.readings at) where
    inside_still : (i : ℕ) → i < length e.readings → geometry.Inside at e.ring i → geometry.Inside at (from_lowest grown) i
    inside_still i l h = inside_turns at (lowest_rotates grown) i (inside_grows at (length e.readings) e.ring s.under (s.convex at ch) k hk a b removed rest rotated (rights at ch) (lefts at ch) i l h)

    inside_now : (i : ℕ) → standing cornered i ≡ Inside → geometry.Inside at (from_lowest grown) i
    inside_now i h = by (member i removed) (ℕ_discrete i k)
      where
        by : In i removed ⊎ (In i removed → ⊥) → Dec (i ≡ k) → geometry.Inside at (from_lowest grown) i
        by (inl j) d = let w = was_in i (removed_was i j) in inside_still i (s.under i w) (λ c d t nc nd. s.convex at ch c d i t w nc nd)
        by (inr n) (yes q) = absurd (corner_not_inside (sym at_k ∙ (subst (λ c. standing cornered c ≡ Inside) q h)))
        by (inr n) (no m) = let was = sym (other i n m) ∙ h in inside_still i (rw s.sized at (there e.standings i was)) (s.inside i was at ch)

    left_still : (c : ℕ) → AllLeft at e.ring c → AllLeft at (from_lowest grown) c
    left_still c l =
        let n = suc (length e.readings + c) in
        all_left_turns at (lowest_rotates grown) c (all_left_grows at n e.ring (λ i j. omega (arith, s.under i j)) (s.convex at ch) k (omega arith) a b removed rest rotated (rights at ch) (lefts at ch) c (omega arith) l)

  inside_keeps : (i : ℕ) → standing e i ≡ Inside → standing cornered i ≡ Inside
  inside_keeps i h = by (member i removed) (ℕ_discrete i k)
    where
      by : In i removed ⊎ (In i removed → ⊥) → Dec (i ≡ k) → standing cornered i ≡ Inside
      by (inl j) d = at_removed i j
      by (inr n) (yes q) = absurd (held_not_inside (sym held ∙ subst (λ c. standing e c ≡ Inside) q h))
      by (inr n) (no m) = other i n m ∙ h

  held_before : (i : ℕ) → standing cornered i ≡ Held → standing e i ≡ Held
  held_before i h = by (member i removed) (ℕ_discrete i k)
    where
      by : In i removed ⊎ (In i removed → ⊥) → Dec (i ≡ k) → standing e i ≡ Held
      by (inl j) d = absurd (held_not_inside (sym h ∙ at_removed i j))
      by (inr n) (yes q) = rw q held
      by (inr n) (no m) = sym (other i n m) ∙ h

  some_ring : from_lowest grown ≡ [] → ⊥
  some_ring h = let l = ap length h in omega (arith, long)

  pub cornering : Step stands e cornered
  cornering = record {
    sound = record {
      sized = all_inside_length removed (set e.standings k Corner) ∙ length-set e.standings k Corner ∙ s.sized;
      under = λ i j. under_new i (in_new i j);
      distinct = rotated_distinct (lowest_rotates grown) distinct_new;
      corner_in = λ i h. to_new i (in_now i h);
      in_corner = λ i j. corner_now i (in_new i j);
      three = inr long;
      lowest = lowest_first grown distinct_new;
      fresh = λ h. absurd (some_ring h);
      convex = convex_now;
      inside = λ i h at ch. inside_now at ch i h;
    };
    grows = record {
      chosen = λ at h. h;
      longer = omega arith;
      ring_stays = λ h. some_ring;
      inside_stays = inside_keeps;
      held_was = held_before;
      left_stays = λ h at ch c l. left_still at ch c l;
    };
  }
    where
      under_new : (i : ℕ) → In i grown → i < length e.readings
      under_new i (inl q) = s.under i (was_in i (inl q))
      under_new i (inr (inl q)) = rw q hk
      under_new i (inr (inr j)) = s.under i (was_in i (rest_was i j))
