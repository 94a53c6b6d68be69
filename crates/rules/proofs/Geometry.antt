-- The geometry of rings, of true points: carried over from points of whole coordinates.
use Rattle.std.proofs.Common.{◌≡◌, ℕ, suc, ◌+◌, ◌<◌, ◌≢◌, ◌⊎◌, ◌↔◌, List, [], ◌∷◌, ◌++◌, ℤ, ◌<ℤ◌, refl, inl, inr, ⊎_elim, arith}
use native.Mathlib.Decide.{ℕ_discrete}
use Rattle.plane.specs.Directions.{reach}
use Rattle.plane.specs.Fractions.{Positive, Negative, Less}
use Rattle.plane.specs.Points.{Point, doubled_area}
use Rattle.plane.specs.Whole.{WholePoint}
use Rattle.plane.specs.Rings.{steps, sides, In}
use Rattle.plane.proofs.Scaling.{common, scaled, common_some, scaled_is, positive_scales, negative_scales}
use Rattle.plane.proofs.Polygons as whole
use Rattle.plane.proofs.Polygons.{Distinct, Rotated}
use Rattle.plane.proofs.LeftRight.{cycled, exchanged, seen_strictly, not_left_and_right}
use Rattle.plane.proofs.Members.{all_in, all_from_in, in_left, in_right}
use Rattle.plane.proofs.Ways.{side_ends, steps_append}
use Rattle.plane.proofs.Growing.{ring_grows, inside_stays, left_stays}
use Rattle.plane.proofs.Runs.{one_run}
use Rattle.plane.proofs.Outward.{inside_is_not_beyond, outside}
use Rattle.plane.proofs.Plain.{triangle_is_convex}
use Rattle.plane.proofs.Reaches.{reach_scales}
use Rattle.rules.specs.Promise.{Convex, Beyond, Within, Out}
use Rattle.rules.proofs.Rotations.{rotated_in, rotated_sides}

-- number c lies strictly left, or strictly right, of a side
abbrev pub LeftOf : (ℕ → Point) → ℕ × ℕ → ℕ → Type 0
LeftOf at s c = Positive (doubled_area (at s.0) (at s.1) (at c))

abbrev pub RightOf : (ℕ → Point) → ℕ × ℕ → ℕ → Type 0
RightOf at s c = Negative (doubled_area (at s.0) (at s.1) (at c))

-- the ring from a: first the sides that have number k on the right, up to b, and then those that have it on the left
pub record Run (at : ℕ → Point) (ring : List ℕ) (k : ℕ) : Type 0 where
  pub a : ℕ
  pub removed : List ℕ
  pub b : ℕ
  pub rest : List ℕ
  pub rotated : Rotated ring (a ∷ (removed ++ b ∷ rest))
  pub rights : (s : ℕ × ℕ) → In s (steps a removed b) → RightOf at s k
  pub lefts : (s : ℕ × ℕ) → In s (steps b rest a) → LeftOf at s k

-- left of every side that it is no end of
abbrev pub Inside : (ℕ → Point) → List ℕ → ℕ → Type 0
Inside at ring c = (a b : ℕ) → In (a, b) (sides ring) → c ≢ a → c ≢ b → LeftOf at (a, b) c

-- left of every side
abbrev pub AllLeft : (ℕ → Point) → List ℕ → ℕ → Type 0
AllLeft at ring c = (s : ℕ × ℕ) → In s (sides ring) → LeftOf at s c

abbrev pub Under : ℕ → List ℕ → Type 0
Under n ring = (i : ℕ) → In i ring → i < n

-- ---- a ring that begins elsewhere
module _ (at : ℕ → Point) {l m : List ℕ} (t : Rotated l m) where
  pub convex_turns : Convex at l → Convex at m
  convex_turns h a b c i j = h a b c (rotated_sides t (a, b) i) ((rotated_in t c).1 j)

  pub inside_turns : (c : ℕ) → Inside at l c → Inside at m c
  inside_turns c h a b i = h a b (rotated_sides t (a, b) i)

  pub all_left_turns : (c : ℕ) → AllLeft at l c → AllLeft at m c
  all_left_turns c h s i = h s (rotated_sides t s i)

module _ (at : ℕ → Point) (n : ℕ) where
  abbrev p : ℕ → WholePoint
  p = scaled at n

  module _ (a b c : ℕ) (ha : a < n) (hb : b < n) (hc : c < n) where
    left_is : (whole.Left (p a) (p b) (p c)) ↔ Positive (doubled_area (at a) (at b) (at c))
    left_is = positive_scales (common at n) (at a) (at b) (at c) (p a) (p b) (p c) (common_some at n) (scaled_is at n a ha) (scaled_is at n b hb) (scaled_is at n c hc)

    right_is : (whole.Right (p a) (p b) (p c)) ↔ Negative (doubled_area (at a) (at b) (at c))
    right_is = negative_scales (common at n) (at a) (at b) (at c) (p a) (p b) (p c) (common_some at n) (scaled_is at n a ha) (scaled_is at n b hb) (scaled_is at n c hc)

  module _ (ring : List ℕ) (u : Under n ring) where
    ends : (s : ℕ × ℕ) → In s (sides ring) → (s.0 < n) × (s.1 < n)
    ends s i = let e = side_ends ring s i in (u s.0 e.0, u s.1 e.1)

    inside_is : (c : ℕ) → c < n → whole.Inside p ring c ↔ Inside at ring c
    inside_is c hc = (
      (λ h a b i na nb. let e = ends (a, b) i in (left_is a b c e.0 e.1 hc).0 (seen_strictly p c (a, b) na nb (h (a, b) i))),
      (λ h s i. let e = ends s i in sees s.0 s.1 (ℕ_discrete c s.0) (ℕ_discrete c s.1) (λ na nb. (left_is s.0 s.1 c e.0 e.1 hc).1 (h s.0 s.1 i na nb))),
    )
      where
        sees : (a b : ℕ) → Dec (c ≡ a) → Dec (c ≡ b) → (c ≢ a → c ≢ b → whole.Left (p a) (p b) (p c)) → whole.Sees p c (a, b)
        sees a b (yes e) d h = inl e
        sees a b (no na) (yes e) h = inr (inl e)
        sees a b (no na) (no nb) h = inr (inr (h na nb))

    pub convex_is : whole.Convex p ring ↔ Convex at ring
    convex_is = (
      (λ h a b c i j na nb. (inside_is c (u c j)).0 (h c j) a b i na nb),
      (λ h c j. (inside_is c (u c j)).1 (λ a b i na nb. h a b c i j na nb)),
    )

    all_left_is : (c : ℕ) → c < n → whole.AllLeft p (p c) (sides ring) ↔ AllLeft at ring c
    all_left_is c hc = (
      (λ h s i. let e = ends s i in (left_is s.0 s.1 c e.0 e.1 hc).0 (all_in (whole.LeftOf p (p c)) (sides ring) h s i)),
      (λ h. all_from_in (whole.LeftOf p (p c)) (sides ring) (λ s i. let e = ends s i in (left_is s.0 s.1 c e.0 e.1 hc).1 (h s i))),
    )

    beyond_is : (c : ℕ) → c < n → (x y : ℤ) → whole.Beyond p x y (p c) ring ↔ Beyond at ring x y (at c)
    beyond_is c hc x y = (
      (λ h d i. (reaches d (u d i)).1 (all_in _ ring h d i)),
      (λ h. all_from_in _ ring (λ d i. (reaches d (u d i)).0 (h d i))),
    )
      where
        reaches : (d : ℕ) (hd : d < n) → Less (reach x y (at d)) (reach x y (at c)) ↔ (whole.whole_reach x y (p d) <ℤ whole.whole_reach x y (p c))
        reaches d hd = reach_scales (common at n) x y (at d) (at c) (p d) (p c) (common_some at n) (scaled_is at n d hd) (scaled_is at n c hc)

    -- ---- directions
    pub inside_within : (c : ℕ) → c < n → ring ≢ [] → Inside at ring c → Within at ring (at c)
    inside_within c hc some h x y b = by ring some ((inside_is c hc).1 h) ((beyond_is c hc x y).1 b)
      where
        by : (l : List ℕ) → l ≢ [] → whole.Inside p l c → whole.Beyond p x y (p c) l → ⊥
        by [] ne i f = ne refl
        by (a ∷ l) ne i f = inside_is_not_beyond p x y c a l i f

    pub right_out : (c : ℕ) → c < n → Convex at ring → (s : ℕ × ℕ) → In s (sides ring) → RightOf at s c → Out at ring (at c)
    right_out c hc h s i r =
        let e = ends s i in
        let o = outside p ring (convex_is.1 h) s.0 s.1 i (p c) ((right_is s.0 s.1 c e.0 e.1 hc).1 r) in
        (o.0, o.1, (beyond_is c hc o.0 o.1).0 o.2)

    -- ---- all sides decided and one right: one unbroken run of right sides
    pub one_run_is : (k : ℕ) → k < n → Convex at ring → Distinct ring → ((s : ℕ × ℕ) → In s (sides ring) → LeftOf at s k ⊎ RightOf at s k) → (s : ℕ × ℕ) → In s (sides ring) → RightOf at s k → Run at ring k
    one_run_is k hk h d decided s i r =
        elim (one_run p (p k) ring (convex_is.1 h) d (all_from_in (whole.Decided p (p k)) (sides ring) (λ t j. let e = ends t j in ⊎_elim (λ l. inl ((left_is t.0 t.1 k e.0 e.1 hk).1 l)) (λ q. inr ((right_is t.0 t.1 k e.0 e.1 hk).1 q)) (decided t j)))) [
          | inl l ↦ let e = ends s i in absurd (not_left_and_right p (p k) s (all_in (whole.LeftOf p (p k)) (sides ring) l s i) ((right_is s.0 s.1 k e.0 e.1 hk).1 r))
          | inr t ↦ record {
            a = t.a;
            removed = t.removed;
            b = t.b;
            rest = t.rest;
            rotated = t.rotated;
            rights = λ q j. let e = ends q (of_run t q j) in (right_is q.0 q.1 k e.0 e.1 hk).0 (all_in (whole.RightOf p (p k)) (steps t.a t.removed t.b) t.rights q j);
            lefts = λ q j. let e = ends q (of_rest t q j) in (left_is q.0 q.1 k e.0 e.1 hk).0 (all_in (whole.LeftOf p (p k)) (steps t.b t.rest t.a) t.lefts q j);
          }
        ]
      where
        of_run : (t : whole.Run p (p k) ring) (q : ℕ × ℕ) → In q (steps t.a t.removed t.b) → In q (sides ring)
        of_run t q j = rotated_sides t.rotated q (rw (steps_append t.a t.removed t.b t.rest t.a) (in_left q (steps t.a t.removed t.b) (steps t.b t.rest t.a) j))

        of_rest : (t : whole.Run p (p k) ring) (q : ℕ × ℕ) → In q (steps t.b t.rest t.a) → In q (sides ring)
        of_rest t q j = rotated_sides t.rotated q (rw (steps_append t.a t.removed t.b t.rest t.a) (in_right q (steps t.a t.removed t.b) (steps t.b t.rest t.a) j))

-- ---- the ring grows by k
module _ (at : ℕ → Point) (n : ℕ) (ring : List ℕ) (u : Under n ring) (h : Convex at ring) (k : ℕ) (hk : k < n) (a b : ℕ) (removed rest : List ℕ) (rotated : Rotated ring (a ∷ (removed ++ b ∷ rest)))
    (rights : (s : ℕ × ℕ) → In s (steps a removed b) → RightOf at s k) (lefts : (s : ℕ × ℕ) → In s (steps b rest a) → LeftOf at s k) where
  abbrev from_a : List ℕ
  from_a = a ∷ (removed ++ b ∷ rest)

  abbrev grown : List ℕ
  grown = a ∷ k ∷ b ∷ rest

  under_a : Under n from_a
  under_a c i = u c ((rotated_in rotated c).1 i)

  under_grown : Under n grown
  under_grown c (inl e) = rw e (under_a a (inl refl))
  under_grown c (inr (inl e)) = rw e hk
  under_grown c (inr (inr i)) = under_a c (inr (in_right c removed (b ∷ rest) i))

  side : (s : ℕ × ℕ) → In s (steps a removed b) ⊎ In s (steps b rest a) → (s.0 < n) × (s.1 < n)
  side s i = ends at n from_a under_a s (rw (steps_append a removed b rest a) (⊎_elim (in_left s (steps a removed b) (steps b rest a)) (in_right s (steps a removed b) (steps b rest a)) i))

  all_right : whole.AllRight (p at n) (p at n k) (steps a removed b)
  all_right = all_from_in (whole.RightOf (p at n) (p at n k)) (steps a removed b) (λ s i. let e = side s (inl i) in (right_is at n s.0 s.1 k e.0 e.1 hk).1 (rights s i))

  steps_all_left : whole.AllLeft (p at n) (p at n k) (steps b rest a)
  steps_all_left = all_from_in (whole.LeftOf (p at n) (p at n k)) (steps b rest a) (λ s i. let e = side s (inr i) in (left_is at n s.0 s.1 k e.0 e.1 hk).1 (lefts s i))

  convex_a : whole.Convex (p at n) from_a
  convex_a = (convex_is at n from_a under_a).1 (convex_turns at rotated h)

  pub convex_grows : Convex at grown
  convex_grows = (convex_is at n grown under_grown).0 (ring_grows (p at n) k a b removed rest convex_a all_right steps_all_left)

  pub inside_grows : (c : ℕ) → c < n → Inside at ring c → Inside at grown c
  inside_grows c hc i = (inside_is at n grown under_grown c hc).0 (inside_stays (p at n) k a b removed rest convex_a all_right steps_all_left c ((inside_is at n from_a under_a c hc).1 (inside_turns at rotated c i)))

  pub all_left_grows : (c : ℕ) → c < n → AllLeft at ring c → AllLeft at grown c
  all_left_grows c hc i = (all_left_is at n grown under_grown c hc).0 (left_stays (p at n) k a b removed rest convex_a all_right steps_all_left (p at n c) ((all_left_is at n from_a under_a c hc).1 (all_left_turns at rotated c i)))

-- ---- the first ring
pub triangle : (at : ℕ → Point) (a b c : ℕ) → LeftOf at (a, b) c → Convex at (a ∷ b ∷ c ∷ [])
triangle at a b c l =
    let n = suc (a + b + c) in
    let ha : a < n = omega arith in
    let hb : b < n = omega arith in
    let hc : c < n = omega arith in
    (convex_is at n (a ∷ b ∷ c ∷ []) (λ i j. under i n ha hb hc j)).0 (triangle_is_convex (p at n) a b c ((left_is at n a b c ha hb hc).1 l))
  where
    under : (i n : ℕ) → a < n → b < n → c < n → In i (a ∷ b ∷ c ∷ []) → i < n
    under i n ha hb hc (inl e) = rw e ha
    under i n ha hb hc (inr (inl e)) = rw e hb
    under i n ha hb hc (inr (inr (inl e))) = rw e hc
    under i n ha hb hc (inr (inr (inr j))) = absurd j

-- three readings that are clockwise are counterclockwise with the last two exchanged
pub counterclockwise : (at : ℕ → Point) (a b c : ℕ) → RightOf at (a, b) c → LeftOf at (a, c) b
counterclockwise at a b c r =
    let n = suc (a + b + c) in
    let ha : a < n = omega arith in
    let hb : b < n = omega arith in
    let hc : c < n = omega arith in
    (left_is at n a c b ha hc hb).0 (cycled (p at n b) (p at n a) (p at n c) (exchanged (p at n a) (p at n b) (p at n c) ((right_is at n a b c ha hb hc).1 r)))
