-- A point off the lines of a convex ring's sides is left of all of them, or right of one unbroken run.
use Rattle.std.proofs.Common.{◌≡◌, ℕ, ◌⊎◌, List, [], ◌∷◌, ◌++◌, ℤ, pos, ◌+ℤ◌, neg_ℤ, ◌≤ℤ◌, ◌<ℤ◌, sym, refl, ap, inl, inr, ⊎_elim, append-nil, arith}
use borrow.Author.Differences.{ints}
use Rattle.std.specs.List.{AllByRecursion}
use Rattle.plane.specs.Whole.{WholePoint}
use Rattle.plane.specs.Rings.{steps, sides, In}
use Rattle.plane.proofs.Polygons.{Left, LeftOf, RightOf, Decided, AllLeft, AllRight, Sees, Convex, Distinct, Rotated, Run}
use Rattle.plane.proofs.Areas.{area_exchange, area_split}
use Rattle.plane.proofs.Members.{all_in, all_from_in, in_left, in_right, distinct_turns}
use Rattle.plane.proofs.Ways.{first_step, side_ends, sides_turn, steps_append}
use Rattle.plane.proofs.Turning.{ring_turns}
use Rattle.plane.proofs.LeftRight.{cycled, exchanged, never_both, not_left_and_right, seen_not_right}
use Rattle.plane.proofs.Tangents.{start}

-- among the sides ss two meet in a, the first with q on the left and the second with q on the right
record Start (p : ℕ → WholePoint) (q : WholePoint) (ss : List (ℕ × ℕ)) (a : ℕ) : Type 0 where
  before : ℕ
  after : ℕ
  comes : In (before, a) ss
  goes : In (a, after) ss
  left : LeftOf p q (before, a)
  right : RightOf p q (a, after)

-- a way whose every step is decided: all left, all right, a change from left to right in it, or first right and then left
data Kind (p : ℕ → WholePoint) (q : WholePoint) (x z : ℕ) : List ℕ → Type 0 where
  lefts : {l : List ℕ} → AllLeft p q (steps x l z) → Kind p q x z l
  rights : {l : List ℕ} → AllRight p q (steps x l z) → Kind p q x z l
  starts : (l : List ℕ) (a : ℕ) (m : List ℕ) → Start p q (steps x (l ++ a ∷ m) z) a → Kind p q x z (l ++ a ∷ m)
  run : (l : List ℕ) (b : ℕ) (m : List ℕ) → AllRight p q (steps x l b) → AllLeft p q (steps b m z) → Kind p q x z (l ++ b ∷ m)

module _ (p : ℕ → WholePoint) (q : WholePoint) where
  -- ---- no convex ring has q on the right of all sides
  closes : (x y : ℕ) (l : List ℕ) → AllRight p q (steps y l x) → ((s : ℕ × ℕ) → In s (steps y l x) → Sees p x s) → RightOf p q (y, x)
  closes x y [] h f = h.0
  closes x y (z ∷ l) h f =
      letters _ _ _ _ _ (area_split (p y) (p z) (p x) q) (area_exchange (p y) (p x) q) h.0 (closes x z l h.1 (λ s i. f s (inr i))) (seen_not_right p x (y, z) (f (y, z) (inl refl)))
    where
      letters : (yz zx xy yx yzx : ℤ) → yz +ℤ zx +ℤ xy ≡ yzx → xy ≡ neg_ℤ yx → yz <ℤ pos 0 → zx <ℤ pos 0 → pos 0 ≤ℤ yzx → yx <ℤ pos 0
      letters yz zx xy yx yzx e f h k l = omega (arith, ints)

  pub not_all_right : (x : ℕ) (l : List ℕ) → Convex p (x ∷ l) → AllRight p q (sides (x ∷ l)) → ⊥
  not_all_right x l h r = let f = exchanged (p x) (p x) q (closes x x l r (h x (inl refl))) in never_both (p x) (p x) q f f

  -- ---- a run starts at one corner only
  clear : (ring : List ℕ) → Convex p ring → (a c : ℕ) → Start p q (sides ring) a → Start p q (sides ring) c → (c ≡ a) ⊎ Left (p a) q (p c)
  clear ring h a c s t = start p q (p c) (λ x. c ≡ x) (λ x e. ap p e) s.before a s.after s.left s.right
      (h _ (side_ends ring _ s.goes).1 _ s.comes) (h c corner _ s.comes) (h c corner _ s.goes)
    where
      corner : In c ring
      corner = (side_ends ring _ t.goes).0

  one_start : (ring : List ℕ) → Convex p ring → (a c : ℕ) → Start p q (sides ring) a → Start p q (sides ring) c → a ≡ c
  one_start ring h a c s t = by (clear ring h a c s t) (clear ring h c a t s)
    where
      by : (c ≡ a) ⊎ Left (p a) q (p c) → (a ≡ c) ⊎ Left (p c) q (p a) → a ≡ c
      by (inl e) k = sym e
      by (inr l) (inl e) = e
      by (inr l) (inr m) = absurd (never_both (p a) q (p c) l (cycled (p c) q (p a) m))

  -- ---- the kind of a way
  moved : {ss ts : List (ℕ × ℕ)} {a : ℕ} → ((s : ℕ × ℕ) → In s ss → In s ts) → Start p q ss a → Start p q ts a
  moved f s = record { before = s.before; after = s.after; comes = f _ s.comes; goes = f _ s.goes; left = s.left; right = s.right }

  change : (x y n z : ℕ) (l : List ℕ) → LeftOf p q (x, y) → In (y, n) (steps y l z) → RightOf p q (y, n) → Kind p q x z (y ∷ l)
  change x y n z l d i r = starts [] y l (record { before = x; after = n; comes = inl refl; goes = inr i; left = d; right = r })

  more : (x y z : ℕ) {l : List ℕ} → Decided p q (x, y) → Kind p q y z l → Kind p q x z (y ∷ l)
  more x y z (inl d) (lefts h) = lefts (d, h)
  more x y z (inl d) (rights {l = l} h) = let (n, i) = first_step y l z in change x y n z l d i (all_in (RightOf p q) (steps y l z) h (y, n) i)
  more x y z (inl d) (starts l a m s) = starts (y ∷ l) a m (moved (λ t i. inr i) s)
  more x y z (inl d) (run l b m f g) =
      let (n, i) = first_step y l b in change x y n z (l ++ b ∷ m) d (rw steps_append (in_left (y, n) (steps y l b) (steps b m z) i)) (all_in (RightOf p q) (steps y l b) f (y, n) i)
  more x y z (inr d) (lefts {l = l} h) = run [] y l (d, tt) h
  more x y z (inr d) (rights h) = rights (d, h)
  more x y z (inr d) (starts l a m s) = starts (y ∷ l) a m (moved (λ t i. inr i) s)
  more x y z (inr d) (run l b m f g) = run (y ∷ l) b m (d, f) g

  kind : (x z : ℕ) (l : List ℕ) → AllByRecursion (Decided p q) (steps x l z) → Kind p q x z l
  kind x z [] h = ⊎_elim (λ d. lefts (d, tt)) (λ d. rights (d, tt)) h.0
  kind x z (y ∷ l) h = more x y z h.0 (kind y z l h.1)

  -- ---- the one run
  from_start : (ring : List ℕ) (a : ℕ) {l : List ℕ} → Rotated ring (a ∷ l) → Convex p (a ∷ l) → Distinct (a ∷ l) → Start p q (steps a l a) a → Kind p q a a l → Run p q ring
  from_start ring a t h d s (lefts {l = l} f) = absurd (not_left_and_right p q _ (all_in (LeftOf p q) (steps a l a) f _ s.goes) s.right)
  from_start ring a t h d s (rights {l = l} f) = absurd (not_left_and_right p q _ s.left (all_in (RightOf p q) (steps a l a) f _ s.comes))
  from_start ring a t h d s (starts l c m s') = absurd (d.0 (in_right a l (c ∷ m) (inl (one_start (a ∷ (l ++ c ∷ m)) h a c s s'))))
  from_start ring a t h d s (run l b m f g) = record { a = a; removed = l; b = b; rest = m; rotated = t; rights = f; lefts = g }

  by_kind : (x : ℕ) {l : List ℕ} → Convex p (x ∷ l) → Distinct (x ∷ l) → AllByRecursion (Decided p q) (steps x l x) → Kind p q x x l → AllLeft p q (steps x l x) ⊎ Run p q (x ∷ l)
  by_kind x h d c (lefts f) = inl f
  by_kind x h d c (rights {l = l} f) = absurd (not_all_right x l h f)
  by_kind x h d c (run l b m f g) = inr (record { a = x; removed = l; b = b; rest = m; rotated = record { front = []; back = x ∷ (l ++ b ∷ m); was = refl; is = sym (append-nil _) }; rights = f; lefts = g })
  by_kind x h d c (starts l a m s) = inr (from_start (x ∷ (l ++ a ∷ m)) a (record { front = x ∷ l; back = a ∷ m; was = refl; is = refl })
      (ring_turns p (x ∷ l) (a ∷ m) h) (distinct_turns (x ∷ l) (a ∷ m) d) (moved (sides_turn (x ∷ l) (a ∷ m)) s)
      (kind a a (m ++ x ∷ l) (all_from_in (Decided p q) (steps a (m ++ x ∷ l) a) (λ t i. all_in (Decided p q) (steps x (l ++ a ∷ m) x) c t (sides_turn (a ∷ m) (x ∷ l) t i)))))

  pub one_run : (ring : List ℕ) → Convex p ring → Distinct ring → AllByRecursion (Decided p q) (sides ring) → AllLeft p q (sides ring) ⊎ Run p q ring
  one_run [] h d c = inl tt
  one_run (x ∷ l) h d c = by_kind x h d c (kind x x l c)
