-- A ring read from its lowest number begins with it.
use Rattle.std.proofs.Common.{◌≡◌, ℕ, suc, ◌+◌, ◌<◌, ◌≤◌, Bool, true, false, cond, not, ◌&&◌, T, ltb, ◌≢◌, List, [], ◌∷◌, ◌++◌, length, sym, refl, ap, ◌∙◌, subst, inl, inr, ⊎_elim, arith, ltb→lt, nltb→le}
use lib.Seq.{drop-append_seam, take-append_seam}
use Rattle.plane.specs.Rings.{In}
use Rattle.plane.proofs.Polygons.{Distinct}
use Rattle.plane.proofs.Members.{in_either, in_right}
use Rattle.rules.specs.Placing.{turned, below_all, lowest_at, from_lowest}
use Rattle.rules.specs.Promise.{Lowest}

below_each : (a : ℕ) (l : List ℕ) → below_all a l ≡ true → (i : ℕ) → In i l → a < i
below_each a [] h i j = absurd j
below_each a (b ∷ l) h i j = by (ltb a b) refl h (λ h k. below_each a l h i k) j
  where
    by : (t : Bool) → ltb a b ≡ t → (t && below_all a l) ≡ true → (below_all a l ≡ true → In i l → a < i) → In i (b ∷ l) → a < i
    by true q h rec (inl e) = rw e (ltb→lt a b (subst T (sym q) tt))
    by true q h rec (inr k) = rec h k
    by false q h rec k = let z : ◌≡◌ {A = ℕ} 0 1 = cc in absurd (omega arith)

not_below : (a : ℕ) (l : List ℕ) → below_all a l ≡ false → (x : ℕ) × In x l × (x ≤ a)
not_below a [] h = let z : ◌≡◌ {A = ℕ} 0 1 = cc in absurd (omega arith)
not_below a (b ∷ l) h = by (ltb a b) refl h (not_below a l)
  where
    by : (t : Bool) → ltb a b ≡ t → (t && below_all a l) ≡ false → (below_all a l ≡ false → (x : ℕ) × In x l × (x ≤ a)) → (x : ℕ) × In x (b ∷ l) × (x ≤ a)
    by true q h rec = let r = rec h in (r.0, inr r.1, r.2)
    by false q h rec = (b, inl refl, nltb→le a b (subst (λ t. T (not t)) (sym q) tt))

-- the lowest number, where it stands, and that all others are above it
record Least (l : List ℕ) : Type 0 where
  m : ℕ
  front : List ℕ
  back : List ℕ
  is : l ≡ front ++ m ∷ back
  at : lowest_at l ≡ length front
  before : (i : ℕ) → In i front → m < i
  after : (i : ℕ) → In i back → m < i

-- of a list that begins with a, from that of the rest
one_more : (a : ℕ) (l : List ℕ) → (In a l → ⊥) → below_all a l ≡ false → Least l → Least (a ∷ l)
one_more a l new h t = record {
  m = t.m;
  front = a ∷ t.front;
  back = t.back;
  is = ap (λ k. a ∷ k) t.is;
  at = ap (λ b. cond b 0 (1 + lowest_at l)) h ∙ suc_of (lowest_at l) (length t.front) t.at;
  before = in_front;
  after = t.after;
}
  where
    suc_of : (x y : ℕ) → x ≡ y → 1 + x ≡ suc y
    suc_of x y e = omega arith

    in_l : In t.m l
    in_l = rw t.is (in_right t.m t.front (t.m ∷ t.back) (inl refl))

    above : (x : ℕ) → In x (t.front ++ t.m ∷ t.back) → t.m ≤ x
    above x i = elim (in_either x t.front (t.m ∷ t.back) i) [ inl j ↦ omega (arith, t.before x j) | inr j ↦ rest j ]
      where
        rest : In x (t.m ∷ t.back) → t.m ≤ x
        rest (inl e) = omega arith
        rest (inr k) = omega (arith, t.after x k)

    under_a : t.m < a
    under_a =
        let r = not_below a l h in
        let le : t.m ≤ r.0 = above r.0 (subst (In r.0) t.is r.1) in
        let ne : t.m ≢ a = λ e. new (subst (λ c. In c l) e in_l) in
        omega (arith, r.2)

    in_front : (i : ℕ) → In i (a ∷ t.front) → t.m < i
    in_front i (inl e) = rw e under_a
    in_front i (inr j) = t.before i j

least : (a : ℕ) (l : List ℕ) → Distinct (a ∷ l) → Least (a ∷ l)
least a [] d = record { m = a; front = []; back = []; is = refl; at = refl; before = λ i j. absurd j; after = λ i j. absurd j }
least a (b ∷ l) d = by (below_all a (b ∷ l)) refl (least b l d.1)
  where
    by : (t : Bool) → below_all a (b ∷ l) ≡ t → Least (b ∷ l) → Least (a ∷ b ∷ l)
    by true h rec = record { m = a; front = []; back = b ∷ l; is = refl; at = ap (λ t. cond t 0 (1 + lowest_at (b ∷ l))) h; before = λ i j. absurd j; after = below_each a (b ∷ l) h }
    by false h rec = one_more a (b ∷ l) d.0 h rec

pub lowest_first : (l : List ℕ) → Distinct l → Lowest (from_lowest l)
lowest_first [] d = tt
lowest_first (a ∷ l) d =
    let t = least a l d in
    subst Lowest (sym (ap (λ p. turned p (a ∷ l)) t.at ∙ ap (turned (length t.front)) t.is ∙ (λ i. drop-append_seam t.front (t.m ∷ t.back) i ++ take-append_seam t.front (t.m ∷ t.back) i)))
    (λ i j. ⊎_elim (t.after i) (t.before i) (in_either i t.back t.front j))
