-- A chain of `iter`, `enumerate`, `skip` and `find_map`, as a search by recursion.
use Rattle.std.proofs.Common.{◌≡◌, ℕ, zero, suc, ◌+◌, ◌-◌, ◌<◌, ◌≤◌, true, List, [], ◌∷◌, length, drop, get_or, Some, None, Option, MatchOption, IsSomeAnd, IfSome, Bor, refl, sym, ap, subst, ◌∙◌, arith}
use Rattle.std.proofs.lemmas.List.{drop_all, at_drop_more}
use Rattle.std.specs.Option.{option_map}
use Rattle.std.specs.Fn.{Called}
use Rattle.std.specs.Iterator.Runs.{Run, ProjectsRun, IsSkipRun, ItemsMapTo, CallKeepsClosure, AllItemsGive, IsFirstToGive}
use denote.Param.Members.{Mut}
use Rattle.judge.specs.declared.word.Word.{Word}
use Rattle.rules.specs.Starting.{counterclockwise, or_next, third_from, second_from, first_from}

-- r is the first answer of `step` at a place from n on
abbrev pub First : {R T : Type 0} → (ℕ → R → Option T) → List R → ℕ → Option T → Type 0
First step xs n r = MatchOption r ((k : ℕ) (d : _) → n ≤ k → k < length xs → step k (get_or xs k d) ≡ None)
    (λ t. (j : ℕ) × (n ≤ j) × (j < length xs) × ((d : _) → step j (get_or xs j d) ≡ Some t) × ((k : ℕ) (d : _) → n ≤ k → k < j → step k (get_or xs k d) ≡ None))

one_of : {R : Type 0} (xs : List R) (n : ℕ) → n < length xs → R
one_of [] n h = absurd (omega arith)
one_of (x ∷ xs) n h = x

-- ---- the recursion, by places
module _ {R T : Type 0} (F : ℕ → List R → Option T) (step : ℕ → R → Option T) (xs : List R) (last : (n : ℕ) → F n [] ≡ None)
    (next : (n : ℕ) (d : R) → n < length xs → F n (drop n xs) ≡ or_next (step n (get_or xs n d)) (F (n + 1) (drop (n + 1) xs))) where
  on_none : (n : ℕ) (d : R) → n < length xs → step n (get_or xs n d) ≡ None → F n (drop n xs) ≡ F (n + 1) (drop (n + 1) xs)
  on_none n d h e = next n d h ∙ ap (λ o. or_next o (F (n + 1) (drop (n + 1) xs))) e

  nowhere : (m n : ℕ) → m + n ≡ length xs → ((k : ℕ) (d : R) → n ≤ k → k < length xs → step k (get_or xs k d) ≡ None) → F n (drop n xs) ≡ None
  nowhere zero n e none = ap (F n) (drop_all n xs (omega arith)) ∙ last n
  nowhere (suc m) n e none =
      let h : n < length xs = omega arith in
      let d = one_of xs n h in
      on_none n d h (none n d (omega arith) h) ∙ nowhere m (n + 1) (omega arith) (λ k d' l. none k d' (omega arith))

  somewhere : (t : T) (m n j : ℕ) → m + n ≡ j → j < length xs → ((d : R) → step j (get_or xs j d) ≡ Some t) → ((k : ℕ) (d : R) → n ≤ k → k < j → step k (get_or xs k d) ≡ None) → F n (drop n xs) ≡ Some t
  somewhere t zero n j e l hit none =
      let here : j ≡ n = omega arith in
      let h : n < length xs = omega arith in
      let d = one_of xs n h in
      next n d h ∙ ap (λ o. or_next o (F (n + 1) (drop (n + 1) xs))) (subst (λ i. step i (get_or xs i d) ≡ Some t) here (hit d))
  somewhere t (suc m) n j e l hit none =
      let h : n < length xs = omega arith in
      let d = one_of xs n h in
      on_none n d h (none n d (omega arith) (omega arith)) ∙ somewhere t m (n + 1) j (omega arith) l hit (λ k d' g. none k d' (omega arith))

  first_is : (n : ℕ) → n ≤ length xs → (r : Option T) → First step xs n r → r ≡ F n (drop n xs)
  first_is n h None none = sym (nowhere (length xs - n) n (omega arith) none)
  first_is n h (Some t) f = sym (somewhere t (f.0 - n) n f.0 (omega (arith, f.1)) f.2 f.3 f.4)

module _ {R : Type 0} (word : R → R → R → Word) where
  -- what each loop answers at a reading
  abbrev pub at_third : R → R → ℕ → ℕ → ℕ → R → Option (ℕ × ℕ × ℕ)
  at_third x y a b c z = counterclockwise (word x y z) a b c

  module _ (xs : List R) where
    abbrev pub at_second : R → ℕ → ℕ → R → Option (ℕ × ℕ × ℕ)
    at_second x a b y = third_from word x y a b (b + 1) (drop (b + 1) xs)

    abbrev pub at_first : ℕ → R → Option (ℕ × ℕ × ℕ)
    at_first a x = second_from word x a (a + 1) (drop (a + 1) xs)

    pub third_is : (x y : R) (a b : ℕ) (r : Option (ℕ × ℕ × ℕ)) → b < length xs → First (at_third x y a b) xs (b + 1) r → r ≡ third_from word x y a b (b + 1) (drop (b + 1) xs)
    third_is x y a b r h f = first_is (third_from word x y a b) (at_third x y a b) xs (λ n. refl) (λ n d l. at_drop_more (third_from word x y a b n) xs n d l) (b + 1) (omega arith) r f

    pub second_is : (x : R) (a : ℕ) (r : Option (ℕ × ℕ × ℕ)) → a < length xs → First (at_second x a) xs (a + 1) r → r ≡ second_from word x a (a + 1) (drop (a + 1) xs)
    second_is x a r h f = first_is (second_from word x a) (at_second x a) xs (λ n. refl) (λ n d l. at_drop_more (second_from word x a n) xs n d l) (a + 1) (omega arith) r f

    pub three_is : (r : Option (ℕ × ℕ × ℕ)) → First at_first xs 0 r → r ≡ first_from word 0 xs
    three_is r f = first_is (first_from word) at_first xs (λ n. refl) (λ n d l. at_drop_more (first_from word n) xs n d l) 0 (omega arith) r f

-- ---- the chain, by places
abbrev At : {R : Type 0} → ℕ → List R → ℕ × Bor R → Type 0
At m xs x = (x.0 ≡ m) × ((d : _) → x.1.now ≡ get_or xs m d)

-- the items of a run are the elements from number n on, each with its number
pub record Numbered {S R : Type 0} {steps : S → Option (ℕ × Bor R) → S → Type 0} (p : Run steps) (n : ℕ) (xs : List R) : Type 0 where
  pub within : p.len ≤ length xs - n
  pub ends : p.whole ≡ true → p.len ≡ length xs - n
  pub item : (k : ℕ) → IfSome (p.at k) (At (n + k) xs)

both : {R : Type 0} (m : ℕ) (xs : List R) (o : Option (ℕ × Bor R)) → IfSome o (λ x. x.0 ≡ m) → IfSome (option_map (λ x. x.1) o) (λ y. (d : R) → y.now ≡ get_or xs m d) → IfSome o (At m xs)
both m xs None h i = tt
both m xs (Some x) h i = (h, i)

pub from_enumerate : {S I R : Type 0} {steps : S → Option (ℕ × Bor R) → S → Type 0} {source : I → Option (Bor R) → I → Type 0} (p : Run steps) (q : Run source) (xs : List R)
    → ((k : ℕ) → IfSome (p.at k) (λ x. x.0 ≡ k)) → ProjectsRun p q (λ x. x.1) × (q.whole ≡ p.whole) → ItemsMapTo q (λ y. y.now) xs → Numbered p 0 xs
from_enumerate p q xs c v i = record {
  within = omega (arith, v.0.0, i.0);
  ends = λ h. omega (arith, v.0.0, i.1 (v.1 ∙ h));
  item = λ k. let e : 0 + k ≡ k = omega arith in subst (λ m. IfSome (p.at k) (At m xs)) (sym e) (both k xs (p.at k) (c k) (subst (λ o. IfSome o (λ y. (d : _) → y.now ≡ get_or xs k d)) (v.0.2 k) (i.3 k)));
}

pub from_skip : {S E R : Type 0} {steps : S → Option (ℕ × Bor R) → S → Type 0} {source : E → Option (ℕ × Bor R) → E → Type 0} (p : Run steps) (q : Run source) (n : ℕ) (xs : List R) → IsSkipRun p q n → Numbered q 0 xs → Numbered p n xs
from_skip p q n xs s i = record {
  within = omega (arith, s.1, i.within);
  ends = λ h. omega (arith, s.1, i.ends (s.0 ∙ h));
  item = λ k. let e : 0 + (n + k) ≡ n + k = omega arith in subst (λ o. IfSome o (At (n + k) xs)) (sym (s.3 k)) (subst (λ m. IfSome (q.at (n + k)) (At m xs)) e (i.item (n + k)));
}

some_item : {A : Type 0} (P : A → Type 0) (o : Option A) (v : A) → option_map (λ y. y) o ≡ Some v → IfSome o P → IsSomeAnd o P
some_item P None v e h = let no : ◌≡◌ {A = ℕ} 0 1 = cc in absurd (omega arith)
some_item P (Some x) v e h = h

module _ {S R T F : Type 0} {steps : S → Option (ℕ × Bor R) → S → Type 0} (p : Run steps) (n : ℕ) (xs : List R) (numbers : Numbered p n xs) (g : Mut F ((ℕ × Bor R) × Unit {0}) (Option T)) (f : F) (step : ℕ → R → Option T)
    (keeps : CallKeepsClosure g f) (means : (x : ℕ × Bor R) (o : Option T) → Called g f (x, tt) o f → o ≡ step x.0 x.1.now) where
  answered : (v : Option T) (m : ℕ) (o : Option (ℕ × Bor R)) → IsSomeAnd o (λ x. Called g f (x, tt) v f) → IfSome o (At m xs) → (d : R) → step m (get_or xs m d) ≡ v
  answered v m None h i d = absurd h
  answered v m (Some x) h i d = sym (means x v h ∙ ap (λ k. step k x.1.now) i.0 ∙ ap (step m) (i.1 d))

  answered_at : (v : Option T) (k : ℕ) (d : R) → n ≤ k → IsSomeAnd (p.at (k - n)) (λ x. Called g f (x, tt) v f) → step k (get_or xs k d) ≡ v
  answered_at v k d l h = let e : n + (k - n) ≡ k = omega arith in subst (λ m. step m (get_or xs m d) ≡ v) e (answered v (n + (k - n)) (p.at (k - n)) h (numbers.item (k - n)) d)

  pub first_found : (r : Option T) → MatchOption r ((p.whole ≡ true) × AllItemsGive p g f None) (λ y. (i : ℕ) × (i < p.len) × (p.len ≡ i + 1) × IsFirstToGive p g f (Some y) None i) → First step xs n r
  first_found None h = λ k d l m.
      let i : k - n < p.len = omega (arith, numbers.ends h.0) in
      let j : k - n < length p.items = omega (arith, i, p.long) in
      let v = one_of p.items (k - n) j in
      answered_at None k d l (some_item (λ x. Called g f (x, tt) None f) (p.at (k - n)) _ (p.reads (k - n) v i) (h.1 keeps (k - n)))
  first_found (Some t) (i, l, e, h) =
      let a = h keeps in (
        n + i,
        omega arith,
        omega (arith, numbers.within),
        λ d. answered_at (Some t) (n + i) d (omega arith) (let e : n + i - n ≡ i = omega arith in subst (λ k. IsSomeAnd (p.at k) (λ x. Called g f (x, tt) (Some t) f)) (sym e) a.0),
        λ k d m o. answered_at None k d m (a.1 (k - n) (omega arith)),
      )
