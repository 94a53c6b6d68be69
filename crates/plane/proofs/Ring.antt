-- A solver for identities of whole numbers: an expression, its normal form (a sorted list of monomials with their coefficients),
-- and the proof that both have the same value. `ring vs l r tt` proves `ev (at vs) l ≡ ev (at vs) r` where the difference's normal form is empty.
use Rattle.std.proofs.Common.{◌≡◌, ℕ, zero, suc, Bool, true, false, cond, ◌&&◌, ◌||◌, T, eqb, ltb, leb, List, [], ◌∷◌, ℤ, pos, negsuc, ◌+ℤ◌, ◌-ℤ◌, ◌*ℤ◌, neg_ℤ, sym, refl, ap, ◌∙◌, arith, eqb→eq}
use lib.IntN.{*ℤ_comm, zero-*ℤ, *ℤ-zero, +ℤ_idl, +ℤ_idr}
use borrow.Author.Differences.{ints}
use Rattle.plane.proofs.Integers.{*ℤ-+ℤ, +ℤ-*ℤ, *ℤ_assoc}

infixl 6 ◌⊕◌ ◌⊖◌
infixl 7 ◌⊗◌
pub data Ex : Type 0 where
  var : ℕ → Ex
  num : ℤ → Ex
  minus : Ex → Ex
  ◌⊕◌ : Ex → Ex → Ex
  ◌⊖◌ : Ex → Ex → Ex
  ◌⊗◌ : Ex → Ex → Ex

-- the value at a variable of that number
abbrev pub at : List ℤ → ℕ → ℤ
at [] n = pos 0
at (v ∷ vs) zero = v
at (v ∷ vs) (suc n) = at vs n

abbrev pub ev : (ℕ → ℤ) → Ex → ℤ
ev ρ (var n) = ρ n
ev ρ (num k) = k
ev ρ (minus a) = neg_ℤ (ev ρ a)
ev ρ (a ⊕ b) = ev ρ a +ℤ ev ρ b
ev ρ (a ⊖ b) = ev ρ a -ℤ ev ρ b
ev ρ (a ⊗ b) = ev ρ a *ℤ ev ρ b

-- ---- normal forms
pub data Po : Type 0 where
  nil : Po
  term : ℤ → List ℕ → Po → Po

abbrev pub ev_m : (ℕ → ℤ) → List ℕ → ℤ
ev_m ρ [] = pos 1
ev_m ρ (v ∷ m) = ρ v *ℤ ev_m ρ m

abbrev pub ev_p : (ℕ → ℤ) → Po → ℤ
ev_p ρ nil = pos 0
ev_p ρ (term k m p) = k *ℤ ev_m ρ m +ℤ ev_p ρ p

abbrev pub same : List ℕ → List ℕ → Bool
same [] [] = true
same [] (y ∷ ys) = false
same (x ∷ xs) [] = false
same (x ∷ xs) (y ∷ ys) = eqb x y && same xs ys

abbrev pub below : List ℕ → List ℕ → Bool
below [] [] = false
below [] (y ∷ ys) = true
below (x ∷ xs) [] = false
below (x ∷ xs) (y ∷ ys) = ltb x y || (eqb x y && below xs ys)

abbrev pub put : ℕ → List ℕ → List ℕ
put v [] = v ∷ []
put v (w ∷ m) = cond (leb v w) (v ∷ w ∷ m) (w ∷ put v m)

abbrev pub join : List ℕ → List ℕ → List ℕ
join [] n = n
join (v ∷ m) n = put v (join m n)

abbrev pub some_of : ℤ → List ℕ → Po → Po
some_of (pos zero) m p = p
some_of (pos (suc k)) m p = term (pos (suc k)) m p
some_of (negsuc k) m p = term (negsuc k) m p

abbrev pub add1 : ℤ → List ℕ → Po → Po
add1 k m nil = some_of k m nil
add1 k m (term j n p) = let r = add1 k m p in let s = some_of (k +ℤ j) n p in cond (same m n) s (cond (below m n) (term k m (term j n p)) (term j n r))

abbrev pub onto : ℤ → List ℕ → Po → Po → Po
onto k m nil acc = acc
onto k m (term j n q) acc = add1 (k *ℤ j) (join m n) (onto k m q acc)

abbrev pub mul : Po → Po → Po
mul nil q = nil
mul (term k m p) q = onto k m q (mul p q)

abbrev pub norm : Ex → Po
norm (var v) = term (pos 1) (v ∷ []) nil
norm (num k) = some_of k [] nil
norm (minus a) = onto (negsuc 0) [] (norm a) nil
norm (a ⊕ b) = onto (pos 1) [] (norm a) (norm b)
norm (a ⊖ b) = onto (negsuc 0) [] (norm b) (norm a)
norm (a ⊗ b) = mul (norm a) (norm b)

abbrev pub empty : Po → Bool
empty nil = true
empty (term k m p) = false

-- ---- the laws that the steps use
one_l : (z : ℤ) → pos 1 *ℤ z ≡ z
one_l z = omega (arith, ints)

minus_l : (z : ℤ) → negsuc 0 *ℤ z ≡ neg_ℤ z
minus_l z = omega (arith, ints)

left_comm : (a b c : ℤ) → a *ℤ (b *ℤ c) ≡ b *ℤ (a *ℤ c)
left_comm a b c = sym (*ℤ_assoc a b c) ∙ ap (λ (z : ℤ). z *ℤ c) (*ℤ_comm a b) ∙ *ℤ_assoc b a c

past : (a b c : ℤ) → a +ℤ (b +ℤ c) ≡ b +ℤ (a +ℤ c)
past a b c = omega (arith, ints)

group : (a b c : ℤ) → (a +ℤ b) +ℤ c ≡ a +ℤ (b +ℤ c)
group a b c = omega (arith, ints)

swap : (a b c d : ℤ) → (a *ℤ b) *ℤ (c *ℤ d) ≡ (a *ℤ c) *ℤ (b *ℤ d)
swap a b c d = *ℤ_assoc a b (c *ℤ d) ∙ ap (λ (z : ℤ). a *ℤ z) (left_comm b c d) ∙ sym (*ℤ_assoc a c (b *ℤ d))

module _ (ρ : ℕ → ℤ) where
  same_is : (m n : List ℕ) → T (same m n) → m ≡ n
  same_is [] [] t = refl
  same_is [] (y ∷ ys) t = absurd t
  same_is (x ∷ xs) [] t = absurd t
  same_is (x ∷ xs) (y ∷ ys) t = both (eqb x y) (λ u. eqb→eq x y u) (λ u. same_is xs ys u) t
    where
      both : (b : Bool) → (T b → x ≡ y) → (T (same xs ys) → xs ≡ ys) → T (b && same xs ys) → x ∷ xs ≡ y ∷ ys
      both true p q t = λ i. p tt i ∷ q t i
      both false p q t = absurd t

  put_step : (b : Bool) (x y : List ℕ) (z : ℤ) → ev_m ρ x ≡ z → ev_m ρ y ≡ z → ev_m ρ (cond b x y) ≡ z
  put_step true x y z p q = p
  put_step false x y z p q = q

  put_is : (v : ℕ) (m : List ℕ) → ev_m ρ (put v m) ≡ ρ v *ℤ ev_m ρ m
  put_is v [] = refl
  put_is v (w ∷ m) = put_step (leb v w) (v ∷ w ∷ m) (w ∷ put v m) (ρ v *ℤ (ρ w *ℤ ev_m ρ m)) refl
      (ap (λ (z : ℤ). ρ w *ℤ z) (put_is v m) ∙ left_comm (ρ w) (ρ v) (ev_m ρ m))

  join_is : (m n : List ℕ) → ev_m ρ (join m n) ≡ ev_m ρ m *ℤ ev_m ρ n
  join_is [] n = sym (one_l (ev_m ρ n))
  join_is (v ∷ m) n = put_is v (join m n) ∙ ap (λ (z : ℤ). ρ v *ℤ z) (join_is m n) ∙ sym (*ℤ_assoc (ρ v) (ev_m ρ m) (ev_m ρ n))

  some_is : (k : ℤ) (m : List ℕ) (p : Po) → ev_p ρ (some_of k m p) ≡ k *ℤ ev_m ρ m +ℤ ev_p ρ p
  some_is (pos zero) m p = sym (ap (λ (z : ℤ). z +ℤ ev_p ρ p) (zero-*ℤ (ev_m ρ m)) ∙ +ℤ_idl (ev_p ρ p))
  some_is (pos (suc k)) m p = refl
  some_is (negsuc k) m p = refl

  three : (b c : Bool) (x y z : Po) (t : ℤ) → (T b → ev_p ρ x ≡ t) → ev_p ρ y ≡ t → ev_p ρ z ≡ t → ev_p ρ (cond b x (cond c y z)) ≡ t
  three true c x y z t p q r = p tt
  three false true x y z t p q r = q
  three false false x y z t p q r = r

  add1_is : (k : ℤ) (m : List ℕ) (p : Po) → ev_p ρ (add1 k m p) ≡ k *ℤ ev_m ρ m +ℤ ev_p ρ p
  add1_is k m nil = some_is k m nil
  add1_is k m (term j n p) = three (same m n) (below m n) (some_of (k +ℤ j) n p) (term k m (term j n p)) (term j n (add1 k m p)) (k *ℤ ev_m ρ m +ℤ (j *ℤ ev_m ρ n +ℤ ev_p ρ p))
      (λ t. some_is (k +ℤ j) n p ∙ ap (λ (z : ℤ). z +ℤ ev_p ρ p) (+ℤ-*ℤ k j (ev_m ρ n)) ∙ group (k *ℤ ev_m ρ n) (j *ℤ ev_m ρ n) (ev_p ρ p)
      ∙ ap (λ (l : List ℕ). k *ℤ ev_m ρ l +ℤ (j *ℤ ev_m ρ n +ℤ ev_p ρ p)) (sym (same_is m n t)))
      refl
      (ap (λ (z : ℤ). j *ℤ ev_m ρ n +ℤ z) (add1_is k m p) ∙ past (j *ℤ ev_m ρ n) (k *ℤ ev_m ρ m) (ev_p ρ p))

  onto_is : (k : ℤ) (m : List ℕ) (q acc : Po) → ev_p ρ (onto k m q acc) ≡ (k *ℤ ev_m ρ m) *ℤ ev_p ρ q +ℤ ev_p ρ acc
  onto_is k m nil acc = sym (ap (λ (z : ℤ). z +ℤ ev_p ρ acc) (*ℤ-zero (k *ℤ ev_m ρ m)) ∙ +ℤ_idl (ev_p ρ acc))
  onto_is k m (term j n q) acc =
      add1_is (k *ℤ j) (join m n) (onto k m q acc)
      ∙ ap (λ (z : ℤ). (k *ℤ j) *ℤ z +ℤ ev_p ρ (onto k m q acc)) (join_is m n)
      ∙ ap (λ (z : ℤ). z +ℤ ev_p ρ (onto k m q acc)) (swap k j (ev_m ρ m) (ev_m ρ n))
      ∙ ap (λ (z : ℤ). (k *ℤ ev_m ρ m) *ℤ (j *ℤ ev_m ρ n) +ℤ z) (onto_is k m q acc)
      ∙ sym (group ((k *ℤ ev_m ρ m) *ℤ (j *ℤ ev_m ρ n)) ((k *ℤ ev_m ρ m) *ℤ ev_p ρ q) (ev_p ρ acc))
      ∙ ap (λ (z : ℤ). z +ℤ ev_p ρ acc) (sym (*ℤ-+ℤ (k *ℤ ev_m ρ m) (j *ℤ ev_m ρ n) (ev_p ρ q)))

  mul_is : (p q : Po) → ev_p ρ (mul p q) ≡ ev_p ρ p *ℤ ev_p ρ q
  mul_is nil q = sym (zero-*ℤ (ev_p ρ q))
  mul_is (term k m p) q = onto_is k m q (mul p q) ∙ ap (λ (z : ℤ). (k *ℤ ev_m ρ m) *ℤ ev_p ρ q +ℤ z) (mul_is p q) ∙ sym (+ℤ-*ℤ (k *ℤ ev_m ρ m) (ev_p ρ p) (ev_p ρ q))

  pub norm_is : (e : Ex) → ev_p ρ (norm e) ≡ ev ρ e
  norm_is (var v) = omega (arith, ints)
  norm_is (num k) = some_is k [] nil ∙ omega (arith, ints)
  norm_is (minus a) = onto_is (negsuc 0) [] (norm a) nil ∙ +ℤ_idr (negsuc 0 *ℤ ev_p ρ (norm a)) ∙ minus_l (ev_p ρ (norm a)) ∙ ap neg_ℤ (norm_is a)
  norm_is (a ⊕ b) = onto_is (pos 1) [] (norm a) (norm b) ∙ ap (λ (z : ℤ). z +ℤ ev_p ρ (norm b)) (one_l (ev_p ρ (norm a)))
      ∙ ap (λ (z : ℤ). z +ℤ ev_p ρ (norm b)) (norm_is a) ∙ ap (λ (z : ℤ). ev ρ a +ℤ z) (norm_is b)
  norm_is (a ⊖ b) = onto_is (negsuc 0) [] (norm b) (norm a) ∙ ap (λ (z : ℤ). z +ℤ ev_p ρ (norm a)) (minus_l (ev_p ρ (norm b)))
      ∙ turn (ev_p ρ (norm b)) (ev_p ρ (norm a)) ∙ ap (λ (z : ℤ). z -ℤ ev_p ρ (norm b)) (norm_is a) ∙ ap (λ (z : ℤ). ev ρ a -ℤ z) (norm_is b)
    where
      turn : (a b : ℤ) → neg_ℤ a +ℤ b ≡ b -ℤ a
      turn a b = omega (arith, ints)
  norm_is (a ⊗ b) = mul_is (norm a) (norm b) ∙ ap (λ (z : ℤ). z *ℤ ev_p ρ (norm b)) (norm_is a) ∙ ap (λ (z : ℤ). ev ρ a *ℤ z) (norm_is b)

  nothing : (p : Po) → T (empty p) → ev_p ρ p ≡ pos 0
  nothing nil t = refl
  nothing (term k m p) t = absurd t

  equal : (a b : ℤ) → a -ℤ b ≡ pos 0 → a ≡ b
  equal a b e = omega (arith, ints)

  pub holds : (l r : Ex) → T (empty (norm (l ⊖ r))) → ev ρ l ≡ ev ρ r
  holds l r t = equal (ev ρ l) (ev ρ r) (sym (norm_is (l ⊖ r)) ∙ nothing (norm (l ⊖ r)) t)

pub ring : (vs : List ℤ) (l r : Ex) → T (empty (norm (l ⊖ r))) → ev (at vs) l ≡ ev (at vs) r
ring vs l r t = holds (at vs) l r t
