-- What the start search finds, and that nothing is decided where it finds nothing.
use Rattle.std.proofs.Common.{◌≡◌, ℕ, zero, suc, ◌+◌, ◌<◌, ◌⊎◌, List, [], ◌∷◌, length, get_or, Some, None, Option, refl, inl, inr, arith}
use Rattle.judge.specs.declared.word.Word.{Word}
use Rattle.judge.specs.declared.word.Word.TheVariants.{Left, Right, Undecided}
use Rattle.rules.specs.Starting.{counterclockwise, or_next, third_from, second_from, first_from}

-- ---- nothing found
neither : (o p : Option (ℕ × ℕ × ℕ)) → or_next o p ≡ None → (o ≡ None) × (p ≡ None)
neither None p e = (refl, e)
neither (Some t) p e = let no : ◌≡◌ {A = ℕ} 0 1 = cc in absurd (omega arith)

not_turned : (w : Word) (a b c : ℕ) → counterclockwise w a b c ≡ None → w ≡ Undecided
not_turned Left a b c e = let no : ◌≡◌ {A = ℕ} 0 1 = cc in absurd (omega arith)
not_turned Right a b c e = let no : ◌≡◌ {A = ℕ} 0 1 = cc in absurd (omega arith)
not_turned Undecided a b c e = refl

module _ {R : Type 0} (word : R → R → R → Word) where
  no_third : (x y : R) (a b c : ℕ) (zs : List R) → third_from word x y a b c zs ≡ None → (k : ℕ) (d : R) → k < length zs → word x y (get_or zs k d) ≡ Undecided
  no_third x y a b c [] e k d h = absurd (omega arith)
  no_third x y a b c (z ∷ zs) e zero d h = not_turned (word x y z) a b c (neither (counterclockwise (word x y z) a b c) (third_from word x y a b (c + 1) zs) e).0
  no_third x y a b c (z ∷ zs) e (suc k) d h = no_third x y a b (c + 1) zs (neither (counterclockwise (word x y z) a b c) (third_from word x y a b (c + 1) zs) e).1 k d (omega arith)

  no_second : (x : R) (a b : ℕ) (ys : List R) → second_from word x a b ys ≡ None → (j k : ℕ) (d : R) → j < k → k < length ys → word x (get_or ys j d) (get_or ys k d) ≡ Undecided
  no_second x a b [] e j k d l h = absurd (omega arith)
  no_second x a b (y ∷ ys) e j zero d l h = absurd (omega arith)
  no_second x a b (y ∷ ys) e zero (suc k) d l h = no_third x y a b (b + 1) ys (neither (third_from word x y a b (b + 1) ys) (second_from word x a (b + 1) ys) e).0 k d (omega arith)
  no_second x a b (y ∷ ys) e (suc j) (suc k) d l h = no_second x a (b + 1) ys (neither (third_from word x y a b (b + 1) ys) (second_from word x a (b + 1) ys) e).1 j k d (omega arith) (omega arith)

  no_first : (n : ℕ) (xs : List R) → first_from word n xs ≡ None → (i j k : ℕ) (d : R) → i < j → j < k → k < length xs → word (get_or xs i d) (get_or xs j d) (get_or xs k d) ≡ Undecided
  no_first n [] e i j k d l m h = absurd (omega arith)
  no_first n (x ∷ xs) e i zero k d l m h = absurd (omega arith)
  no_first n (x ∷ xs) e i (suc j) zero d l m h = absurd (omega arith)
  no_first n (x ∷ xs) e zero (suc j) (suc k) d l m h = no_second x n (n + 1) xs (neither (second_from word x n (n + 1) xs) (first_from word (n + 1) xs) e).0 j k d (omega arith) (omega arith)
  no_first n (x ∷ xs) e (suc i) (suc j) (suc k) d l m h = no_first (n + 1) xs (neither (second_from word x n (n + 1) xs) (first_from word (n + 1) xs) e).1 i j k d (omega arith) (omega arith) (omega arith)

  -- where nothing is found, the judge decides no three readings in order of arrival
  pub nothing_found : (rs : List R) → first_from word 0 rs ≡ None → (a b c : ℕ) (x : R) → a < b → b < c → c < length rs → word (get_or rs a x) (get_or rs b x) (get_or rs c x) ≡ Undecided
  nothing_found rs e = no_first 0 rs e

-- ---- three found
-- the word on a, b, c is left, and t is a, b, c, or it is right, and t is a, c, b
abbrev pub Turned : Word → ℕ → ℕ → ℕ → ℕ × ℕ × ℕ → Type 0
Turned w a b c t = ((w ≡ Left) × (◌≡◌ {A = ℕ × ℕ × ℕ} t (a, b, c))) ⊎ ((w ≡ Right) × (◌≡◌ {A = ℕ × ℕ × ℕ} t (a, c, b)))

-- three readings in order of arrival that the judge decides, with their numbers counterclockwise; the default is any
pub record Found {R : Type 0} (word : R → R → R → Word) (rs : List R) (t : ℕ × ℕ × ℕ) : Type 0 where
  pub a : ℕ
  pub b : ℕ
  pub c : ℕ
  pub first : a < b
  pub second : b < c
  pub third : c < length rs
  pub says : (x : R) → Turned (word (get_or rs a x) (get_or rs b x) (get_or rs c x)) a b c t

one_of : (t : ℕ × ℕ × ℕ) (o p : Option (ℕ × ℕ × ℕ)) → or_next o p ≡ Some t → (o ≡ Some t) ⊎ (p ≡ Some t)
one_of t None p e = inr e
one_of t (Some s) p e = inl e

turned_so : (t : ℕ × ℕ × ℕ) (w : Word) (a b c : ℕ) → counterclockwise w a b c ≡ Some t → Turned w a b c t
turned_so t Left a b c e = inl (refl, cc)
turned_so t Right a b c e = inr (refl, cc)
turned_so t Undecided a b c e = let no : ◌≡◌ {A = ℕ} 0 1 = cc in absurd (omega arith)

-- the same three, whose numbers are written another way
renumbered : {t : ℕ × ℕ × ℕ} {w : Word} {a b c a' b' c' : ℕ} → a ≡ a' → b ≡ b' → c ≡ c' → Turned w a b c t → Turned w a' b' c' t
renumbered p q r (inl h) = inl (h.0, cc h.1)
renumbered p q r (inr h) = inr (h.0, cc h.1)

module _ {R : Type 0} (word : R → R → R → Word) (t : ℕ × ℕ × ℕ) where
  third_found : (x y : R) (a b c : ℕ) (zs : List R) → third_from word x y a b c zs ≡ Some t
      → (k : ℕ) × (k < length zs) × ((d : R) → Turned (word x y (get_or zs k d)) a b (c + k) t)
  third_found x y a b c [] e = let no : ◌≡◌ {A = ℕ} 0 1 = cc in absurd (omega arith)
  third_found x y a b c (z ∷ zs) e =
      elim (one_of t (counterclockwise (word x y z) a b c) (third_from word x y a b (c + 1) zs) e) [
        | inl h ↦ (0, omega arith, λ d. renumbered refl refl (omega arith) (turned_so t (word x y z) a b c h))
        | inr h ↦ let f = third_found x y a b (c + 1) zs h in (suc f.0, omega arith, λ d. renumbered refl refl (omega arith) (f.2 d))
      ]

  second_found : (x : R) (a b : ℕ) (ys : List R) → second_from word x a b ys ≡ Some t
      → (j : ℕ) × (k : ℕ) × (j < k) × (k < length ys) × ((d : R) → Turned (word x (get_or ys j d) (get_or ys k d)) a (b + j) (b + k) t)
  second_found x a b [] e = let no : ◌≡◌ {A = ℕ} 0 1 = cc in absurd (omega arith)
  second_found x a b (y ∷ ys) e =
      elim (one_of t (third_from word x y a b (b + 1) ys) (second_from word x a (b + 1) ys) e) [
        | inl h ↦ let f = third_found x y a b (b + 1) ys h in (0, suc f.0, omega arith, omega arith, λ d. renumbered refl (omega arith) (omega arith) (f.2 d))
        | inr h ↦ let f = second_found x a (b + 1) ys h in (suc f.0, suc f.1, omega arith, omega arith, λ d. renumbered refl (omega arith) (omega arith) (f.4 d))
      ]

  first_found : (n : ℕ) (xs : List R) → first_from word n xs ≡ Some t
      → (i : ℕ) × (j : ℕ) × (k : ℕ) × (i < j) × (j < k) × (k < length xs) × ((d : R) → Turned (word (get_or xs i d) (get_or xs j d) (get_or xs k d)) (n + i) (n + j) (n + k) t)
  first_found n [] e = let no : ◌≡◌ {A = ℕ} 0 1 = cc in absurd (omega arith)
  first_found n (x ∷ xs) e =
      elim (one_of t (second_from word x n (n + 1) xs) (first_from word (n + 1) xs) e) [
        | inl h ↦ let f = second_found x n (n + 1) xs h in (0, suc f.0, suc f.1, omega arith, omega arith, omega arith, λ d. renumbered (omega arith) (omega arith) (omega arith) (f.4 d))
        | inr h ↦ let f = first_found (n + 1) xs h in (suc f.0, suc f.1, suc f.2, omega arith, omega arith, omega arith, λ d. renumbered (omega arith) (omega arith) (omega arith) (f.6 d))
      ]

pub three_found : {R : Type 0} (word : R → R → R → Word) (rs : List R) (t : ℕ × ℕ × ℕ) → first_from word 0 rs ≡ Some t → Found word rs t
three_found word rs t e =
    let f = first_found word t 0 rs e in
    record { a = f.0; b = f.1; c = f.2; first = f.3; second = f.4; third = f.5; says = λ x. renumbered (omega arith) (omega arith) (omega arith) (f.6 x) }

turned_under : {w : Word} {a b c : ℕ} {t : ℕ × ℕ × ℕ} (n : ℕ) → a < n → b < n → c < n → Turned w a b c t → (t.0 < n) × (t.1 < n) × (t.2 < n)
turned_under n p q r (inl h) = rw h.1 (p, q, r)
turned_under n p q r (inr h) = rw h.1 (p, r, q)

-- the three found are numbers of readings
pub found_under : {R : Type 0} (word : R → R → R → Word) (rs : List R) (t : ℕ × ℕ × ℕ) → Found word rs t → (t.0 < length rs) × (t.1 < length rs) × (t.2 < length rs)
found_under word [] t f = let l = f.third in absurd (omega arith)
found_under word (x ∷ rs) t f = let k = f.first in let l = f.second in let m = f.third in turned_under (length (x ∷ rs)) (omega arith) (omega arith) (omega arith) (f.says x)
