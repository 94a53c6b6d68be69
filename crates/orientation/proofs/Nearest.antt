-- Rounding to 53 digits moves a fraction by at most half a unit in the last place, so by at most 1/2^53 of it.
use Rattle.std.proofs.Common.{◌≡◌, ℕ, ◌+◌, ◌*◌, ◌/◌, ◌%◌, ◌^◌, ◌<◌, ◌≤◌, not, T, ◌⊎◌, pos, ◌-ℤ◌, nat_abs, sym, subst, inl, inr, mul-le-mul_right, mod-lt, mul-pos, div-add-mod', le-div_iff_mul-le, le_of_mul-le-mul_right, arith, eqb→eq, leb→le, pow_pos, pow_mono, pow-add}
use Prim.Native.Nat.{compare, Ordering}
use lib.Dec.{is_le, compare_is_eq, nleb→lt}
use lib.Ieee.{size, nearest}
use lib.Ieee.Digits.{size-lt, size_reaches}
use lib.Ieee.Nearest.{closest}
use lib.Ieee.Order.{drop, kept}
use borrow.Author.Differences.{ints}
use Rattle.std.proofs.lemmas.Bool.Decides.{leb_tells}
use Rattle.orientation.proofs.Near.{Near, gap_times}

-- ---- a multiple of u, by the remainder's half
abbrev Compared : Ordering → ℕ → ℕ → Type 0
Compared Ordering.lt a b = a ≤ b
Compared Ordering.eq a b = a ≡ b
Compared Ordering.gt a b = b < a

compared : (a b : ℕ) → Compared (compare a b) a b
compared a b = go (compare a b) (leb→le a b) (nleb→lt a b) (eqb→eq a b)
  where
    go : (o : Ordering) → (T (is_le o) → a ≤ b) → (T (not (is_le o)) → b < a) → (T (compare_is_eq o) → a ≡ b) → Compared o a b
    go Ordering.lt h k e = h tt
    go Ordering.eq h k e = e tt
    go Ordering.gt h k e = k tt

half : (q r u : ℕ) (o : Ordering) → r < u → Compared o (r * 2) u → 2 * nat_abs (pos (nearest q o * u) -ℤ pos (q * u + r)) ≤ u
half q r u Ordering.lt l c = omega (arith, ints)
half q r u Ordering.eq l c = let b : q % 2 ≤ 1 = omega arith in omega (arith, ints, mul-le-mul_right u b)
half q r u Ordering.gt l c = omega (arith, ints)

closest_half : (n u : ℕ) → 0 < u → 2 * nat_abs (pos (closest n u * u) -ℤ pos n) ≤ u
closest_half n u U = subst (λ z. 2 * nat_abs (pos (closest n u * u) -ℤ pos z) ≤ u) (div-add-mod' n u) (half (n / u) (n % u) u (compare (n % u * 2) u) (mod-lt n U) (compared (n % u * 2) u))

-- ---- n / c to 53 digits
abbrev pub rounded : ℕ → ℕ → ℕ
rounded n c = kept 53 n c * 2 ^ drop 53 n c

-- all 53 digits are there
normal : (n c : ℕ) → 0 < c → 53 ≤ size (n / c) → Near (pos (rounded n c * c)) (pos n)
normal n c C h =
    let k = drop 53 n c in
    let reach : 2 ^ (52 + k) * c ≤ n = (le-div_iff_mul-le C).0 (size_reaches (n / c) (52 + k) (omega arith)) in
    let big : 2 ^ 52 * 2 ^ k * c ≤ n = subst (λ z. z * c ≤ n) (pow-add 2 52 k) reach in
    record { within = joined (kept 53 n c) c (2 ^ k) n big (closest_half n (c * 2 ^ k) (mul-pos C (pow_pos k))) }
  where
    joined : (q c t n : ℕ) → 2 ^ 52 * t * c ≤ n → 2 * nat_abs (pos (q * (c * t)) -ℤ pos n) ≤ c * t → 2 ^ 53 * nat_abs (pos (q * t * c) -ℤ pos n) ≤ n
    joined q c t n b h = omega (arith, ints)

-- n / c is whole, and all its digits are kept
exact : (q c : ℕ) → 0 < c → Near (pos (closest (q * c) (c * 1) * 1 * c)) (pos (q * c))
exact q c C =
    let g = closest (q * c) (c * 1) in
    let d : 2 * nat_abs (pos g -ℤ pos q) ≤ 1 = le_of_mul-le-mul_right {k = c} (omega (arith, ints, closest_half (q * c) (c * 1) (omega arith), gap_times (pos g) (pos q) c)) C in
    let e : q ≡ g = omega (arith, ints) in
    subst (λ x. Near (pos (x * 1 * c)) (pos (q * c))) e (record { within = omega (arith, ints) })

-- n / c is at least 2^52, or whole
pub rounded_near : (n c : ℕ) → 0 < c → (2 ^ 52 * c ≤ n) ⊎ ((q : ℕ) × (n ≡ q * c)) → Near (pos (rounded n c * c)) (pos n)
rounded_near n c C h = elim (leb_tells 53 (size (n / c))) [
  | inl l ↦ normal n c C l.1
  | inr l ↦ elim h [
    | inl big ↦ absurd (omega (arith, size-lt (n / c), pow_mono {i = size (n / c)} {j = 52} (omega (arith, l.1)), (le-div_iff_mul-le C).1 big))
    | inr w ↦
        let none : 0 ≡ drop 53 n c = omega (arith, l.1) in
        subst (λ k. Near (pos (closest n (c * 2 ^ k) * 2 ^ k * c)) (pos n)) none (subst (λ m. Near (pos (closest m (c * 1) * 1 * c)) (pos m)) (sym w.1) (exact w.0 c C))
  ]
]
