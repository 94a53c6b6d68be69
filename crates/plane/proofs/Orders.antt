-- Orders of whole numbers, times a natural number.
use Rattle.std.proofs.Common.{ℕ, ◌<◌, [], ◌∷◌, ℤ, pos, ◌-ℤ◌, ◌*ℤ◌, ◌≤ℤ◌, ◌<ℤ◌, arith}
use Rattle.std.proofs.lemmas.Int.{ints, by_lt_z}
use Rattle.plane.proofs.Ring.{var, ◌⊖◌, ◌⊗◌, ring}
use Rattle.plane.proofs.Signs.{mul_positive, mul_not_negative}

pub times_le : (x y : ℤ) (d : ℕ) → x ≤ℤ y → (x *ℤ pos d) ≤ℤ (y *ℤ pos d)
times_le x y d h =
    let p = mul_not_negative (y -ℤ x) (pos d) (omega (arith, ints)) (omega (arith, ints)) in
    let e = ring (x ∷ y ∷ pos d ∷ []) ((var 1 ⊖ var 0) ⊗ var 2) (var 1 ⊗ var 2 ⊖ var 0 ⊗ var 2) tt in
    omega (arith, ints)

pub times_lt : (x y : ℤ) (d : ℕ) → 0 < d → x <ℤ y → (x *ℤ pos d) <ℤ (y *ℤ pos d)
times_lt x y d some h =
    let p = mul_positive (y -ℤ x) (pos d) (omega (arith, ints)) (omega (arith, ints)) in
    let e = ring (x ∷ y ∷ pos d ∷ []) ((var 1 ⊖ var 0) ⊗ var 2) (var 1 ⊗ var 2 ⊖ var 0 ⊗ var 2) tt in
    omega (arith, ints)

pub cancel_le : (x y : ℤ) (d : ℕ) → 0 < d → (x *ℤ pos d) ≤ℤ (y *ℤ pos d) → x ≤ℤ y
cancel_le x y d some h = by_lt_z y x (λ l. let m = times_lt y x d some l in absurd (omega (arith, ints))) (λ k. k)

pub cancel_lt : (x y : ℤ) (d : ℕ) → (x *ℤ pos d) <ℤ (y *ℤ pos d) → x <ℤ y
cancel_lt x y d h = by_lt_z x y (λ l. l) (λ k. let m = times_le y x d k in absurd (omega (arith, ints)))
