-- A true number of a dipped coordinate, scaled to a whole number, lies between the scaled ends.
use Rattle.std.specs.Prelude.{◌≡◌, ℕ, ◌*◌, ◌≤◌, [], ◌∷◌, ℤ, pos, ◌-ℤ◌, ◌*ℤ◌, ◌≤ℤ◌, unsigned_abs}
use Rattle.std.proofs.Common.{sym, ◌∙◌, arith}
use Rattle.std.proofs.lemmas.Int.{ints}
use Rattle.plane.specs.Fractions.{Fraction}
use Rattle.plane.proofs.Orders.{times_le, cancel_le}
use Rattle.plane.proofs.Ring.{var, num, ◌⊕◌, ◌⊖◌, ◌⊗◌, ring}
use Rattle.plane.proofs.Scaling.{Scales}
use Rattle.reading.specs.TruePoints.{DippedNumber}
use Rattle.judge.specs.Dips.{Coordinate, low, high}

module _ (x : Coordinate) (t : Fraction) (D : ℕ) (z : ℤ) (h : DippedNumber x.0 x.1 t) (s : Scales D t z) where
  -- an end times the fraction's denominator, times D
  turned : (e : ℤ) → e *ℤ pos t.den *ℤ pos D ≡ e *ℤ pos D *ℤ pos t.den
  turned e = ring (e ∷ pos t.den ∷ pos D ∷ []) (var 0 ⊗ var 1 ⊗ var 2) (var 0 ⊗ var 2 ⊗ var 1) tt

  scaled : t.num *ℤ pos 1 *ℤ pos D ≡ z *ℤ pos t.den
  scaled = ring (t.num ∷ pos D ∷ []) (var 0 ⊗ num (pos 1) ⊗ var 1) (var 0 ⊗ var 1) tt ∙ sym s

  pub above_low : (low x *ℤ pos D) ≤ℤ z
  above_low = cancel_le (low x *ℤ pos D) z t.den t.some (rw (← turned (low x), ← scaled) (times_le (low x *ℤ pos t.den) (t.num *ℤ pos 1) D h.0))

  pub below_high : z ≤ℤ (high x *ℤ pos D)
  below_high = cancel_le z (high x *ℤ pos D) t.den t.some (rw (← turned (high x), ← scaled) (times_le (t.num *ℤ pos 1) (high x *ℤ pos t.den) D h.1))

  pub close : unsigned_abs (z -ℤ x.0 *ℤ pos D) ≤ x.1 * D
  close =
      let l = ring (x.0 ∷ pos x.1 ∷ pos D ∷ []) ((var 0 ⊖ var 1) ⊗ var 2) (var 0 ⊗ var 2 ⊖ var 1 ⊗ var 2) tt in
      let u = ring (x.0 ∷ pos x.1 ∷ pos D ∷ []) ((var 0 ⊕ var 1) ⊗ var 2) (var 0 ⊗ var 2 ⊕ var 1 ⊗ var 2) tt in
      omega (arith, ints, above_low, below_high)
