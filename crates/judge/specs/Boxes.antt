-- A doubled area that is positive at all settings of the coordinates to their ends is positive everywhere between them.
use Rattle.std.specs.Prelude.{◌≡◌, ℕ, ◌*◌, ◌<◌, [], ◌∷◌, ℤ, pos, ◌+ℤ◌, ◌-ℤ◌, ◌*ℤ◌, ◌≤ℤ◌, ◌<ℤ◌, refl}
use Rattle.std.proofs.Common.{sym, subst, inl, inr, mul-pos, arith}
use Rattle.std.proofs.lemmas.Int.{ints, by_lt_z}
use Rattle.plane.specs.Whole.{WholePoint, area}
use Rattle.plane.proofs.Ring.{Ex, var, ◌⊕◌, ◌⊖◌, ◌⊗◌, ring}
use Rattle.plane.proofs.Signs.{mul_positive, mul_not_negative}
use Rattle.judge.specs.Dips.{Coordinate, Dip, level, head, low, high, at}
use Rattle.judge.specs.Settings.{End, Setting, area_at}

-- the doubled area of six variables: level and head of a, of b and of c
abbrev pub area_e : Ex
area_e = (var 0 ⊖ var 4) ⊗ (var 3 ⊖ var 5) ⊖ (var 2 ⊖ var 4) ⊗ (var 1 ⊖ var 5)

-- a linear function that is positive at both ends is positive between them
between : (k m l u t : ℤ) → l ≤ℤ t → t ≤ℤ u → pos 0 <ℤ (k *ℤ l +ℤ m) → pos 0 <ℤ (k *ℤ u +ℤ m) → pos 0 <ℤ (k *ℤ t +ℤ m)
between k m l u t hl hu pl pu = by_lt_z k (pos 0)
    (λ n.
    let p = mul_not_negative (pos 0 -ℤ k) (u -ℤ t) (omega (arith, ints)) (omega (arith, ints)) in
    let e = ring (k ∷ u ∷ t ∷ pos 0 ∷ []) ((var 3 ⊖ var 0) ⊗ (var 1 ⊖ var 2)) (var 3 ⊗ (var 1 ⊖ var 2) ⊕ (var 0 ⊗ var 2 ⊖ var 0 ⊗ var 1)) tt in
    omega (arith, ints))
    (λ n.
    let p = mul_not_negative k (t -ℤ l) n (omega (arith, ints)) in
    let e = ring (k ∷ l ∷ t ∷ []) (var 0 ⊗ (var 2 ⊖ var 1)) (var 0 ⊗ var 2 ⊖ var 0 ⊗ var 1) tt in
    omega (arith, ints))

-- a coordinate, D times as large, between its ends
abbrev pub Between : ℕ → Coordinate → ℤ → Type 0
Between D x z = ((low x *ℤ pos D) ≤ℤ z) × (z ≤ℤ (high x *ℤ pos D))

pub record InBox (D : ℕ) (a : Dip) (A : WholePoint) : Type 0 where
  pub on_level : Between D (level a) A.level
  pub on_head : Between D (head a) A.head

-- y is D times an end of a coordinate
abbrev ScaledEnd : ℕ → Coordinate → ℤ → Type 0
ScaledEnd D x y = (z : ℤ) × End x z × (y ≡ z *ℤ pos D)

-- a function that is linear in one coordinate, and positive at its scaled ends
spread : (D : ℕ) (x : Coordinate) (t k m : ℤ) (f : ℤ → ℤ) → ((t : ℤ) → f t ≡ k *ℤ t +ℤ m) → Between D x t → ((y : ℤ) → ScaledEnd D x y → pos 0 <ℤ f y) → pos 0 <ℤ f t
spread D x t k m f e h ends =
    let P : ℤ → Type 0 = λ z. pos 0 <ℤ z in
    let l = subst P (e (low x *ℤ pos D)) (ends (low x *ℤ pos D) (low x, inl refl, refl)) in
    let u = subst P (e (high x *ℤ pos D)) (ends (high x *ℤ pos D) (high x, inr refl, refl)) in
    subst P (sym (e t)) (between k m (low x *ℤ pos D) (high x *ℤ pos D) t h.0 h.1 l u)

module _ (D : ℕ) (some : 0 < D) (a b c : Dip) (positive : (s : Setting a b c) → pos 0 <ℤ area_at s) where
  scaled_settings : (xa ya xb yb xc yc : ℤ) → ScaledEnd D (level a) xa → ScaledEnd D (head a) ya → ScaledEnd D (level b) xb → ScaledEnd D (head b) yb → ScaledEnd D (level c) xc → ScaledEnd D (head c) yc → pos 0 <ℤ area (at xa ya) (at xb yb) (at xc yc)
  scaled_settings xa ya xb yb xc yc p p' q q' r r' =
      let s : Setting a b c = record { xa = p.0; ya = p'.0; xb = q.0; yb = q'.0; xc = r.0; yc = r'.0; on_xa = p.1; on_ya = p'.1; on_xb = q.1; on_yb = q'.1; on_xc = r.1; on_yc = r'.1 } in
      let e = ring (p.0 ∷ p'.0 ∷ q.0 ∷ q'.0 ∷ r.0 ∷ r'.0 ∷ pos D ∷ [])
      ((var 0 ⊗ var 6 ⊖ var 4 ⊗ var 6) ⊗ (var 3 ⊗ var 6 ⊖ var 5 ⊗ var 6) ⊖ (var 2 ⊗ var 6 ⊖ var 4 ⊗ var 6) ⊗ (var 1 ⊗ var 6 ⊖ var 5 ⊗ var 6))
      (((var 0 ⊖ var 4) ⊗ (var 3 ⊖ var 5) ⊖ (var 2 ⊖ var 4) ⊗ (var 1 ⊖ var 5)) ⊗ (var 6 ⊗ var 6)) tt in
      let d = mul-pos some some in
      rw (p.2, p'.2, q.2, q'.2, r.2, r'.2, e) (mul_positive (area_at s) (pos (D * D)) (positive s) (omega (arith, ints)))

  -- one coordinate after the other, from its ends to anywhere between them
  pub box_positive : (A B C : WholePoint) → InBox D a A → InBox D b B → InBox D c C → pos 0 <ℤ area A B C
  box_positive A B C ha hb hc =
      spread D (level a) A.level _ _ (λ t. area (at t A.head) B C) (λ t. ring (t ∷ A.head ∷ B.level ∷ B.head ∷ C.level ∷ C.head ∷ []) area_e ((var 3 ⊖ var 5) ⊗ var 0 ⊕ (var 2 ⊗ (var 5 ⊖ var 1) ⊕ var 4 ⊗ (var 1 ⊖ var 3))) tt) ha.on_level (λ xa exa.
      spread D (head a) A.head _ _ (λ t. area (at xa t) B C) (λ t. ring (xa ∷ t ∷ B.level ∷ B.head ∷ C.level ∷ C.head ∷ []) area_e ((var 4 ⊖ var 2) ⊗ var 1 ⊕ (var 3 ⊗ (var 0 ⊖ var 4) ⊕ var 5 ⊗ (var 2 ⊖ var 0))) tt) ha.on_head (λ ya eya.
      spread D (level b) B.level _ _ (λ t. area (at xa ya) (at t B.head) C) (λ t. ring (xa ∷ ya ∷ t ∷ B.head ∷ C.level ∷ C.head ∷ []) area_e ((var 5 ⊖ var 1) ⊗ var 2 ⊕ (var 0 ⊗ (var 3 ⊖ var 5) ⊕ var 4 ⊗ (var 1 ⊖ var 3))) tt) hb.on_level (λ xb exb.
      spread D (head b) B.head _ _ (λ t. area (at xa ya) (at xb t) C) (λ t. ring (xa ∷ ya ∷ xb ∷ t ∷ C.level ∷ C.head ∷ []) area_e ((var 0 ⊖ var 4) ⊗ var 3 ⊕ (var 1 ⊗ (var 4 ⊖ var 2) ⊕ var 5 ⊗ (var 2 ⊖ var 0))) tt) hb.on_head (λ yb eyb.
      spread D (level c) C.level _ _ (λ t. area (at xa ya) (at xb yb) (at t C.head)) (λ t. ring (xa ∷ ya ∷ xb ∷ yb ∷ t ∷ C.head ∷ []) area_e ((var 1 ⊖ var 3) ⊗ var 4 ⊕ (var 0 ⊗ (var 3 ⊖ var 5) ⊕ var 2 ⊗ (var 5 ⊖ var 1))) tt) hc.on_level (λ xc exc.
      spread D (head c) C.head _ _ (λ t. area (at xa ya) (at xb yb) (at xc t)) (λ t. ring (xa ∷ ya ∷ xb ∷ yb ∷ xc ∷ t ∷ []) area_e ((var 2 ⊖ var 0) ⊗ var 5 ⊕ (var 1 ⊗ (var 4 ⊖ var 2) ⊕ var 3 ⊗ (var 0 ⊖ var 4))) tt) hc.on_head (λ yc eyc.
      scaled_settings xa ya xb yb xc yc exa eya exb eyb exc eyc))))))
