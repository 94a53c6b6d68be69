-- The sweep over all settings of six coordinates to their ends: what it finds holds of every setting, and is found at one.
use Rattle.std.specs.Prelude.{◌≡◌, ◌⊎◌, ℤ, refl}
use Rattle.std.proofs.Common.{sym, ◌∙◌, subst, inl, inr}
use Rattle.plane.specs.Whole.{area}
use Rattle.judge.specs.Dips.{Coordinate, Dip, level, head, low, high, at}
use Rattle.judge.specs.Corner.{ends, at_heads, over_third, over_second, swept}

-- y is one of a coordinate's two ends
abbrev pub End : Coordinate → ℤ → Type 0
End x y = (y ≡ low x) ⊎ (y ≡ high x)

-- six coordinates, each at an end
pub record Setting (a b c : Dip) : Type 0 where
  pub xa : ℤ
  pub ya : ℤ
  pub xb : ℤ
  pub yb : ℤ
  pub xc : ℤ
  pub yc : ℤ
  pub on_xa : End (level a) xa
  pub on_ya : End (head a) ya
  pub on_xb : End (level b) xb
  pub on_yb : End (head b) yb
  pub on_xc : End (level c) xc
  pub on_yc : End (head c) yc

abbrev pub area_at : {a b c : Dip} → Setting a b c → ℤ
area_at s = area (at s.xa s.ya) (at s.xb s.yb) (at s.xc s.yc)

-- ---- the levels with some of them set
module _ (pick : ℤ → ℤ → ℤ) (a b c : Dip) where
  abbrev after_xa : ℤ → ℤ → ℤ → ℤ → ℤ
  after_xa ya yb yc xa = ends pick (level b) (λ xb. ends pick (level c) (λ xc. area (at xa ya) (at xb yb) (at xc yc)))

  abbrev after_xb : ℤ → ℤ → ℤ → ℤ → ℤ → ℤ
  after_xb ya yb yc xa xb = ends pick (level c) (λ xc. area (at xa ya) (at xb yb) (at xc yc))

-- ---- what holds of the picked one and then of both
module _ (pick : ℤ → ℤ → ℤ) (P : ℤ → Type 0) (both : (x y : ℤ) → P (pick x y) → P x × P y) where
  at_end : (x : Coordinate) (f : ℤ → ℤ) (y : ℤ) → End x y → P (ends pick x f) → P (f y)
  at_end x f y (inl e) h = subst (λ t. P (f t)) (sym e) (both (f (low x)) (f (high x)) h).0
  at_end x f y (inr e) h = subst (λ t. P (f t)) (sym e) (both (f (low x)) (f (high x)) h).1

  pub everywhere : (a b c : Dip) → P (swept pick a b c) → (s : Setting a b c) → P (area_at s)
  unfolding swept over_second over_third at_heads
  everywhere a b c h s =
      let on_ya = at_end (head a) (over_second pick a b c) s.ya s.on_ya h in
      let on_yb = at_end (head b) (over_third pick a b c s.ya) s.yb s.on_yb on_ya in
      let on_yc = at_end (head c) (at_heads pick a b c s.ya s.yb) s.yc s.on_yc on_yb in
      let on_xa = at_end (level a) (after_xa pick a b c s.ya s.yb s.yc) s.xa s.on_xa on_yc in
      let on_xb = at_end (level b) (after_xb pick a b c s.ya s.yb s.yc s.xa) s.xb s.on_xb on_xa in
      at_end (level c) (λ x. area (at s.xa s.ya) (at s.xb s.yb) (at x s.yc)) s.xc s.on_xc on_xb

-- ---- where the picked one is one of the two
module _ (pick : ℤ → ℤ → ℤ) (one : (x y : ℤ) → (pick x y ≡ x) ⊎ (pick x y ≡ y)) where
  record Found (x : Coordinate) (f : ℤ → ℤ) : Type 0 where
    y : ℤ
    on : End x y
    is : ends pick x f ≡ f y

  find : (x : Coordinate) (f : ℤ → ℤ) → Found x f
  find x f = elim (one (f (low x)) (f (high x))) [
    | inl e ↦ record { y = low x; on = inl refl; is = e }
    | inr e ↦ record { y = high x; on = inr refl; is = e }
  ]

  pub somewhere : (a b c : Dip) → (s : Setting a b c) × (swept pick a b c ≡ area_at s)
  unfolding swept over_second over_third at_heads
  somewhere a b c =
      let ya = find (head a) (over_second pick a b c) in
      let yb = find (head b) (over_third pick a b c ya.y) in
      let yc = find (head c) (at_heads pick a b c ya.y yb.y) in
      let xa = find (level a) (after_xa pick a b c ya.y yb.y yc.y) in
      let xb = find (level b) (after_xb pick a b c ya.y yb.y yc.y xa.y) in
      let xc = find (level c) (λ x. area (at xa.y ya.y) (at xb.y yb.y) (at x yc.y)) in (
        record {
          xa = xa.y;
          ya = ya.y;
          xb = xb.y;
          yb = yb.y;
          xc = xc.y;
          yc = yc.y;
          on_xa = xa.on;
          on_ya = ya.on;
          on_xb = xb.on;
          on_yb = yb.on;
          on_xc = xc.on;
          on_yc = yc.on;
        },
        ya.is ∙ yb.is ∙ yc.is ∙ xa.is ∙ xb.is ∙ xc.is,
      )
