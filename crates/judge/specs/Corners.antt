-- What the corner judge says is certain, and it decides whatever is certain.
use Rattle.std.specs.Prelude.{◌≡◌, ℕ, true, false, cond, ◌⊎◌, [], ◌∷◌, ℤ, pos, neg_ℤ, ◌<ℤ◌, int_lt, refl}
use Rattle.std.proofs.Common.{sym, subst, inl, inr, arith, lit<}
use Rattle.std.specs.Int.Signed.{lt_z_yes}
use Rattle.std.specs.Int.{int_min, int_max}
use Rattle.std.proofs.lemmas.Int.{ints, clamps}
use Rattle.plane.specs.Fractions.{Positive, Negative, whole}
use Rattle.plane.specs.Points.{Point, doubled_area}
use Rattle.plane.specs.Whole.{WholePoint, area}
use Rattle.plane.proofs.Ring.{var, minus, ◌⊖◌, ◌⊗◌, ring}
use Rattle.plane.proofs.Scaling.{ScalesTo, positive, negative, positive_scales, negative_scales}
use Rattle.reading.specs.declared.dipped.Dipped.{Dipped}
use Rattle.reading.specs.contracts.kind.DippedKind.TheImpl as DippedKind
use Rattle.reading.specs.Makes.{dipped_numbers}
use Rattle.reading.specs.TruePoints.{DippedNumber, DippedPoint}
use Rattle.judge.specs.declared.word.Word.TheVariants.{Left, Right}
use Rattle.judge.specs.Words.{Certain, Decided, worded}
use Rattle.judge.specs.Dips.{Coordinate, Dip, level, head, at}
use Rattle.judge.specs.Corner.{least, greatest, corner_word}
use Rattle.judge.specs.TrueDips.{above_low, below_high}
use Rattle.judge.specs.Settings.{End, Setting, area_at, everywhere, somewhere}
use Rattle.judge.specs.Boxes.{InBox, area_e, box_positive}
use Rattle.judge.specs.Wordings.{worded_certain}

-- ---- the lesser and the greater of two
lesser_both : (x y : ℤ) → pos 0 <ℤ int_min x y → (pos 0 <ℤ x) × (pos 0 <ℤ y)
lesser_both x y h = (omega (arith, ints, clamps), omega (arith, ints, clamps))

greater_both : (x y : ℤ) → int_max x y <ℤ pos 0 → (x <ℤ pos 0) × (y <ℤ pos 0)
greater_both x y h = (omega (arith, ints, clamps), omega (arith, ints, clamps))

lesser_one : (x y : ℤ) → (int_min x y ≡ x) ⊎ (int_min x y ≡ y)
lesser_one x y = elim (int_lt y x) as (λ b. (cond b y x ≡ x) ⊎ (cond b y x ≡ y)) [ true ↦ inr refl | false ↦ inl refl ]

greater_one : (x y : ℤ) → (int_max x y ≡ x) ⊎ (int_max x y ≡ y)
greater_one x y = elim (int_lt y x) as (λ b. (cond b x y ≡ x) ⊎ (cond b x y ≡ y)) [ true ↦ inl refl | false ↦ inr refl ]

-- ---- certainty
abbrev Stands : Dip → Point → Type 0
Stands a p = DippedPoint a.0 a.1 a.2 a.3 p

in_box : (a : Dip) (p : Point) (D : ℕ) (A : WholePoint) → Stands a p → ScalesTo D p A → InBox D a A
in_box a p D A h s = record {
  on_level = (above_low (level a) p.level D A.level h.0 s.0, below_high (level a) p.level D A.level h.0 s.0);
  on_head = (above_low (head a) p.head D A.head h.1 s.1, below_high (head a) p.head D A.head h.1 s.1);
}

exchanged : (A B C : WholePoint) → area B A C ≡ neg_ℤ (area A B C)
exchanged A B C = ring (A.level ∷ A.head ∷ B.level ∷ B.head ∷ C.level ∷ C.head ∷ []) ((var 2 ⊖ var 4) ⊗ (var 1 ⊖ var 5) ⊖ (var 0 ⊖ var 4) ⊗ (var 3 ⊖ var 5)) (minus area_e) tt

module _ (a b c : Dip) where
  pub corner_left : pos 0 <ℤ least a b c → (p q s : Point) → Stands a p → Stands b q → Stands c s → Positive (doubled_area p q s)
  corner_left h p q s ha hb hc = positive p q s (λ D A B C some sa sb sc.
      box_positive D some a b c (everywhere int_min (λ z. pos 0 <ℤ z) lesser_both a b c h) A B C (in_box a p D A ha sa) (in_box b q D B hb sb) (in_box c s D C hc sc))

  -- with a and b exchanged
  turned : greatest a b c <ℤ pos 0 → (s : Setting b a c) → pos 0 <ℤ area_at s
  turned h s =
      let t : Setting a b c = record { xa = s.xb; ya = s.yb; xb = s.xa; yb = s.ya; xc = s.xc; yc = s.yc; on_xa = s.on_xb; on_ya = s.on_yb; on_xb = s.on_xa; on_yb = s.on_ya; on_xc = s.on_xc; on_yc = s.on_yc } in
      let n = everywhere int_max (λ z. z <ℤ pos 0) greater_both a b c h t in
      let e = exchanged (at s.xb s.yb) (at s.xa s.ya) (at s.xc s.yc) in
      over (area_at t) (area_at s) e n
    where
      over : (x y : ℤ) → y ≡ neg_ℤ x → x <ℤ pos 0 → pos 0 <ℤ y
      over x y e h = omega (arith, ints)

  pub corner_right : greatest a b c <ℤ pos 0 → (p q s : Point) → Stands a p → Stands b q → Stands c s → Negative (doubled_area p q s)
  corner_right h p q s ha hb hc = negative p q s (λ D A B C some sa sb sc.
      under (area A B C) (area B A C) (exchanged A B C) (box_positive D some b a c (turned h) B A C (in_box b q D B hb sb) (in_box a p D A ha sa) (in_box c s D C hc sc)))
    where
      under : (x y : ℤ) → y ≡ neg_ℤ x → pos 0 <ℤ y → x <ℤ pos 0
      under x y e h = omega (arith, ints)

pub corner_certain : (a b c : Dipped) → Certain (DippedKind.ghosts).stands a b c (corner_word (dipped_numbers a) (dipped_numbers b) (dipped_numbers c))
corner_certain a b c = worded_certain (DippedKind.ghosts).stands a b c _ _
    (λ l. corner_left (dipped_numbers a) (dipped_numbers b) (dipped_numbers c) (lt_z_yes l))
    (λ l. corner_right (dipped_numbers a) (dipped_numbers b) (dipped_numbers c) (lt_z_yes l))

-- ---- a setting is a choice of true points
abbrev point : ℤ → ℤ → Point
point x y = record { level = whole x; head = whole y }

on : (x : Coordinate) (y : ℤ) → End x y → DippedNumber x.0 x.1 (whole y)
on x y (inl e) = (omega (arith, ints), omega (arith, ints))
on x y (inr e) = (omega (arith, ints), omega (arith, ints))

module _ (a b c : Dip) (s : Setting a b c) where
  abbrev first : Point
  first = point s.xa s.ya

  abbrev second : Point
  second = point s.xb s.yb

  abbrev third : Point
  third = point s.xc s.yc

  chosen : Stands a first × Stands b second × Stands c third
  chosen = ((on (level a) _ s.on_xa, on (head a) _ s.on_ya), (on (level b) _ s.on_xb, on (head b) _ s.on_yb), (on (level c) _ s.on_xc, on (head c) _ s.on_yc))

  -- what every choice of true points has, the setting has
  setting_positive : ((p q r : Point) → Stands a p → Stands b q → Stands c r → Positive (doubled_area p q r)) → pos 0 <ℤ area_at s
  setting_positive h = (positive_scales 1 first second third (at s.xa s.ya) (at s.xb s.yb) (at s.xc s.yc) (lit< tt) (refl, refl) (refl, refl) (refl, refl)).1 (h first second third chosen.0 chosen.1 chosen.2)

  setting_negative : ((p q r : Point) → Stands a p → Stands b q → Stands c r → Negative (doubled_area p q r)) → area_at s <ℤ pos 0
  setting_negative h = (negative_scales 1 first second third (at s.xa s.ya) (at s.xb s.yb) (at s.xc s.yc) (lit< tt) (refl, refl) (refl, refl) (refl, refl)).1 (h first second third chosen.0 chosen.1 chosen.2)

-- ---- the judge decides
decided_left : (l g : ℤ) → pos 0 <ℤ l → worded (int_lt (pos 0) l) (int_lt g (pos 0)) ≡ Left
decided_left l g h = let e : int_lt (pos 0) l ≡ true = grind (arith, ints) in rw e

decided_right : (l g : ℤ) → l <ℤ pos 0 → g <ℤ pos 0 → worded (int_lt (pos 0) l) (int_lt g (pos 0)) ≡ Right
decided_right l g h k = let e : int_lt (pos 0) l ≡ false = grind (arith, ints) in let f : int_lt g (pos 0) ≡ true = grind (arith, ints) in rw (e, f)

pub corner_decided : (a b c : Dipped) → Decided (DippedKind.ghosts).stands a b c (corner_word (dipped_numbers a) (dipped_numbers b) (dipped_numbers c))
corner_decided a b c =
    let l = somewhere int_min lesser_one (dipped_numbers a) (dipped_numbers b) (dipped_numbers c) in
    let g = somewhere int_max greater_one (dipped_numbers a) (dipped_numbers b) (dipped_numbers c) in (
      (λ h. decided_left _ (greatest (dipped_numbers a) (dipped_numbers b) (dipped_numbers c)) (subst (λ z. pos 0 <ℤ z) (sym l.1) (setting_positive (dipped_numbers a) (dipped_numbers b) (dipped_numbers c) l.0 h))),
      (λ h. decided_right _ _ (subst (λ z. z <ℤ pos 0) (sym l.1) (setting_negative (dipped_numbers a) (dipped_numbers b) (dipped_numbers c) l.0 h)) (subst (λ z. z <ℤ pos 0) (sym g.1) (setting_negative (dipped_numbers a) (dipped_numbers b) (dipped_numbers c) g.0 h))),
    )
