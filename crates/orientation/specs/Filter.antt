-- The orientation test of three points in binary64, every operation rounded to the nearest number, ties to even. A point is a level and a head.
use Rattle.std.specs.Prelude.{false, Float}
use Rattle.std.specs.Float.Ieee.{add, sub, mul}
use Rattle.std.specs.Float.{float_with_sign, binary64}

infixl 6 ◌⊕◌ ◌⊖◌
infixl 7 ◌⊗◌
abbrev pub ◌⊕◌ : Float → Float → Float
x ⊕ y = add binary64 x y

abbrev pub ◌⊖◌ : Float → Float → Float
x ⊖ y = sub binary64 x y

abbrev pub ◌⊗◌ : Float → Float → Float
x ⊗ y = mul binary64 x y

-- the magnitude
abbrev pub ∣◌∣ : Float → Float
∣ x ∣ = float_with_sign false x

-- D: the doubled area, as far as binary64 tells it
unfoldable pub difference : Float × Float → Float × Float → Float × Float → Float
difference a b c = (a.0 ⊖ c.0) ⊗ (b.1 ⊖ c.1) ⊖ (b.0 ⊖ c.0) ⊗ (a.1 ⊖ c.1)

-- T: what the rounding errors of D are measured by
unfoldable pub weight : Float × Float → Float × Float → Float × Float → Float
weight a b c = (∣ a.0 ∣ ⊕ ∣ c.0 ∣) ⊗ (∣ b.1 ∣ ⊕ ∣ c.1 ∣) ⊕ (∣ b.0 ∣ ⊕ ∣ c.0 ∣) ⊗ (∣ a.1 ∣ ⊕ ∣ c.1 ∣)

-- E: the part k of T, which D must exceed to be trusted
unfoldable pub allowance : Float → Float × Float → Float × Float → Float × Float → Float
allowance k a b c = k ⊗ weight a b c
