-- Points of whole coordinates, and the doubled area of three.
use Rattle.std.specs.Prelude.{ℤ, ◌-ℤ◌, ◌*ℤ◌}

pub record WholePoint : Type 0 where
  pub level : ℤ
  pub head : ℤ

-- (xa - xc)·(yb - yc) - (xb - xc)·(ya - yc)
abbrev pub area : WholePoint → WholePoint → WholePoint → ℤ
area a b c = ((a.level -ℤ c.level) *ℤ (b.head -ℤ c.head)) -ℤ ((b.level -ℤ c.level) *ℤ (a.head -ℤ c.head))
