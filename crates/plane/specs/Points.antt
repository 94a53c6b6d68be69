-- Points of the plane, and the doubled area of three.
use Rattle.plane.specs.Fractions.{Fraction, minus, times}

-- a reservoir level, drawn to the right, and a pressure head, drawn upward
pub record Point : Type 0 where
  pub level : Fraction
  pub head : Fraction

-- (xa - xc)·(yb - yc) - (xb - xc)·(ya - yc), x being level and y head: positive where c lies strictly left of the line from a to b
abbrev pub doubled_area : Point → Point → Point → Fraction
doubled_area a b c =
    minus (times (minus a.level c.level) (minus b.head c.head)) (times (minus b.level c.level) (minus a.head c.head))
