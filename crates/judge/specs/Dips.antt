-- A dip as numbers.
use Rattle.std.specs.Prelude.{ℕ, ℤ, pos, ◌+ℤ◌, ◌-ℤ◌}
use Rattle.plane.specs.Whole.{WholePoint}

-- a coordinate: its centre v and its tolerance h
abbrev pub Coordinate : Type 0
Coordinate = ℤ × ℕ

-- a level, its tolerance, a head and its tolerance
abbrev pub Dip : Type 0
Dip = ℤ × ℕ × ℤ × ℕ

abbrev pub level : Dip → Coordinate
level a = (a.0, a.1)

abbrev pub head : Dip → Coordinate
head a = (a.2, a.3)

-- the ends v - h and v + h of a coordinate
abbrev pub low : Coordinate → ℤ
low x = x.0 -ℤ pos x.1

abbrev pub high : Coordinate → ℤ
high x = x.0 +ℤ pos x.1

abbrev pub at : ℤ → ℤ → WholePoint
at x y = record { level = x; head = y }

-- the point of both centres
abbrev pub centre : Dip → WholePoint
centre a = at a.0 a.2
