-- The centre judge's word on three dips.
use Rattle.std.specs.Prelude.{ℕ, ◌+◌, ◌*◌, ℤ, pos, ◌-ℤ◌, neg_ℤ, int_lt, unsigned_abs}
use Rattle.plane.specs.Whole.{area}
use Rattle.judge.specs.declared.word.Word.{Word}
use Rattle.judge.specs.Words.{worded}
use Rattle.judge.specs.Dips.{Coordinate, Dip, level, head, centre}

-- the difference of two coordinates: of their centres, with both tolerances together
abbrev pub apart : Coordinate → Coordinate → Coordinate
apart x z = (x.0 -ℤ z.0, x.1 + z.1)

-- how far the product of two differences may lie from that of their centres: |q|·hp + |p|·hq + hp·hq
abbrev pub product_doubt : Coordinate → Coordinate → ℕ
product_doubt p q = unsigned_abs q.0 * p.1 + unsigned_abs p.0 * q.1 + p.1 * q.1

-- C: the doubled area of the centres
unfoldable pub centre_area : Dip → Dip → Dip → ℤ
centre_area a b c = area (centre a) (centre b) (centre c)

-- R: how far the true doubled area may lie from C
unfoldable pub centre_doubt : Dip → Dip → Dip → ℕ
centre_doubt a b c = product_doubt (apart (level a) (level c)) (apart (head b) (head c)) + product_doubt (apart (level b) (level c)) (apart (head a) (head c))

-- left where C > R, right where -C > R
abbrev pub centre_word : Dip → Dip → Dip → Word
centre_word a b c = worded (int_lt (pos (centre_doubt a b c)) (centre_area a b c)) (int_lt (pos (centre_doubt a b c)) (neg_ℤ (centre_area a b c)))
