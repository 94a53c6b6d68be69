-- What a table's lists hold, and what always holds of them.
use Rattle.std.specs.Prelude.{◌≡◌, ℕ, ◌+◌, ◌<◌, ◌≤◌, slice_index, vec_len, vec_capacity}
use Rattle.rules.specs.Trying.{held_count}
use Rattle.envelope.specs.Years.{Year}
use Rattle.envelope.specs.declared.table.Table.TheInside.{Inside}

abbrev pub year_of : {R : Type 0} → Inside R → Year R
year_of t = record { envelope = record { readings = t.readings.items; standings = t.standings.items; ring = t.ring.items }; capacity = vec_capacity t.readings }

pub record Ready {R : Type 0} (t : Inside R) : Type 0 where
  pub level : vec_len t.standings ≡ vec_len t.readings
  pub numbers : (p : ℕ) → p < vec_len t.ring → slice_index t.ring.items p < vec_len t.readings
  -- a held reading always finds room in the ring
  pub places : vec_len t.ring + held_count t.standings.items ≤ vec_len t.readings
  pub standings_room : vec_capacity t.readings ≤ vec_capacity t.standings
  pub ring_room : vec_capacity t.readings ≤ vec_capacity t.ring
  pub few : vec_capacity t.readings ≤ 512
