-- A ring that begins elsewhere has the same length, the same corners and the same sides.
use Rattle.std.proofs.Common.{◌≡◌, ℕ, List, length, take, drop, sym, refl, arith, length-append, take-append-drop}
use Rattle.plane.specs.Rings.{sides, In}
use Rattle.plane.proofs.Polygons.{Rotated, Distinct}
use Rattle.plane.proofs.Members.{in_turns, distinct_turns}
use Rattle.plane.proofs.Ways.{sides_turn}
use Rattle.rules.specs.Placing.{turned, lowest_at, from_lowest}

pub turned_rotates : (p : ℕ) (l : List ℕ) → Rotated l (turned p l)
turned_rotates p l = record { front = take p l; back = drop p l; was = sym (take-append-drop p l); is = refl }

pub lowest_rotates : (l : List ℕ) → Rotated l (from_lowest l)
lowest_rotates l = turned_rotates (lowest_at l) l

module _ {l m : List ℕ} (r : Rotated l m) where
  pub rotated_length : length m ≡ length l
  rotated_length = rw (r.was, r.is) (simp length-append (omega arith))

  pub rotated_in : (x : ℕ) → (In x l → In x m) × (In x m → In x l)
  rotated_in x = rw (r.was, r.is) (in_turns x r.front r.back, in_turns x r.back r.front)

  pub rotated_distinct : Distinct l → Distinct m
  rotated_distinct = rw (r.was, r.is) (distinct_turns r.front r.back)

  pub rotated_sides : (s : ℕ × ℕ) → In s (sides m) → In s (sides l)
  rotated_sides s = rw (r.was, r.is) (sides_turn r.back r.front s)

  pub rotated_sides_back : (s : ℕ × ℕ) → In s (sides l) → In s (sides m)
  rotated_sides_back s = rw (r.was, r.is) (sides_turn r.front r.back s)
