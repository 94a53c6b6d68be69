use Rattle.std.proofs.Common.{◌≡◌, ◌*◌, ◌≤◌, take}
use Rattle.std.specs.List.{flat_map}
use Rattle.lines.specs.Quoted.{escaped}
use Rattle.lines.proofs.quoted.put_all.Given as goal

abbrev pub invariant-loop-byte : goal.invariant-loop-byte
invariant-loop-byte l = (l.end ≤ 4 * l.byte-index) × (take l.end l.text ≡ flat_map escaped (take l.byte-index l.bytes))
