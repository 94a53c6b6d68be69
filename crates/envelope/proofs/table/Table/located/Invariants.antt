use Rattle.std.proofs.Common.{◌≡◌, drop}
use Rattle.rules.specs.Asking.{asked, located}
use Rattle.envelope.proofs.Locations.{location_from}
use Rattle.envelope.proofs.table.Table.located.Given as goal

abbrev pub invariant-loop-i : goal.invariant-loop-i
invariant-loop-i g l =
    let word = g.J.Judge.word l.judge in
    location_from l.location (drop l.i (asked word l.self.envelope l.x)) ≡ located word l.self.envelope l.x
