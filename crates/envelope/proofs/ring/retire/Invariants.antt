use Rattle.std.proofs.Common.{◌≡◌, drop}
use Rattle.rules.specs.Trying.{all_inside}
use Rattle.envelope.proofs.ring.retire.Given as goal

abbrev pub invariant-loop-corner : goal.invariant-loop-corner
invariant-loop-corner l = all_inside (drop l.corner-index l.corners) l.standings ≡ all_inside l.corners l.fn.standings
