use Rattle.std.proofs.Common.{◌≡◌, ◌≤◌, get_or, drop}
use Rattle.rules.specs.Placing.{lowest_at}
use Rattle.envelope.proofs.LowestSoFar.{lowest_from}
use Rattle.envelope.proofs.ring.lowest_at.Given as goal

abbrev pub invariant-loop-p : goal.invariant-loop-p
invariant-loop-p l = record {
  found : lowest_from l.lowest (get_or l.ring l.lowest 0) l.p (drop l.p l.ring) ≡ lowest_at l.ring;
  within : l.lowest ≤ l.p;
}
