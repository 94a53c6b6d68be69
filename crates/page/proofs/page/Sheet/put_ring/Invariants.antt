use Rattle.std.proofs.Common.{◌++◌, take, codes}
use Rattle.page.specs.Sheet.{Puts}
use Rattle.page.specs.Text.{ring_numbers}
use Rattle.page.proofs.page.Sheet.put_ring.Given as goal

abbrev pub invariant-loop-number : goal.invariant-loop-number
invariant-loop-number l = Puts l.fn.self (codes "RING" ++ ring_numbers (take l.number-index l.ring)) l.self
