use Rattle.std.proofs.Common.{take}
use Rattle.page.specs.Sheet.{Puts}
use Rattle.page.specs.Text.{standing_lines}
use Rattle.page.proofs.page.Sheet.put_standings.Given as goal

abbrev pub invariant-loop-i : goal.invariant-loop-i
invariant-loop-i l = Puts l.initial.self (standing_lines 0 (take l.i l.standings)) l.self
