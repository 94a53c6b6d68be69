use Rattle.std.proofs.Common.{arith}
use Rattle.page.proofs.Lines.{ring_more, ring_all}
use Rattle.page.proofs.Sheets.{puts_more, puts_as}
use Rattle.page.proofs.page.Sheet.put_ring.Goals as goal

pub loop-number-preserved : goal.loop-number-preserved
loop-number-preserved c =
    puts_as (ring_more c.args.ring.now c.loop-number.number-index _ (omega arith)) (puts_more (omega arith) (puts_more (omega arith) c.loop-number.invariant c.put-in-loop-number.ensures) c.put_number.ensures)

pub returns : goal.returns
returns c = puts_as (ring_all c.args.ring.now c.loop-number.number-index (omega arith)) (puts_more (omega arith) c.loop-number.invariant c.put-2.ensures)
