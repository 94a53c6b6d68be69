use Rattle.std.proofs.Common.{ℕ, [], ◌∷◌, ap, arith}
use Rattle.std.proofs.lemmas.List.{append-nil}
use Rattle.page.proofs.Lines.{lines_none, lines_more}
use Rattle.page.proofs.Sheets.{puts_more, puts_as}
use Rattle.page.proofs.page.Sheet.put_standings.Goals as goal

pub loop-i-init : goal.loop-i-init
loop-i-init c = grind (arith, append-nil, lines_none)

pub loop-i-preserved : goal.loop-i-preserved
loop-i-preserved c =
    let numbered = puts_more (omega arith) c.loop-i.invariant c.put_number.ensures in
    let line = puts_as (ap (λ (l : ℕ). 32 ∷ l ∷ 10 ∷ []) c.letter.ensures) c.put.ensures in
    puts_as (lines_more c.args.standings.now c.loop-i.i _ c.loop-i-test.true) (puts_more (omega arith) numbered line)
