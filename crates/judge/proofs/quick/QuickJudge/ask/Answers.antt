use Rattle.std.proofs.Common.{sym, ◌∙◌, subst}
use lib.Ieee.{lt, neg}
use Rattle.reading.specs.contracts.kind.LoggedKind.TheImpl as LoggedKind
use Rattle.judge.specs.Words.{Certain, worded}
use Rattle.judge.specs.Quick.{quick_word}
use Rattle.judge.specs.Quicks.{quick_certain}
use Rattle.judge.proofs.quick.QuickJudge.ask.Goals as goal

pub returns : goal.returns
unfolding quick_word
returns c =
    let d = c.difference-d.ensures in
    let e = c.allowance-e.ensures in
    let word = c.of.ensures ∙ (λ i. worded (lt (e i) (d i)) (lt (e i) (neg (d i)))) in
    record { word = word; certain = subst (Certain (LoggedKind.ghosts).stands c.args.a.now c.args.b.now c.args.c.now) (sym word) (quick_certain c.args.a.now c.args.b.now c.args.c.now) }
