use Rattle.std.proofs.Common.{◌≡◌, sym, subst, rules}
use Rattle.reading.specs.contracts.kind.DippedKind.TheImpl as DippedKind
use Rattle.reading.specs.Makes.{dipped_numbers}
use Rattle.judge.specs.Words.{Certain, by_numbers}
use Rattle.judge.specs.Centre.{centre_word}
use Rattle.judge.specs.Centres.{centre_certain}
use Rattle.judge.proofs.centre.CentreJudge.ask.Goals as goal

pub returns : goal.returns
returns c =
    let a = c.args.a.now in
    let b = c.args.b.now in
    let d = c.args.c.now in
    let word : c.of.result ≡ by_numbers dipped_numbers centre_word a b d = search rules in
    record { word = word; certain = subst (Certain (DippedKind.ghosts).stands a b d) (sym word) (centre_certain a b d) }
