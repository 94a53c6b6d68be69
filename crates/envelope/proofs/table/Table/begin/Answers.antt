use Rattle.std.proofs.Common.{sym}
use Rattle.envelope.proofs.Starting.{three_numbers}
use Rattle.envelope.proofs.table.Table.begin.Goals as goal

pub start-requires-clause-three : goal.start-requires-clause-three
start-requires-clause-three g c =
    rw (← c.self.view_is) (three_numbers (g.J.Judge.word c.args.judge.now) c.self.inside.readings.items (c.in-Some.a, c.in-Some.b, c.in-Some.c) (rw (← c.deref.ensures.value) (sym c.in-Some.ensures)))
