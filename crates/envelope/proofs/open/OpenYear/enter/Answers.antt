use Rattle.envelope.proofs.Callings.{never_refused, enter_refused, enter_taken}
use Rattle.envelope.proofs.open.OpenYear.enter.Goals as goal

pub returns-then-is_full : goal.returns-then-is_full
returns-then-is_full g c =
    rw (← c.self.view_is)
    (enter_refused g.R.Kind.stands (g.J.Judge.word c.args.judge.now) (g.met.J.Judge.certain c.args.judge.now) c.self.inside.table c.args.reading c.is_full.result c.is_full.ensures c.if-is_full.true)

pub returns-in_err-standing : goal.returns-in_err-standing
returns-in_err-standing g c =
    absurd (never_refused (g.J.Judge.word c.args.judge.now) c.self.inside.table c.add.new.self c.settle.new.self c.args.reading c.len-newest.result c.standing.result
    c.len-newest.ensures.standings c.add.ensures c.settle.ensures c.standing.ensures _ c.in_err-standing.was)

pub returns : goal.returns
returns g c =
    rw (← c.self.view_is)
    (enter_taken g.R.Kind.stands (g.J.Judge.word c.args.judge.now) (g.met.J.Judge.certain c.args.judge.now) c.self.inside.table c.args.reading c.is_full.result c.is_full.ensures c.if-is_full.false
    c.add.new.self c.settle.new.self c.len-newest.result c.standing.result c.in_ok-standing.field-0
    c.len-newest.ensures.readings c.len-newest.ensures.standings c.add.ensures c.settle.ensures c.standing.ensures c.in_ok-standing.was)
