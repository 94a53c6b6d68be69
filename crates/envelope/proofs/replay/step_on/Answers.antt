use Rattle.envelope.proofs.Replaying.{enters_as, rechecks_as}
use Rattle.envelope.proofs.replay.step_on.Goals as goal

pub returns-in-Enter : goal.returns-in-Enter
returns-in-Enter g c = record {
  answers = λ k w. rw c.in-Enter.is (enters_as g.R.Kind.stands (g.J.Judge.word c.in-Enter.judge) c.args.year.now c.enter.new.self _ (k c.in-Enter.judge) (w c.in-Enter.judge) c.in-Enter.reading c.enter.ensures).0;
  leaves = λ k w. rw c.in-Enter.is (enters_as g.R.Kind.stands (g.J.Judge.word c.in-Enter.judge) c.args.year.now c.enter.new.self _ (k c.in-Enter.judge) (w c.in-Enter.judge) c.in-Enter.reading c.enter.ensures).1;
}

pub returns-in-Recheck : goal.returns-in-Recheck
returns-in-Recheck g c = record {
  answers = λ k w. rw c.in-Recheck.is (rechecks_as g.R.Kind.stands (g.J.Judge.word c.in-Recheck.judge) c.args.year.now c.recheck.new.self _ (k c.in-Recheck.judge) (w c.in-Recheck.judge) c.recheck.ensures).0;
  leaves = λ k w. rw c.in-Recheck.is (rechecks_as g.R.Kind.stands (g.J.Judge.word c.in-Recheck.judge) c.args.year.now c.recheck.new.self _ (k c.in-Recheck.judge) (w c.in-Recheck.judge) c.recheck.ensures).1;
}
