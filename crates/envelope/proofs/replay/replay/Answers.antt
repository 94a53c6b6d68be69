use Rattle.std.proofs.Common.{sym, refl, arith}
use Rattle.envelope.proofs.Replaying.{judging_by, none_played, one_more, replayed}
use Rattle.envelope.proofs.replay.replay.Goals as goal

pub loop-step-init : goal.loop-step-init
loop-step-init g c = let e = c.in_ok-answers.ensures in record {
  played = rw (c.in_ok-year.ensures.year, c.in_ok-answers.ensures.items) (none_played g.R.Kind.stands (judging_by g.R.Kind.stands g.J.Judge.word g.met.J.Judge.certain) (λ r. (g.R.Kind.sample r, g.met.R.Kind.some r)) _ c.args.steps.now);
  room = omega arith;
}

pub push_reserved-requires : goal.push_reserved-requires
push_reserved-requires g c = let p = c.loop-step.invariant.played.count in let r = c.loop-step.invariant.room in let o = c.loop-step.answers.ok.0 in omega arith

pub loop-step-preserved : goal.loop-step-preserved
loop-step-preserved g c =
    let judging = judging_by g.R.Kind.stands g.J.Judge.word g.met.J.Judge.certain in
    let r = c.loop-step.invariant.room in
    let q = c.push_reserved.ensures.capacity in
    record {
      played = rw c.push_reserved.ensures.items
          (one_more g.R.Kind.stands judging (λ r. (g.R.Kind.sample r, g.met.R.Kind.some r)) _ c.args.steps.now c.loop-step.step-index c.step-item.result c.loop-step.year c.step_on.new.year
          c.loop-step.answers.items c.step_on.result c.loop-step-test.true (sym c.step-item.is)
          (c.step_on.ensures.answers judging (λ j. refl)) (c.step_on.ensures.leaves judging (λ j. refl)) c.loop-step.invariant.played);
      room = omega arith;
    }

pub returns-clause-answers : goal.returns-clause-answers
returns-clause-answers g c =
    let judging = judging_by g.R.Kind.stands g.J.Judge.word g.met.J.Judge.certain in
    let t = c.loop-step-test.false in
    let e = c.loop-step.auto.step-index-end in
    replayed g.R.Kind.stands judging (λ r. (g.R.Kind.sample r, g.met.R.Kind.some r)) _ c.args.steps.now c.loop-step.step-index c.loop-step.year c.loop-step.answers.items g.J.Judge.word (λ j. refl) (omega arith) c.loop-step.invariant.played
