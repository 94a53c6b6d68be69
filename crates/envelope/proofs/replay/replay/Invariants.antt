use Rattle.std.proofs.Common.{◌≤◌, length, min, vec_capacity}
use Rattle.envelope.proofs.Replaying.{judging_by, Played}
use Rattle.envelope.proofs.replay.replay.Given as goal

abbrev pub invariant-loop-step : goal.invariant-loop-step
invariant-loop-step g l = record {
  played : Played g.R.Kind.stands (judging_by g.R.Kind.stands g.J.Judge.word g.met.J.Judge.certain) (λ r. (g.R.Kind.sample r, g.met.R.Kind.some r)) (min l.places 512) l.steps l.step-index l.year l.answers.items;
  room : length l.steps ≤ vec_capacity l.answers;
}
