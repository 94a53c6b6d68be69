use Rattle.std.proofs.Common.{refl, ap, ◌∙◌}
use Rattle.envelope.proofs.PassSteps.{passing_first, passing_less, passing_more}
use Rattle.envelope.proofs.table.Table.passes.Goals as goal

pub loop-held-init : goal.loop-held-init
loop-held-init g c = record { passing = passing_first (g.J.Judge.word c.args.judge.now) c.args.self.now.envelope c.held-held.result c.held-held.ensures; capacity = refl }

pub loop-held-smaller : goal.loop-held-smaller
loop-held-smaller g c =
    passing_less (g.J.Judge.word c.args.judge.now) c.args.self.now.envelope c.loop-held.self.envelope c.pass.new.self.envelope c.loop-held.held c.held-left.result
    (ap (λ y. y.envelope) c.pass.ensures) c.held-left.ensures c.loop-held.invariant.passing c.if-left-held.false

pub loop-held-preserved : goal.loop-held-preserved
loop-held-preserved g c = record {
  passing =
      passing_more (g.J.Judge.word c.args.judge.now) c.args.self.now.envelope c.loop-held.self.envelope c.pass.new.self.envelope c.loop-held.held c.held-left.result
      (ap (λ y. y.envelope) c.pass.ensures) c.held-left.ensures c.loop-held.invariant.passing c.if-left-held.false;
  capacity = ap (λ y. y.capacity) c.pass.ensures ∙ c.loop-held.invariant.capacity;
}
