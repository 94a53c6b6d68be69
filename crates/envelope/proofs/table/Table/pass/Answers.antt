use Rattle.std.proofs.Common.{◌≡◌, ◌<◌, length, ap, ◌∙◌, arith}
use Rattle.rules.proofs.Lengths.{tried_readings}
use Rattle.envelope.proofs.PassSteps.{one_of, pass_step}
use Rattle.envelope.proofs.table.Table.pass.Goals as goal

pub loop-k-preserved : goal.loop-k-preserved
loop-k-preserved g c =
    let word = g.J.Judge.word c.args.judge.now in
    let rs = c.args.self.now.envelope.readings in
    let e = c.loop-k.self.envelope in
    let inv = c.loop-k.invariant in
    let step = c.try_held.ensures in
    let r : length c.self.inside.readings.items ≡ length c.args.self.now.envelope.readings = rw (← c.self.view_is) in
    let k : c.loop-k.k < length c.args.self.now.envelope.readings = omega arith in
    let x = one_of rs c.loop-k.k k in
    record {
      passed = pass_step word rs c.loop-k.k e c.try_held.new.self.envelope _ k inv.readings (λ x. ap (λ y. y.envelope) (step x)) inv.passed;
      readings = ap (λ y. y.envelope.readings) (step x) ∙ tried_readings word e c.loop-k.k _ ∙ inv.readings;
      capacity = ap (λ y. y.capacity) (step x) ∙ inv.capacity;
    }
