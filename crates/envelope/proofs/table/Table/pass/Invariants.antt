use Rattle.std.proofs.Common.{◌≡◌, drop}
use Rattle.rules.specs.Trying.{pass}
use Rattle.envelope.proofs.table.Table.pass.Given as goal

abbrev pub invariant-loop-k : goal.invariant-loop-k
invariant-loop-k g l =
    let word = g.J.Judge.word l.judge in
    let rs = l.fn.self.envelope.readings in
    record {
      passed : pass word (drop l.k rs) l.k l.self.envelope ≡ pass word rs 0 l.fn.self.envelope;
      readings : l.self.envelope.readings ≡ rs;
      capacity : l.self.capacity ≡ l.fn.self.capacity;
    }
