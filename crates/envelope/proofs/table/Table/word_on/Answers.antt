use Rattle.std.proofs.Common.{◌<◌, length, inl, inr, arith}
use Rattle.judge.specs.declared.word.Word.TheVariants.{Undecided}
use Rattle.envelope.proofs.SideWords.{Next, word_on_read}
use Rattle.envelope.proofs.table.Table.word_on.Goals as goal
use Rattle.envelope.proofs.table.Table.word_on.Goals.{then-i-sides, else-i-sides}

pub returns : goal.returns
returns g c =
    let t = c.self.inside in
    let within : c.args.i < length t.ring.items = rw (← c.self.view_is) at c.requires in
    let next : Next (length t.ring.items) c.args.i c.if-i-sides.next = elim c.if-i-sides.branch [ then-i-sides w ↦ inl (w.next-is, omega arith) | else-i-sides w ↦ inr (w.next-is, omega arith) ] in
    rw (← c.self.view_is)
    (word_on_read (g.J.Judge.word c.args.judge.now) t.readings.items c.args.x.now Undecided t.ring.items c.args.i c.if-i-sides.next _ _ _ _ _ within next
    (λ p h. let n = c.self.invariant.numbers p (omega arith) in omega arith)
    c.index-a.ensures c.index-b.ensures c.index.ensures c.index-2.ensures c.ask.ensures.word)
