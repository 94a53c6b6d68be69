use Rattle.std.proofs.Common.{◌≡◌, ◌+◌, length, get_or, refl, ap, ◌∙◌, arith}
use Rattle.std.proofs.lemmas.Bool.{eq-eqb, ne_eqb}
use Rattle.judge.specs.declared.word.Word.TheVariants.{Undecided}
use Rattle.rules.specs.Asking.{asked}
use Rattle.envelope.proofs.SideWords.{all_asked}
use Rattle.envelope.proofs.Walks.{decided_as, walk_begins, walk_more, walk_stops, walk_finds, byte_is}
use Rattle.envelope.proofs.table.Table.run.Goals as goal
use Rattle.envelope.proofs.table.Table.run.Goals.{in-Left, in-Right, then-i-eq0, else-i-eq0, then-start-i, else-start-i, else-first-via-then-first+else-not-before, else-first-via-else-first}

pub loop-i-init : goal.loop-i-init
loop-i-init g c = walk_begins _

pub returns-in-Undecided : goal.returns-in-Undecided
returns-in-Undecided g c =
    let e = c.args.self.now.envelope in
    let word = g.J.Judge.word c.args.judge.now in
    let n = all_asked word e.readings c.args.x.now Undecided e.ring in
    let r : length c.self.inside.ring.items ≡ length c.args.self.now.envelope.ring = rw (← c.self.view_is) in
    walk_stops (asked word e c.args.x.now) c.loop-i.i _ _ _ _ (omega arith) c.in-Undecided.ensures c.loop-i.invariant

pub loop-i-preserved : goal.loop-i-preserved
loop-i-preserved g c =
    let e = c.args.self.now.envelope in
    let word = g.J.Judge.word c.args.judge.now in
    let ws = asked word e c.args.x.now in
    let n = all_asked word e.readings c.args.x.now Undecided e.ring in
    let r : length c.self.inside.ring.items ≡ length c.args.self.now.envelope.ring = rw (← c.self.view_is) in
    let w : decided_as c.match-word_on.right ≡ get_or (asked (g.J.Judge.word c.args.judge.now) c.args.self.now.envelope c.args.x.now) c.loop-i.i Undecided =
    elim c.match-word_on.branch [ in-Left w ↦ ap decided_as w.right-is ∙ w.in-Left.ensures | in-Right w ↦ ap decided_as w.right-is ∙ w.in-Right.ensures ] in
    walk_more ws c.loop-i.i c.loop-i.rights c.loop-i.start c.loop-i.first c.loop-i.before (omega arith) c.match-word_on.right w
    _ _ _ (ap (λ b. c.loop-i.rights + b) (c.from-rights.ensures ∙ byte_is c.match-word_on.right))
    (elim c.if-start-i.branch [
      | then-start-i w ↦ w.start-is ∙ rw (eq-eqb _ _ w.if-start-i.true) (ap (λ b. c.loop-i.start + b) (w.from-start.ensures ∙ byte_is _))
      | else-start-i w ↦ w.start-is ∙ rw (ne_eqb _ _ w.if-start-i.false) refl
    ])
    (elim c.if-i-eq0.branch [ then-i-eq0 w ↦ w.first-is ∙ rw (eq-eqb _ _ w.if-i-eq0.true) refl | else-i-eq0 w ↦ w.first-is ∙ rw (ne_eqb _ _ w.if-i-eq0.false) refl ])
    c.loop-i.invariant

pub returns-then-not-before : goal.returns-then-not-before
returns-then-not-before g c =
    let e = c.args.self.now.envelope in
    let word = g.J.Judge.word c.args.judge.now in
    let n = all_asked word e.readings c.args.x.now Undecided e.ring in
    let r : length c.self.inside.ring.items ≡ length c.args.self.now.envelope.ring = rw (← c.self.view_is) in
    walk_finds (asked word e c.args.x.now) c.loop-i.i _ c.loop-i.start c.loop-i.first c.loop-i.before (omega arith) c.loop-i.invariant 0 (rw (c.if-first.true, c.if-not-before.true) refl)

pub returns-else-first : goal.returns-else-first
returns-else-first g c =
    let e = c.args.self.now.envelope in
    let word = g.J.Judge.word c.args.judge.now in
    let n = all_asked word e.readings c.args.x.now Undecided e.ring in
    let r : length c.self.inside.ring.items ≡ length c.args.self.now.envelope.ring = rw (← c.self.view_is) in
    walk_finds (asked word e c.args.x.now) c.loop-i.i _ c.loop-i.start c.loop-i.first c.loop-i.before (omega arith) c.loop-i.invariant c.loop-i.start
    (elim c.else-first.branch [
      | else-first-via-then-first+else-not-before w ↦ rw (w.if-first.true, w.if-not-before.false) refl
      | else-first-via-else-first w ↦ rw w.if-first.false refl
    ])
