use Rattle.std.proofs.Common.{◌≡◌, length, sym, ◌∙◌, arith}
use Rattle.std.proofs.lemmas.Bool.{eqb-true, eqb-false}
use Rattle.judge.specs.declared.word.Word.TheVariants.{Left, Right, Undecided}
use Rattle.rules.specs.Asking.{asked}
use Rattle.envelope.proofs.SideWords.{all_asked}
use Rattle.envelope.proofs.Locations.{location_first, location_more, location_last}
use Rattle.envelope.proofs.table.Table.located.Goals as goal
use Rattle.envelope.proofs.table.Table.located.Goals.{then-is_empty, else-is_empty, in-Left, in-Undecided}

pub loop-i-init : goal.loop-i-init
loop-i-init g c =
    let e = c.args.self.now.envelope in
    let word = g.J.Judge.word c.args.judge.now in
    let n = all_asked word e.readings c.args.x.now Undecided e.ring in
    let r : length c.self.inside.ring.items ≡ length c.args.self.now.envelope.ring = rw (← c.self.view_is) in
    elim c.if-is_empty.branch [
      | then-is_empty w ↦ location_first _ (asked word e c.args.x.now) (λ z. w.location-is) (λ h. let q = eqb-true _ _ (sym c.is_empty.ensures ∙ w.if-is_empty.true) in absurd (omega arith))
      | else-is_empty w ↦ location_first _ (asked word e c.args.x.now) (λ z. absurd (eqb-false _ _ (sym c.is_empty.ensures ∙ w.if-is_empty.false) (omega arith))) (λ h. w.location-is)
    ]

pub returns-in-Right : goal.returns-in-Right
returns-in-Right g c =
    let e = c.args.self.now.envelope in
    let word = g.J.Judge.word c.args.judge.now in
    let n = all_asked word e.readings c.args.x.now Undecided e.ring in
    let r : length c.self.inside.ring.items ≡ length c.args.self.now.envelope.ring = rw (← c.self.view_is) in
    location_more c.loop-i.location (asked word e c.args.x.now) c.loop-i.i Right (omega arith) c.in-Right.ensures ∙ c.loop-i.invariant

pub loop-i-preserved : goal.loop-i-preserved
loop-i-preserved g c =
    let e = c.args.self.now.envelope in
    let word = g.J.Judge.word c.args.judge.now in
    let n = all_asked word e.readings c.args.x.now Undecided e.ring in
    let r : length c.self.inside.ring.items ≡ length c.args.self.now.envelope.ring = rw (← c.self.view_is) in
    elim c.match-word_on.branch [
      | in-Left w ↦ rw w.location-is (location_more c.loop-i.location (asked word e c.args.x.now) c.loop-i.i Left (omega arith) w.in-Left.ensures ∙ c.loop-i.invariant)
      | in-Undecided w ↦ rw w.location-is (location_more c.loop-i.location (asked word e c.args.x.now) c.loop-i.i Undecided (omega arith) w.in-Undecided.ensures ∙ c.loop-i.invariant)
    ]

pub returns : goal.returns
returns g c =
    let e = c.args.self.now.envelope in
    let word = g.J.Judge.word c.args.judge.now in
    let n = all_asked word e.readings c.args.x.now Undecided e.ring in
    let r : length c.self.inside.ring.items ≡ length c.args.self.now.envelope.ring = rw (← c.self.view_is) in
    sym (location_last c.loop-i.location (asked word e c.args.x.now) c.loop-i.i (omega arith)) ∙ c.loop-i.invariant
