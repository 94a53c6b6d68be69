use Rattle.std.proofs.Common.{◌-ℤ◌, ◌*ℤ◌, sym, ◌∙◌, arith}
use Rattle.std.specs.Int.{int_min, int_max}
use Rattle.reading.specs.Makes.{dipped_numbers}
use Rattle.judge.specs.Corner.{ends}
use Rattle.judge.proofs.Levels.{added, lesser_moves, greater_moves, least_is, greatest_is}
use Rattle.judge.proofs.corner.at_heads.Goals as goal

pub returns-clause-value : goal.returns-clause-value
returns-clause-value c =
    let p = c.spread-first.ensures in
    let q = c.spread-second.ensures in
    let r = c.spread-third.ensures in (
      added int_min lesser_moves (dipped_numbers c.args.a.now) (dipped_numbers c.args.b.now) (dipped_numbers c.args.c.now) c.args.ya c.args.yb c.args.yc _ _ _ (omega arith) (omega arith) (omega arith)
          (p.value.0 ∙ (λ i. ends int_min (c.level.ensures i) (λ t. t *ℤ (c.args.yb -ℤ c.args.yc))))
          (q.value.0 ∙ (λ i. ends int_min (c.level-2.ensures i) (λ t. t *ℤ (c.args.yc -ℤ c.args.ya))))
          (r.value.0 ∙ (λ i. ends int_min (c.level-3.ensures i) (λ t. t *ℤ (c.args.ya -ℤ c.args.yb)))),
      added int_max greater_moves (dipped_numbers c.args.a.now) (dipped_numbers c.args.b.now) (dipped_numbers c.args.c.now) c.args.ya c.args.yb c.args.yc _ _ _ (omega arith) (omega arith) (omega arith)
          (p.value.1 ∙ (λ i. ends int_max (c.level.ensures i) (λ t. t *ℤ (c.args.yb -ℤ c.args.yc))))
          (q.value.1 ∙ (λ i. ends int_max (c.level-2.ensures i) (λ t. t *ℤ (c.args.yc -ℤ c.args.ya))))
          (r.value.1 ∙ (λ i. ends int_max (c.level-3.ensures i) (λ t. t *ℤ (c.args.ya -ℤ c.args.yb)))),
    )

pub returns-clause-least : goal.returns-clause-least
returns-clause-least c = (returns-clause-value c).0 ∙ sym (least_is (dipped_numbers c.args.a.now) (dipped_numbers c.args.b.now) (dipped_numbers c.args.c.now) c.args.ya c.args.yb c.args.yc)

pub returns-clause-greatest : goal.returns-clause-greatest
returns-clause-greatest c = (returns-clause-value c).1 ∙ sym (greatest_is (dipped_numbers c.args.a.now) (dipped_numbers c.args.b.now) (dipped_numbers c.args.c.now) c.args.ya c.args.yb c.args.yc)
