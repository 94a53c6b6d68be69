use Rattle.std.proofs.Common.{rules}
use Rattle.reading.specs.Makes.{dipped_numbers}
use Rattle.judge.specs.Dips.{head, low, high}
use Rattle.judge.specs.Corner.{at_heads, over_third}
use Rattle.judge.specs.Spans.{IsSpan}
use Rattle.judge.proofs.Sweeps.{swept_ends}
use Rattle.judge.proofs.corner.over_third.Goals as goal

pub returns : goal.returns
unfolding over_third
returns c =
    let x = head (dipped_numbers c.args.c.now) in
    let z = c.head.result in
    let e = c.over_ends.ensures in
    let at_low : IsSpan (λ pick. at_heads pick (dipped_numbers c.args.a.now) (dipped_numbers c.args.b.now) (dipped_numbers c.args.c.now) c.args.ya c.args.yb (low z)) e.0 = search rules in
    let at_high : IsSpan (λ pick. at_heads pick (dipped_numbers c.args.a.now) (dipped_numbers c.args.b.now) (dipped_numbers c.args.c.now) c.args.ya c.args.yb (high z)) e.1 = search rules in
    swept_ends x z c.head.ensures (λ pick. at_heads pick (dipped_numbers c.args.a.now) (dipped_numbers c.args.b.now) (dipped_numbers c.args.c.now) c.args.ya c.args.yb) e.0 e.1 c.over_ends.result at_low at_high e.4 e.5
