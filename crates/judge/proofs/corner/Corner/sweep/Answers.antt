use Rattle.std.proofs.Common.{◌∙◌, w64, SFits, rules}
use Rattle.std.proofs.lemmas.Int.{to_z-of_z}
use Rattle.reading.specs.Makes.{dipped_numbers}
use Rattle.judge.specs.Dips.{head, low, high}
use Rattle.judge.specs.Corner.{over_second, swept}
use Rattle.judge.specs.Spans.{IsSpan}
use Rattle.judge.proofs.Sweeps.{swept_ends}
use Rattle.judge.proofs.corner.Corner.sweep.Goals as goal

pub returns : goal.returns
unfolding swept
returns c =
    let x = head (dipped_numbers c.args.a.now) in
    let z = c.head-ya.result in
    let at_low : IsSpan (λ pick. over_second pick (dipped_numbers c.args.a.now) (dipped_numbers c.args.b.now) (dipped_numbers c.args.c.now) (low z)) c.over_second.result = search rules in
    let at_high : IsSpan (λ pick. over_second pick (dipped_numbers c.args.a.now) (dipped_numbers c.args.b.now) (dipped_numbers c.args.c.now) (high z)) c.over_second-2.result = search rules in
    let s = swept_ends x z c.head-ya.ensures (λ pick. over_second pick (dipped_numbers c.args.a.now) (dipped_numbers c.args.b.now) (dipped_numbers c.args.c.now)) c.over_second.result c.over_second-2.result c.join-all.result at_low at_high c.join-all.ensures.least c.join-all.ensures.greatest in
    let fits : SFits w64 c.join-all.result.least × SFits w64 c.join-all.result.greatest = search rules in
    λ i. ((to_z-of_z w64 c.join-all.result.least fits.0 ∙ s.0) i, (to_z-of_z w64 c.join-all.result.greatest fits.1 ∙ s.1) i)
