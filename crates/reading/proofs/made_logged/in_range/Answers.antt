use Rattle.std.proofs.Common.{Bool, true, false, ◌&&◌, T, sym, ap, ◌∙◌, subst}
use lib.Ieee.{le}
use lib.Ieee.Compare.{differs_from_itself}
use Rattle.reading.specs.Limits.{least, most, loggable}
use Rattle.reading.proofs.Range.{no_nan, range_is}
use Rattle.reading.proofs.made_logged.in_range.Goals as goal

pub returns-then-x : goal.returns-then-x
returns-then-x c = no_nan ∙ ap loggable (sym (differs_from_itself c.args.x (subst T (sym c.if-x.true) tt)))

pub returns-then-x-2 : goal.returns-then-x-2
returns-then-x-2 c = c.is_sign_positive.ensures ∙ sym (range_is c.args.x true c.well_formed.0.1 c.if-x-2.true)

pub returns-then-size : goal.returns-then-size
returns-then-size c =
    sym (range_is c.args.x false c.well_formed.0.1 c.if-x-2.false
    ∙ (λ i. le least (sym c.abs-size.ensures.value i) && le (sym c.abs-size.ensures.value i) most)
    ∙ ap (λ (b : Bool). b && le c.abs-size.result most) c.if-size.true)

pub returns-else-size : goal.returns-else-size
returns-else-size c =
    c.if-size.false
    ∙ sym (range_is c.args.x false c.well_formed.0.1 c.if-x-2.false
    ∙ (λ i. le least (sym c.abs-size.ensures.value i) && le (sym c.abs-size.ensures.value i) most)
    ∙ ap (λ (b : Bool). b && le c.abs-size.result most) c.if-size.false)
