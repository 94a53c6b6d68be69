use Rattle.std.proofs.Common.{◌≡◌, ◌-ℤ◌, ◌*ℤ◌, ◌∙◌, arith}
use Rattle.std.proofs.lemmas.Int.{ints}
use Rattle.judge.specs.Centre.{centre_area}
use Rattle.judge.proofs.Levels.{held}
use Rattle.judge.proofs.centre.Centre.area.Goals as goal

pub overflow_sub-result : goal.overflow_sub-result
overflow_sub-result c = omega (arith, ints)

pub returns : goal.returns
unfolding centre_area
returns c =
    let d = c.of-p.ensures in
    let first = c.times.ensures.value ∙ (λ i. (d.p i).0 *ℤ (d.q i).0) in
    let second = c.times-2.ensures.value ∙ (λ i. (d.r i).0 *ℤ (d.s i).0) in
    let fits : held (held c.times.result -ℤ held c.times-2.result) ≡ c.times.result -ℤ c.times-2.result = omega (arith, ints) in
    record { value = fits ∙ (λ i. first i -ℤ second i); small = omega (arith, ints) }
