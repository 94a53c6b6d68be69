use Rattle.std.proofs.Common.{arith}
use Rattle.std.proofs.lemmas.Int.{ints}
use Rattle.judge.proofs.Spreading.{spread}
use Rattle.judge.proofs.coordinate.Coordinate.spread.Goals as goal

pub overflow_sub-result : goal.overflow_sub-result
overflow_sub-result c =
    let s = spread c.self.inside.centre c.self.inside.tolerance c.self.invariant.0 c.self.invariant.1 c.minus-factor.ensures.value c.minus-factor.ensures.short c.from.ensures c.from-2.ensures c.abs.ensures.value in
    omega (arith, ints)

pub overflow_add-result : goal.overflow_add-result
overflow_add-result c =
    let s = spread c.self.inside.centre c.self.inside.tolerance c.self.invariant.0 c.self.invariant.1 c.minus-factor.ensures.value c.minus-factor.ensures.short c.from.ensures c.from-2.ensures c.abs.ensures.value in
    omega (arith, ints)

pub returns : goal.returns
returns c =
    let s = spread c.self.inside.centre c.self.inside.tolerance c.self.invariant.0 c.self.invariant.1 c.minus-factor.ensures.value c.minus-factor.ensures.short c.from.ensures c.from-2.ensures c.abs.ensures.value in
    record {
      value = rw (← c.self.view_is) (s.least_is, s.greatest_is);
      least_small = omega (arith, ints);
      greatest_small = omega (arith, ints);
    }
