-- The bits of a number: its sign, its exponent in 11 digits and the last 52 digits of its significand.
use Rattle.std.specs.Prelude.{ℕ, ◌+◌, ◌*◌, ◌%◌, ◌^◌, Bool, cond, ℤ, unsigned_abs}
use Rattle.crosscheck.specs.declared.whole.Whole.{Whole}

abbrev pub pattern : Bool → ℕ → ℤ → ℕ
pattern negative significand exponent = cond negative (2 ^ 63) 0 + unsigned_abs exponent * 2 ^ 52 + significand % 2 ^ 52

abbrev pub bits_of : Whole → ℕ
bits_of w = pattern w.negative w.significand w.exponent
