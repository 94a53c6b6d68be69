-- What a year holds: an envelope, and how many readings it takes.
use Rattle.std.specs.Prelude.{ℕ}
use Rattle.rules.specs.Envelopes.{Envelope}

pub record Year (R : Type 0) : Type 0 where
  pub envelope : Envelope R
  pub capacity : ℕ
