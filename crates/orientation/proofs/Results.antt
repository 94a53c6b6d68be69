-- The rounded results on the way to D, T and E as whole numbers of units, each near what it is rounded from.
use Rattle.std.proofs.Common.{ℕ, ◌+◌, ◌*◌, ℤ, pos, ◌-ℤ◌, ◌*ℤ◌, nat_abs}
use lib.Ieee.{Float}
use Rattle.plane.specs.Whole.{WholePoint}
use Rattle.orientation.proofs.Near.{Near}
use Rattle.orientation.proofs.Units.{K, Val}

-- of the points a, b and c, recorded in units, and a coefficient of k units
pub record Results (a b c : WholePoint) (k : ℕ) (difference weight allowance : Float) : Type 0 where
  pub p : ℤ
  pub q : ℤ
  pub r : ℤ
  pub s : ℤ
  pub w₁ : ℤ
  pub w₂ : ℤ
  pub D : ℤ
  pub near_p : Near p (a.level -ℤ c.level)
  pub near_q : Near q (b.head -ℤ c.head)
  pub near_r : Near r (b.level -ℤ c.level)
  pub near_s : Near s (a.head -ℤ c.head)
  pub near_w₁ : Near (w₁ *ℤ pos K) (p *ℤ q)
  pub near_w₂ : Near (w₂ *ℤ pos K) (r *ℤ s)
  pub near_D : Near D (w₁ -ℤ w₂)
  pub P : ℕ
  pub Q : ℕ
  pub R : ℕ
  pub S : ℕ
  pub W₁ : ℕ
  pub W₂ : ℕ
  pub T : ℕ
  pub E : ℕ
  pub near_P : Near (pos P) (pos (nat_abs a.level + nat_abs c.level))
  pub near_Q : Near (pos Q) (pos (nat_abs b.head + nat_abs c.head))
  pub near_R : Near (pos R) (pos (nat_abs b.level + nat_abs c.level))
  pub near_S : Near (pos S) (pos (nat_abs a.head + nat_abs c.head))
  pub near_W₁ : Near (pos (W₁ * K)) (pos (P * Q))
  pub near_W₂ : Near (pos (W₂ * K)) (pos (R * S))
  pub near_T : Near (pos T) (pos (W₁ + W₂))
  pub near_E : Near (pos (E * K)) (pos (k * T))
  pub is_D : Val difference D
  pub is_T : Val weight (pos T)
  pub is_E : Val allowance (pos E)
