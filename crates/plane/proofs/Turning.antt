-- A ring may begin at any of its corners.
use Rattle.std.proofs.Common.{ℕ, List, ◌++◌}
use Rattle.plane.specs.Whole.{WholePoint}
use Rattle.plane.proofs.Polygons.{Inside, Convex}
use Rattle.plane.proofs.Members.{in_turns}
use Rattle.plane.proofs.Ways.{sides_turn}

module _ (p : ℕ → WholePoint) (l m : List ℕ) where
  pub inside_turns : (c : ℕ) → Inside p (l ++ m) c → Inside p (m ++ l) c
  inside_turns c h s i = h s (sides_turn m l s i)

  pub ring_turns : Convex p (l ++ m) → Convex p (m ++ l)
  ring_turns h c i = inside_turns c (h c (in_turns c m l i))
