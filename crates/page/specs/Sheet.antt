-- Bytes put into a sheet one after another.
use Rattle.std.specs.Prelude.{◌≡◌, ℕ, ◌+◌, ◌-◌, ◌^◌, ◌≤◌, min, List, ◌++◌, length, take, drop}
use Rattle.page.specs.declared.page.Sheet.{Sheet}

-- the memory up to where the next byte goes
abbrev pub written : Sheet → List ℕ
written s = take s.end s.out.now

-- and from there on
abbrev pub beyond : Sheet → List ℕ
beyond s = drop s.end s.out.now

-- putting bs turns s into t, over the same memory; where that reaches so far, bs come after what was written, and all beyond keeps its bytes
pub record Puts (s : Sheet) (bs : List ℕ) (t : Sheet) : Type 0 where
  pub same_memory : t.out.ghost_name ≡ s.out.ghost_name
  pub same_size : length t.out.now ≡ length s.out.now
  pub end : t.end ≡ min (s.end + length bs) (2 ^ 64 - 1)
  pub there : s.end + length bs ≤ length s.out.now → written t ≡ written s ++ bs
  pub rest : s.end + length bs ≤ length s.out.now → beyond t ≡ drop (length bs) (beyond s)
