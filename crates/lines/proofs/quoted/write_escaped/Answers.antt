use Rattle.std.proofs.Common.{◌≡◌, ℕ, List, ◌++◌, true, refl, rules}
use Rattle.std.proofs.Output.{has_written_append}
use Rattle.std.specs.List.{flat_map}
use Rattle.lines.specs.Quoted.{escaped}
use Rattle.lines.proofs.Runs.{onward}
use Rattle.lines.proofs.quoted.write_escaped.Goals as goal

pub loop-rest-preserved : goal.loop-rest-preserved
loop-rest-preserved g c =
    let (done, whole, wrote) = c.loop-rest.invariant in
    let part : List ℕ = c.split_at.result.0.now in
    let joined : c.loop-rest.rest.now ≡ part ++ c.split_at.result.1.now = search rules in (
      done ++ flat_map escaped part,
      onward done part _ _ _ joined whole,
      λ plain. has_written_append _ _ _ _ _ _ (wrote plain) (rw c.put_all-end.ensures.text at (c.in_ok-write_ascii.ensures (wrote plain).plain (refl {a = true}))),
    )

pub write_ascii-requires : goal.write_ascii-requires
write_ascii-requires g c = c.put_all-end.ensures.ascii
