use Rattle.std.proofs.Common.{◌≡◌, ◌<◌, ◌++◌, get_or, take, sym, ◌∙◌, subst, arith}
use Rattle.std.proofs.lemmas.List.{take_all}
use Rattle.std.specs.List.{flat_map}
use Rattle.std.specs.Str.{IsAscii}
use Rattle.std.proofs.ByRecursion.{All-from_get_or}
use Rattle.lines.specs.Quoted.{escaped}
use Rattle.lines.proofs.Runs.{one_more, escaped_ascii}
use Rattle.lines.proofs.quoted.put_all.Goals as goal

pub loop-byte-preserved : goal.loop-byte-preserved
loop-byte-preserved c = (omega arith, c.put-end.ensures.text ∙ (λ i. c.loop-byte.invariant.1 i ++ escaped (get_or c.args.bytes.now c.loop-byte.byte-index 0)) ∙ sym (one_more c.args.bytes.now c.loop-byte.byte-index c.loop-byte-test.true))

pub returns-clause-ascii : goal.returns-clause-ascii
returns-clause-ascii c =
    let bs = c.args.bytes.now in
    let all : take c.loop-byte.byte-index bs ≡ bs = take_all c.loop-byte.byte-index bs c.loop-byte-test.false in
    let is : take c.loop-byte.end c.loop-byte.text ≡ flat_map escaped bs = rw all at c.loop-byte.invariant.1 in
    subst IsAscii (sym is) (escaped_ascii bs (All-from_get_or (λ b. b < 256) bs 0 (λ i l. omega (arith, c.type_inv.bytes i))))
