use Rattle.std.proofs.Common.{◌≡◌, pos, ◌+◌, ◌+ℤ◌, ◌∙◌, arith, w64, to_z, of_z}
use Rattle.std.proofs.lemmas.Int.{ints}
use Rattle.judge.specs.Centre.{product_doubt, centre_doubt}
use Rattle.judge.proofs.centre.Centre.doubt.Goals as goal

pub returns : goal.returns
unfolding centre_doubt
returns c =
    let d = c.of-p.ensures in
    let p = c.doubt.ensures in
    let q = c.doubt-2.ensures in
    let small : to_z w64 (of_z w64 (to_z w64 (of_z w64 c.doubt.result) +ℤ to_z w64 (of_z w64 c.doubt-2.result))) ≡ pos (product_doubt c.of-p.result.p c.of-p.result.q + product_doubt c.of-p.result.r c.of-p.result.s) = omega (arith, ints) in
    small ∙ (λ i. pos (product_doubt (d.p i) (d.q i) + product_doubt (d.r i) (d.s i)))
