use Rattle.std.proofs.Common.{◌≡◌, pos, ◌*◌, ◌≤◌, unsigned_abs, ap, arith, mul-le-mul}
use Rattle.std.proofs.lemmas.Int.{ints}
use Rattle.judge.specs.Dips.{Coordinate}
use Rattle.judge.proofs.coordinate.Difference.doubt.Goals as goal

pub returns-clause-value : goal.returns-clause-value
returns-clause-value c =
    let s = c.self.inside.tolerance in
    let o = c.other.inside.tolerance in
    let by = ap (λ (v : Coordinate). v.1) c.self.view_is in
    let other_by = ap (λ (v : Coordinate). v.1) c.other.view_is in
    let first = ap (λ n. unsigned_abs c.args.other.0 * n) by in
    let second = ap (λ n. unsigned_abs c.args.self.0 * n) other_by in
    let third : s * o ≡ c.args.self.1 * c.args.other.1 = λ i. by i * other_by i in
    let both : c.from-both.result ≡ pos (s * o) = cc in
    let h : s ≤ 65535 = omega arith in
    let k : o ≤ 65535 = omega arith in
    let few : s * o ≤ 65535 * 65535 = mul-le-mul h k in
    omega (arith, ints)
