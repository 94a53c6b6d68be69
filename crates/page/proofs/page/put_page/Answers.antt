use Rattle.std.proofs.Common.{◌^◌, ◌<◌, length, refl, sym, arith, rules}
use Rattle.page.proofs.Lines.{page_all}
use Rattle.page.proofs.Sheets.{puts_more, puts_as, puts_front}
use Rattle.page.proofs.page.put_page.Goals as goal

pub returns : goal.returns
returns c =
    let few : length c.args.out.now < 2 ^ 64 = omega arith in
    let titled = puts_more few (puts_as c.as_bytes.ensures.value c.put.ensures) c.put-2.ensures in
    let headed = puts_more few (puts_more few titled c.put_number.ensures) c.put-3.ensures in
    let listed = puts_more few headed c.put_standings.ensures in
    let whole = puts_as (page_all c.args.title.now c.args.standings.now c.args.ring.now) (puts_more few listed c.put_ring.ensures) in
    record { end = omega (arith, whole.end); there = λ h. search (rules, puts_front refl whole h, sym whole.same_memory) }
