use Rattle.std.proofs.Common.{◌≡◌, ◌-◌, length, refl, arith}
use borrow.Rule.Slice.PartMut.{put_mid}
use Rattle.page.proofs.Sheets.{puts_one}
use Rattle.page.proofs.page.Sheet.put.Goals as goal

pub returns-then-self : goal.returns-then-self
returns-then-self c =
    let sheet = c.args.self.now in
    let size : c.saturating_add-self.result - sheet.end ≡ length c.args.bytes.now = omega arith in
    puts_one sheet _ c.args.bytes.now refl c.saturating_add-self.ensures (omega arith) (omega arith)
    (λ i. put_mid sheet.end (size i) sheet.out.now (c.copy_from_slice.ensures.after i))
