use Rattle.std.proofs.Common.{rules}
use Rattle.std.proofs.lemmas.Str.{IsUtf8-from_ascii}
use Rattle.lines.proofs.ascii.write_ascii.Goals as goal

pub unwrap-requires : goal.unwrap-requires
unwrap-requires g c = search (rules, IsUtf8-from_ascii)
