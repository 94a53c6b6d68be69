-- The quick judge's word on three points on file, each a level and a head in binary64.
use Rattle.std.specs.Prelude.{from_bits, Float}
use Rattle.std.specs.Float.{binary64}
use Rattle.std.specs.Float.Ieee.{lt, neg}
use Rattle.orientation.specs.Filter.{difference, allowance}
use Rattle.judge.specs.declared.word.Word.{Word}
use Rattle.judge.specs.Words.{worded}

-- 6 · 2^-53, by its bits
abbrev pub coefficient : Float
coefficient = from_bits binary64 0x3cc8_0000_0000_0000

-- left where D > E, right where -D > E
unfoldable pub quick_word : Float × Float → Float × Float → Float × Float → Word
quick_word a b c = worded (lt (allowance coefficient a b c) (difference a b c)) (lt (allowance coefficient a b c) (neg (difference a b c)))
