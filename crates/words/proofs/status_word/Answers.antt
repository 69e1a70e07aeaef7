use Prim.Native.Nat.{◌+◌, ◌*◌, ◌<◌}
use mathlib.Core.Path.{refl, ap, ◌∙◌}
use native.Mathlib.Omega.{arith}
use borrow.Author.Tests.{lt-ltb}
use Rattle.words.specs.Words.{words_of}
use Rattle.words.specs.Names.{status_words}
use Rattle.words.proofs.Table.{in_table}
use Rattle.words.proofs.status_word.Goals as goal

pub returns : goal.returns
returns c =
    let byte = c.args.byte in
    let bit = c.args.bit in
    let low : bit < 8 = search (arith, c.if-bit-byte.false) in
    let first : byte < 6 = search (arith, c.if-bit-byte.false) in
    rw (lt-ltb bit 8 low, lt-ltb byte 6 first) (c.row.ensures ∙ ap words_of (in_table status_words refl _ refl (byte * 8 + bit)))
