-- `text::writer::entry_length` meets its contract: the digits, and one byte more for the sign.
use mathlib.Core.Path.{sym, ◌∙◌}
use native.Mathlib.Omega.{arith}
use Rattle.text.proofs.Entries.{entry_long, sign_short}
use Rattle.text.proofs.Signs.{sign_read, magnitude_read}
use Rattle.text.proofs.writer.entry_length.Goals as goal

pub returns : goal.returns
returns c =
    let x = c.args.entry in
    let f = c.ranges.entry in
    let long = entry_long x c.is_negative.result c.from.result c.digit_count.result
    (c.is_negative.ensures ∙ sign_read x f) (c.from.ensures ∙ c.unsigned_abs.ensures.value ∙ magnitude_read x f) c.digit_count.ensures.0 in
    (rw c.from-2.ensures (sym long), omega (arith, sign_short c.is_negative.result))
