-- `Writer::put_entry` meets its contract: the digits, with the sign in front of them below 0.
use Rattle.std.proofs.Common.{refl, ◌∙◌, ◌∷◌, [], cond, arith}
use Rattle.number.specs.Bytes.{minus_byte}
use Rattle.number.specs.Decimal.{low_digits}
use Rattle.number.proofs.Putting.{digits_length}
use Rattle.text.specs.Steps.{Puts}
use Rattle.text.proofs.Puts.{puts_none, puts_room, puts_behind, entry_pieces}
use Rattle.text.proofs.Signs.{sign_read, magnitude_read}
use Rattle.text.proofs.writer.Writer.put_entry.Goals.{then-is_negative, else-is_negative}
use Rattle.text.proofs.writer.Writer.put_entry.Goals as goal

pub put_digits-requires : goal.put_digits-requires
put_digits-requires c =
    let x = c.args.entry in
    let f = c.ranges.entry in
    let pieces = entry_pieces x c.is_negative.result c.from-m.result c.digit_count-count.result
    (c.is_negative.ensures ∙ sign_read x f) (c.from-m.ensures ∙ c.unsigned_abs.ensures.value ∙ magnitude_read x f) c.digit_count-count.ensures.0 in
    let sign : Puts c.args.self.now c.if-is_negative.self (cond c.is_negative.result (minus_byte ∷ []) []) =
    elim c.if-is_negative.branch [
      | then-is_negative w ↦ rw (w.if-is_negative.true, w.self-is) w.put_byte.ensures
      | else-is_negative w ↦ rw (w.if-is_negative.false, w.self-is) (puts_none c.args.self.now)
    ] in
    let digits = low_digits c.digit_count-count.result c.from-m.result in
    omega (arith, puts_room c.args.self.now c.if-is_negative.self (cond c.is_negative.result (minus_byte ∷ []) []) digits sign (rw pieces c.requires), digits_length c.digit_count-count.result c.from-m.result)

pub returns : goal.returns
returns c =
    let x = c.args.entry in
    let f = c.ranges.entry in
    let pieces = entry_pieces x c.is_negative.result c.from-m.result c.digit_count-count.result
    (c.is_negative.ensures ∙ sign_read x f) (c.from-m.ensures ∙ c.unsigned_abs.ensures.value ∙ magnitude_read x f) c.digit_count-count.ensures.0 in
    let sign : Puts c.args.self.now c.if-is_negative.self (cond c.is_negative.result (minus_byte ∷ []) []) =
    elim c.if-is_negative.branch [
      | then-is_negative w ↦ rw (w.if-is_negative.true, w.self-is) w.put_byte.ensures
      | else-is_negative w ↦ rw (w.if-is_negative.false, w.self-is) (puts_none c.args.self.now)
    ] in
    rw (← pieces)
    (puts_behind c.args.self.now c.if-is_negative.self (cond c.is_negative.result (minus_byte ∷ []) []) (low_digits c.digit_count-count.result c.from-m.result) sign (rw pieces c.requires) _ (record {
      lent = refl;
      place = omega (arith, digits_length c.digit_count-count.result c.from-m.result);
      text_after = c.put_digits.ensures;
    }))
