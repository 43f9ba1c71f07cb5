-- `text::write` meets its contract: the tests pick one of the three answers, and only the last one writes.
use mathlib.Core.Path.{sym, ap, ◌∙◌}
use native.Mathlib.Omega.{arith}
use lib.ListN.{length}
use Rattle.number.specs.Codes.{too_long, no_room_code}
use Rattle.text.specs.Writing.{written, refused_write, accepted_write}
use Rattle.text.proofs.Writes.{write_long, write_short, write_fits, into_kept, into_written, put_front}
use Rattle.text.proofs.write.Goals as goal

pub returns-then-list-gt-MAX_ENTRIES : goal.returns-then-list-gt-MAX_ENTRIES
returns-then-list-gt-MAX_ENTRIES c =
    let a = c.args in
    let e = write_long a.list.now (length a.text.now) (omega arith) in
    record { value = sym e; text_after = sym (into_kept a.list.now a.text.now too_long 0 (omega arith) e) }

pub returns-then-text-needed : goal.returns-then-text-needed
returns-then-text-needed c =
    let a = c.args in
    let n = c.text_length-needed.ensures in
    let e = write_short a.list.now (length a.text.now) (omega arith) (omega arith) in
    record { value = ap (refused_write no_room_code) n ∙ sym e; text_after = sym (into_kept a.list.now a.text.now no_room_code (length (written a.list.now)) (omega arith) e) }

pub returns : goal.returns
returns c =
    let a = c.args in
    let n = c.text_length-needed.ensures in
    let e = write_fits a.list.now (length a.text.now) (omega arith) (omega arith) in
    record { value = ap accepted_write n ∙ sym e; text_after = c.put_text.ensures ∙ put_front a.list.now a.text.now ∙ sym (into_written a.list.now a.text.now _ e) }
