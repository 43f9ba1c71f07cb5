-- `Reader::next_entry` meets its contract: the byte at the first place that does not separate says which thing stands there.
use Rattle.std.proofs.Common.{◌≡◌, rules, add-one, sym, ap, ◌∙◌}
use mir.Syntax.{w32}
use mir.Val.{SFits}
use mir.ValLaws.{to_z-of_z}
use borrow.Author.Tests.{ltb-false}
use Rattle.number.specs.Numbers.{Value, number_at}
use Rattle.text.specs.Steps.{item_of_number}
use Rattle.text.proofs.Items.{found_byte, item_refused, item_end, item_opens, item_closes, item_number}
use Rattle.text.proofs.reader.Reader.next_entry.Goals as goal

pub returns-in-None-clause-value : goal.returns-in-None-clause-value
returns-in-None-clause-value c =
    let s = c.args.self.now in
    sym (item_end s.text.now s.at c.skip-place.result c.skip-place.ensures (ltb-false _ _ (sym c.in-None.ensures.lookup.0)))

pub returns-in-Some-eq91-clause-value : goal.returns-in-Some-eq91-clause-value
returns-in-Some-eq91-clause-value c =
    let s = c.args.self.now in
    let byte = found_byte s.text.now c.skip-place.result c.in-Some-eq91.field-0.now c.in-Some-eq91.ensures.lookup.0 c.in-Some-eq91.ensures.lookup.1 in
    sym (item_opens s.text.now s.at c.skip-place.result c.skip-place.ensures byte.0 (byte.1 ∙ c.in-Some-eq91.field-0-test))

pub returns-in-Some-eq93-clause-value : goal.returns-in-Some-eq93-clause-value
returns-in-Some-eq93-clause-value c =
    let s = c.args.self.now in
    let byte = found_byte s.text.now c.skip-place.result c.in-Some-eq93.field-0.now c.in-Some-eq93.ensures.lookup.0 c.in-Some-eq93.ensures.lookup.1 in
    rw (add-one c.skip-place.result)
    (sym (item_closes s.text.now s.at c.skip-place.result c.skip-place.ensures byte.0 (byte.1 ∙ c.in-Some-eq93.field-0-test)))

pub returns-in_default-clause-value : goal.returns-in_default-clause-value
returns-in_default-clause-value c =
    let s = c.args.self.now in
    let q = c.skip-place.result in
    let byte = found_byte s.text.now q c.in-Some.field-0.now c.in-Some.ensures.lookup.0 c.in-Some.ensures.lookup.1 in
    let found = item_number s.text.now s.at q c.skip-place.ensures byte.0 (λ e. c.in-Some.field-0-test.0.1 (sym byte.1 ∙ e)) (λ e. c.in-Some.field-0-test.1 (sym byte.1 ∙ e)) in
    let told = rw c.unwrap_err.ensures at c.read_number-number.ensures in
    rw c.into.ensures (item_refused q 0 c.unwrap_err.result ∙ ap (item_of_number q) told ∙ sym found)

pub returns-in-Ok-clause-value : goal.returns-in-Ok-clause-value
returns-in-Ok-clause-value c =
    let s = c.args.self.now in
    let q = c.skip-place.result in
    let f : SFits w32 c.in-Ok.field-0.value = search rules in
    let byte = found_byte s.text.now q c.in-Some.field-0.now c.in-Some.ensures.lookup.0 c.in-Some.ensures.lookup.1 in
    let found = item_number s.text.now s.at q c.skip-place.ensures byte.0 (λ e. c.in-Some.field-0-test.0.1 (sym byte.1 ∙ e)) (λ e. c.in-Some.field-0-test.1 (sym byte.1 ∙ e)) in
    let told : item_of_number q (Value c.in-Ok.field-0.value c.in-Ok.field-0.next) ≡ item_of_number q (number_at s.text.now q) = ap (item_of_number q) c.in-Ok.ensures in
    rw (to_z-of_z w32 c.in-Ok.field-0.value f) (told ∙ sym found)
