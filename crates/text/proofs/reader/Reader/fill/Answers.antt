use Rattle.std.proofs.Common.{◌≡◌, false, ◌-◌, ℤ, pos, List, ◌++◌, length, take, drop, rules, arith, sym, ap, ◌∙◌}
use lib.Seq.{set-get_or}
use mir.Syntax.{w32}
use mir.Val.{SFits}
use mir.ValLaws.{to_z-of_z}
use Rattle.text.specs.Tokens.{tokens_at}
use Rattle.list.specs.Written.{over}
use Rattle.text.specs.Reading.{values_of}
use Rattle.text.proofs.Items.{values_entry, values_other, is_entry}
use Rattle.text.proofs.Filling.{fill_turn, fill_none, fill_end}
use Rattle.text.proofs.reader.Reader.fill.Goals as goal

pub returns-in_default : goal.returns-in_default
returns-in_default c =
    let k = c.loop-slot in
    let other : is_entry c.next_entry.result ≡ false = search rules in
    let none = values_other c.args.self.text.now k.self.at c.next_entry.result _ other (rw k.invariant.0 at c.next_entry.ensures.value) in
    set-get_or k.list k.slot-index (pos 0) ∙ sym (rw none (fill_none k.list k.slot-index (length c.args.list.now))) ∙ k.invariant.1

pub loop-slot-preserved : goal.loop-slot-preserved
loop-slot-preserved c =
    let t = c.args.self.text.now in
    let k = c.loop-slot in
    let n = length c.args.list.now in
    let v = c.in-Ok-Some.entry.value in
    let f : SFits w32 v = search rules in
    let e = rw (k.invariant.0, c.in-Ok-Some.field-0-is) at c.in-Ok-Some.ensures.value in (
      c.next_entry.ensures.text ∙ k.invariant.0,
      rw (to_z-of_z w32 v f)
          (fill_turn k.list k.slot-index n v (values_of (tokens_at t c.next_entry.new.self.at)) (omega arith) (omega arith)
          ∙ ap (λ (vs : List ℤ). take k.slot-index k.list ++ over (take (n - k.slot-index) vs) (drop k.slot-index k.list)) (sym (values_entry t k.self.at _ _ _ (sym e)))
          ∙ k.invariant.1),
    )

pub returns : goal.returns
returns c =
    let k = c.loop-slot in
    sym (fill_end k.list k.slot-index (length c.args.list.now) (values_of (tokens_at c.args.self.text.now k.self.at)) (omega arith)) ∙ k.invariant.1
