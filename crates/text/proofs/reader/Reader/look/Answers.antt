use Rattle.std.proofs.Common.{arith, add-one, sym, ◌∙◌}
use borrow.Author.Tests.{lt-ltb}
use Rattle.text.proofs.Items.{entry_at, inside_entry, inside_closed, behind_end, behind_thing}
use Rattle.text.proofs.reader.Reader.look.Goals as goal

pub loop-entry-smaller : goal.loop-entry-smaller
loop-entry-smaller c =
    let k = c.loop-entry in
    let e = rw (k.invariant.0, c.in-Some.is) at c.in_ok-entry.ensures.value in
    let a = entry_at c.args.self.text.now k.self.at _ _ _ (sym e) in
    omega arith

pub loop-entry-preserved : goal.loop-entry-preserved
loop-entry-preserved c =
    let k = c.loop-entry in
    let e = rw (k.invariant.0, c.in-Some.is) at c.in_ok-entry.ensures.value in (
      c.next_entry.ensures.text ∙ k.invariant.0,
      rw (add-one k.entries)
          (sym (inside_entry c.args.self.text.now k.self.at c.args.room k.entries _ _ _ (sym e) ∙ rw (lt-ltb k.entries c.args.room c.if-room-entries.false))
          ∙ k.invariant.1),
    )

pub returns-then-end-self : goal.returns-then-end-self
returns-then-end-self c =
    let t = c.args.self.text.now in
    let k = c.loop-entry in
    let own = c.next_entry.ensures.text ∙ k.invariant.0 in
    let e = rw (k.invariant.0, c.in_default.is) at c.in_ok-entry.ensures.value in
    sym (behind_thing t _ c.skip-end.result (rw own at c.skip-end.ensures) k.entries (rw own at c.if-end-self.true))
    ∙ sym (inside_closed t k.self.at c.args.room k.entries _ (sym e))
    ∙ k.invariant.1

pub returns : goal.returns
returns c =
    let t = c.args.self.text.now in
    let k = c.loop-entry in
    let own = c.next_entry.ensures.text ∙ k.invariant.0 in
    let e = rw (k.invariant.0, c.in_default.is) at c.in_ok-entry.ensures.value in
    sym (behind_end t _ c.skip-end.result (rw own at c.skip-end.ensures) k.entries (rw own at c.if-end-self.false))
    ∙ sym (inside_closed t k.self.at c.args.room k.entries _ (sym e))
    ∙ k.invariant.1
