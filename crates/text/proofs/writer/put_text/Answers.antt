-- `text::writer::put_text` meets its contract: each turn of the loop puts an entry with what stands behind it.
use mathlib.Core.Path.{ap, ◌∙◌}
use mathlib.Core.List.{◌∷◌, []}
use Prim.Native.Nat.{◌+◌}
use native.Mathlib.Omega.{arith}
use borrow.Author.Rules.{rules}
use lib.IntN.{pos}
use lib.ListN.{length, drop, get_or, length-append}
use mir.Syntax.{w32}
use mir.Val.{SFits}
use Rattle.number.specs.Bytes.{open_byte}
use Rattle.text.specs.Writing.{item_text, entries_text}
use Rattle.text.proofs.Entries.{entries_at_place, item_read, put_turn}
use Rattle.text.proofs.Puts.{puts_long}
use Rattle.text.proofs.writer.put_text.Goals as goal

pub loop-i-preserved : goal.loop-i-preserved
loop-i-preserved c =
    let l = c.args.list.now in
    let i = c.loop-i.i in
    let h = c.loop-i-test.true in
    let w = c.loop-i.writer in
    let f : SFits w32 (get_or l i (pos 0)) = search rules in
    let e = ap length (entries_at_place l i h) in
    let n = length-append (item_text (drop i l)) (entries_text (drop (i + 1) l)) in
    let k = puts_long _ c.put_byte.new.self (open_byte ∷ []) c.put_byte.ensures (omega (arith, c.requires)) in
    let p = rw (item_read l i h f) at c.put_item.ensures in
    let long = puts_long w c.put_item.new.self (item_text (drop i l)) p (omega (arith, c.loop-i.invariant)) in (
      p.lent ∙ c.loop-i.invariant.0,
      long ∙ c.loop-i.invariant.1,
      omega (arith, p.place, c.loop-i.invariant),
      put_turn l i h w.at c.put_item.new.self.at w.text.now c.put_item.new.self.text.now (omega (arith, c.loop-i.invariant)) p.place p.text_after ∙ c.loop-i.invariant.3,
    )
