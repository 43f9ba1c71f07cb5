-- `text::writer::put_text` meets its contract. What is left to put, over the buffer as it is, never changes.
use mathlib.Core.Path.{◌≡◌}
use Prim.Native.Nat.{◌+◌}
use lib.ListN.{length, drop}
use Rattle.text.specs.Writing.{entries_text}
use Rattle.number.specs.Steps.{put}
use Rattle.text.proofs.writer.put_text.Given as goal

abbrev pub invariant-loop-i : goal.invariant-loop-i
invariant-loop-i l =
    (l.writer.text.ghost_name ≡ l.initial.writer.text.ghost_name)
    × (length l.writer.text.now ≡ length l.initial.writer.text.now)
    × (l.writer.at + length (entries_text (drop l.i l.list)) ≡ 1 + length (entries_text l.list))
    × (put l.writer.at (entries_text (drop l.i l.list)) l.writer.text.now ≡ put 1 (entries_text l.list) l.initial.writer.text.now)
