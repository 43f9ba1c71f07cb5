-- `line::put_line` meets its contract. What is left to put, over the output as it is, never changes.
use Prim.Native.Nat.{◌+◌, ◌*◌, ◌≤◌}
use mathlib.Core.Path.{◌≡◌}
use lib.ListN.{length, drop}
use Rattle.number.specs.Steps.{put}
use Rattle.program.specs.Limits.{output_bytes}
use Rattle.program.specs.Printed.{line}
use Rattle.program.proofs.line.put_line.Given as goal

abbrev pub invariant-loop-i : goal.invariant-loop-i
invariant-loop-i l =
    (length l.output ≡ output_bytes)
    × (l.at ≤ 21 * l.i)
    × (l.at + length (line (drop l.i l.numbers)) ≡ length (line l.numbers))
    × (put l.at (line (drop l.i l.numbers)) l.output ≡ put 0 (line l.numbers) l.initial.output)
