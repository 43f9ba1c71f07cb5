-- `renumber` meets its contract: the numbers are the first block alone, and the vertices of the roots are the map.
use native.Mathlib.Omega.{arith}
use Prim.Native.Nat.{◌≤◌}
use lib.ListN.{length}
use lib.Seq.{length-take-le}
use Rattle.renumber.proofs.Numbering.{number_low, renumbered}
use Rattle.renumber.proofs.renumber.Goals as goal

pub fill_list-requires : goal.fill_list-requires
fill_list-requires c =
    let long : c.args.c ≤ length c.number-vertices.new.w = omega (arith, c.number-vertices.auto.w, c.requires.0.words.table.long) in (
      c.requires.1,
      omega (arith, length-take-le c.args.c c.number-vertices.new.w long, c.requires.0.count),
      λ e h. omega (arith, number_low c.number-vertices.new.w c.args.c long c.number-vertices.ensures.low e h, c.requires.0.words.few),
    )

pub returns : goal.returns
returns c =
    λ labels F. renumbered c.args.list.now c.args.w.now c.args.c c.requires.0 labels F c.number-vertices.new.w c.args.map.now c.number-vertices.new.map c.number-vertices.result c.number-vertices.ensures c.fill_list.new.new_list c.fill_list.ensures
