use Prim.Native.Nat.{◌<◌}
use mathlib.Core.Path.{◌≡◌, ◌∙◌}
use native.Mathlib.Omega.{arith}
use lib.IntN.{pos}
use lib.ListN.{length, get_or}
use lib.Dec.{eqb}
use Rattle.std.proofs.lemmas.Int.{to_z-of_z}
use Rattle.list.specs.Faces.{num}
use Rattle.groups.specs.Forest.{at}
use Rattle.fans.proofs.SingularCount.{byte_is, fans_more}
use Rattle.fans.proofs.singular.count_fans.Goals as goal

pub loop-entry-preserved : goal.loop-entry-preserved
loop-entry-preserved c =
    let v = c.vertex-v.result in
    let is : v ≡ num (get_or c.args.map.now c.loop-entry.entry-index (pos 0)) = grind (arith, to_z-of_z, c.vertex-v.ensures) in
    let inside : v < length c.args.marks.now = omega (arith, is, c.requires c.loop-entry.entry-index c.loop-entry-test.true) in
    fans_more c.args.map.now c.args.marks.now c.loop-entry.marks c.loop-entry.count c.loop-entry.entry-index v c.fan_met.result c.from-count.result c.loop-entry-test.true is inside c.fan_met.ensures
    (c.from-count.ensures ∙ byte_is (eqb (at c.loop-entry.marks v) 1)) c.loop-entry.invariant
