use Rattle.std.proofs.Common.{rules, ◌≡◌, ◌-◌, ◌∙◌, arith, get_or, length, pos}
use Rattle.std.proofs.lemmas.Int.{to_z-of_z}
use Rattle.list.specs.Faces.{num}
use Rattle.edges.proofs.Question.{pairs_on, last_vertex, pairs_left}
use Rattle.edges.proofs.face.uses_on.Goals as goal
use Rattle.edges.proofs.face.uses_on.Goals.{then-is_edge, else-is_edge}

pub loop-entry-init : goal.loop-entry-init
loop-entry-init c =
    let r = c.args.face.now in
    let last : c.map_or-from.result ≡ num (get_or r (length r - 1) (pos 0)) = search rules in
    record { few = omega arith; all = rw (last ∙ last_vertex r) (omega (arith, pairs_on c.args.a c.args.b 0 r)) }

pub loop-entry-preserved : goal.loop-entry-preserved
loop-entry-preserved c =
    let r = c.args.face.now in
    let i = c.loop-entry.entry-index in
    let to : c.vertex-to.result ≡ num (get_or r i (pos 0)) = grind (arith, to_z-of_z) in
    let left = pairs_left c.args.a c.args.b c.loop-entry.from c.vertex-to.result c.is_edge.result r i c.loop-entry-test.true to c.is_edge.ensures in
    elim c.if-is_edge.branch [
      | then-is_edge w ↦ record { few = omega arith; all = rw w.from-is (omega (arith, c.loop-entry.invariant.all, rw w.if-is_edge.true at left)) }
      | else-is_edge w ↦ record { few = omega arith; all = rw w.from-is (omega (arith, c.loop-entry.invariant.all, rw w.if-is_edge.false at left)) }
    ]
