use Prim.Native.Nat.{ℕ, ◌+◌, ◌<◌}
use mathlib.Core.Path.{◌≡◌, ◌∙◌, ap, subst}
use mathlib.Core.List.{List, [], ◌∷◌}
use native.Mathlib.Numerals.{add-one}
use lib.IntN.{ℤ, pos}
use lib.ListN.{get_or, drop, length, replicate, drop_of_length-le}
use lib.Seq.{drop-cons}
use Rattle.std.proofs.Common.{rules}
use Rattle.list.specs.Faces.{vertices, num}
use Rattle.list.proofs.Signs.{passed_on}
use Rattle.list.specs.Flags.{SetWithin}
use Rattle.list.proofs.Repeats.{clear_first, clear_last, vertex_of, vertices_long}
use Rattle.list.proofs.rules.unmark.Goals as goal

-- the entry at hand is the first of the vertices that are left
first_left : (l : List ℤ) (fs : List ℕ) (i v : ℕ) → i < length l → v ≡ num (get_or l i (pos 0)) → SetWithin (drop i (vertices l)) fs → SetWithin (v ∷ drop (i + 1) (vertices l)) fs
first_left l fs i v h e w =
    let inside : i < length (vertices l) = rw vertices_long h in
    rw (e, ← (vertex_of l i), add-one) (rw (drop-cons (vertices l) i 0 inside) at w)

pub bounds-flags-vertex : goal.bounds-flags-vertex
bounds-flags-vertex c =
    (first_left c.args.part.now c.loop-entry.flags c.loop-entry.entry-index c.vertex.result c.loop-entry-test.true (passed_on c.args.part.now c.loop-entry.entry-index c.vertex.result (search rules) c.vertex.ensures) c.loop-entry.invariant).room 0 (search rules)

pub loop-entry-preserved : goal.loop-entry-preserved
loop-entry-preserved c =
    clear_first c.vertex.result _ c.loop-entry.flags (first_left c.args.part.now c.loop-entry.flags c.loop-entry.entry-index c.vertex.result c.loop-entry-test.true (passed_on c.args.part.now c.loop-entry.entry-index c.vertex.result (search rules) c.vertex.ensures) c.loop-entry.invariant)

pub returns : goal.returns
returns c =
    let i : ℕ = c.loop-entry.entry-index in
    let vs : List ℕ = vertices c.args.part.now in
    let none : drop i vs ≡ [] = drop_of_length-le vs (rw vertices_long c.loop-entry-test.false) in
    clear_last c.loop-entry.flags (subst (λ (ws : List ℕ). SetWithin ws c.loop-entry.flags) none c.loop-entry.invariant) ∙ ap (λ k. replicate k 0) c.loop-entry.auto.flags
