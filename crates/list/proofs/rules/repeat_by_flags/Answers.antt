-- `rules::repeat_by_flags` meets its contract: the flags set on the way to the first repeat are cleared again.
use Prim.Native.Nat.{◌≤◌}
use mathlib.Core.Path.{◌≡◌, ◌∙◌, ap}
use mathlib.Core.List.{List, []}
use native.Mathlib.Omega.{arith}
use lib.IntN.{ℤ}
use lib.ListN.{length}
use Rattle.std.specs.Prelude.{unwrap_or}
use Rattle.list.specs.Faces.{vertices}
use Rattle.list.specs.Check.{first_repeat}
use Rattle.list.proofs.First.{place_taken}
use Rattle.list.proofs.Repeats.{marked_within, repeat_fits, vertices_long}
use Rattle.list.proofs.rules.repeat_by_flags.Goals as goal

pub unmark-requires : goal.unmark-requires
unmark-requires c =
    let l : List ℤ = c.args.face.now in
    let fits : first_repeat (vertices l) ≤ length l = omega (arith, repeat_fits [] (vertices l), vertices_long l) in
    let before : c.unwrap_or.result ≡ first_repeat (vertices l) = c.unwrap_or.ensures ∙ ap (λ p. unwrap_or p (length l)) c.mark-repeat.ensures.repeat ∙ place_taken l (first_repeat (vertices l)) fits in
    rw (before, c.mark-repeat.ensures.before_it) (marked_within l c.args.flags.now (first_repeat (vertices l)) fits c.requires)
