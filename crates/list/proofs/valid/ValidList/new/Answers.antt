-- An accepted list is valid, and its counts are the check's.
use mathlib.Core.Path.{sym, ◌∙◌, ap}
use Rattle.list.specs.Check.{CheckAnswer}
use Rattle.list.proofs.Given.{accepted_counts}
use Rattle.list.proofs.valid.ValidList.new.Goals as goal

pub invariant_of-result : goal.invariant_of-result
invariant_of-result c =
    let code = ap (λ (r : CheckAnswer). r.code) (sym c.in_ok-faces.ensures) in
    let counts = c.in_ok-faces.ensures ∙ accepted_counts c.args.entries.now c.args.vertices code in
    record { accepted = code; faces_counted = ap (λ (r : CheckAnswer). r.faces) counts; corners_counted = ap (λ (r : CheckAnswer). r.corners) counts }
