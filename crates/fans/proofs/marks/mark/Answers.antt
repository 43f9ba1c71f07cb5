-- `marks::mark` meets its contract: the ends of edges are marked over the marks of the fans.
use mathlib.Core.Path.{◌∙◌, ap}
use native.Mathlib.Omega.{arith}
use lib.ListN.{length}
use Rattle.fans.proofs.Classing.{grouped_classes}
use Rattle.fans.specs.Marks.{final_mark}
use Rattle.fans.proofs.marks.mark.Goals as goal

pub returns : goal.returns
returns c =
    λ l G. grouped_classes l c.args.c c.args.w.now G (length c.args.marks.now) c.mark_ends.new.marks (c.mark_ends.auto.marks ∙ c.mark_fans.auto.marks ∙ c.fill.auto.self)
    (λ v h. c.mark_ends.ensures v (omega (arith, c.mark_fans.auto.marks, c.fill.auto.self)) ∙ ap (final_mark c.args.w.now c.args.c v) (c.mark_fans.ensures v (omega (arith, c.fill.auto.self))))
