-- `singular::singular_ends` meets its contract: without singular edges no vertex ends one.
use Rattle.fans.proofs.SingularCount.{ends_none}
use Rattle.fans.proofs.singular.singular_ends.Goals as goal

pub returns-then-edges-eq0 : goal.returns-then-edges-eq0
returns-then-edges-eq0 c = ends_none c.args.w.now c.args.c (c.requires.2.none c.if-edges-eq0.true) c.args.marks.now c.requires.1
