use Rattle.groups.proofs.Joined.{rises_twice}
use Rattle.groups.proofs.parents.Parents.root.Goals as goal

pub loop-r-init : goal.loop-r-init
loop-r-init c = rw (c.parent-r.ensures, c.parent-near.ensures) (rises_twice c.args.self.now.of.now c.args.x c.requires c.args.self.now.down)
