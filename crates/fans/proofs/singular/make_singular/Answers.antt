-- `singular::make_singular` meets its contract: the mark that was there says whether the vertex was singular before.
use Rattle.fans.proofs.SingularCount.{made}
use Rattle.fans.proofs.singular.make_singular.Goals as goal

pub returns : goal.returns
returns c = made c.args.marks.now c.args.v c.requires
