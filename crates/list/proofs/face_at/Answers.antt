-- The face asked for is the k-th that the cursor answers.
use mathlib.Core.Path.{refl}
use Rattle.std.proofs.lemmas.Iterator.Consumers.{nth_from_yields_List}
use Rattle.list.specs.Faces.{faces}
use Rattle.list.proofs.Runs.{cursor_yields}
use Rattle.list.proofs.face_at.Goals as goal

pub returns : goal.returns
returns c =
    nth_from_yields_List c.nth.result c.nth.new.self c.args.k c.nth.ensures.ran
    (cursor_yields c.cursor.result (faces c.args.list.now) (rw (c.cursor.ensures.list, c.cursor.ensures.at) refl))
