-- `rules::first_outside` meets its contract: the library's place is the first one outside.
use mathlib.Core.Path.{sym, ◌∙◌, ap}
use mathlib.Core.List.{List}
use borrow.Author.Tests.{tests}
use lib.IntN.{ℤ}
use Rattle.std.proofs.Common.{rules}
use Rattle.std.proofs.lemmas.Iterator.{YieldsList-from_slice}
use Rattle.std.proofs.lemmas.Iterator.Search.{position_from_yields_List}
use Rattle.list.specs.Faces.{place_or_none}
use Rattle.list.specs.Check.{outside}
use Rattle.list.proofs.First.{first_position}
use Rattle.list.proofs.rules.first_outside.Goals as goal

pub returns : goal.returns
returns c =
    let face : List ℤ = c.args.face.now in
    position_from_yields_List (outside c.args.n) _ _ _ c.position.ensures.ran (YieldsList-from_slice face cc) (λ x b q k. search (rules, tests)) ∙ sym (ap (place_or_none face) (first_position (outside c.args.n) face))
