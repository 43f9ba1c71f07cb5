-- `Reader::open` meets its contract: the first thing of the text is the opening bracket, or the text is refused there.
use Rattle.std.proofs.Common.{◌≡◌, ◌<◌, rules, length, get_or}
use Rattle.text.proofs.Whole.{whole_unopened, whole_opened}
use Rattle.text.proofs.reader.Reader.open.Goals as goal

pub returns-then-ne-clause-refused : goal.returns-then-ne-clause-refused
returns-then-ne-clause-refused c =
    let t = c.args.text.now in
    let o : c.skip-start.result < length t → get_or t c.skip-start.result 0 ≡ 91 → ⊥ = λ h z. search rules in
    λ n. whole_unopened t c.skip-start.result c.skip-start.ensures n o

pub returns-clause-opened : goal.returns-clause-opened
returns-clause-opened c =
    let t = c.args.text.now in
    let o : get_or t c.skip-start.result 0 ≡ 91 = search rules in
    let h : c.skip-start.result < length t = search rules in
    (c.skip-start.result, whole_opened t c.skip-start.result c.skip-start.ensures h o)
