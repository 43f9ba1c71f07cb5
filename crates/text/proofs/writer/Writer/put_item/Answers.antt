-- `Writer::put_item` meets its contract: the entry, and then the comma and the space where more follow.
use Rattle.std.proofs.Common.{[], ◌∷◌}
use mir.Syntax.{w32}
use mir.ValLaws.{to_z-of_z}
use Rattle.number.specs.Bytes.{comma, space}
use Rattle.text.specs.Writing.{entry_text}
use Rattle.text.proofs.Puts.{puts_room, puts_behind}
use Rattle.text.proofs.writer.Writer.put_item.Goals as goal

pub returns-then-more : goal.returns-then-more
returns-then-more c =
    let a = c.args.self.now in
    let two = comma ∷ space ∷ [] in
    let own = to_z-of_z w32 c.args.entry c.ranges.entry in
    let entry = rw own at c.put_entry.ensures in
    let room = rw c.if-more.true at c.requires in
    let left = puts_room a c.put_entry.new.self (entry_text c.args.entry) two entry room in
    rw c.if-more.true
    (puts_behind a c.put_entry.new.self (entry_text c.args.entry) two entry room c.put_byte-then-more.new.self
    (puts_behind c.put_entry.new.self c.put_byte.new.self (comma ∷ []) (space ∷ []) c.put_byte.ensures left c.put_byte-then-more.new.self c.put_byte-then-more.ensures))
