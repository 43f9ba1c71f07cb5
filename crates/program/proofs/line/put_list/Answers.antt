-- `line::put_list` meets its contract: the writer has room and accepts, and the line feed goes behind what it wrote.
use Rattle.std.proofs.Common.{◌≡◌, refl, ap, ℕ, ◌+◌, arith, length}
use Rattle.text.specs.Writing.{written}
use Rattle.program.proofs.Lines.{list_accepted, list_room, list_behind, list_put}
use Rattle.program.proofs.line.put_list.Goals as goal

pub unwrap-requires : goal.unwrap-requires
unwrap-requires c =
    rw (list_accepted c.args.list.now c.args.output.now 26777 c.told-output c.args.at (omega arith) c.requires.1 c.write.result c.write.ensures.value) refl

pub overflow_add-end : goal.overflow_add-end
overflow_add-end c =
    let whole : c.unwrap.result ≡ length (written c.args.list.now) = cc (c.unwrap.ensures, list_accepted c.args.list.now c.args.output.now 26777 c.told-output c.args.at (omega arith) c.requires.1 c.write.result c.write.ensures.value) in
    omega (arith, list_room c.args.list.now c.args.output.now 26777 c.told-output c.args.at (omega arith) c.requires.1)

pub bounds-output-end : goal.bounds-output-end
bounds-output-end c =
    let whole : c.unwrap.result ≡ length (written c.args.list.now) = cc (c.unwrap.ensures, list_accepted c.args.list.now c.args.output.now 26777 c.told-output c.args.at (omega arith) c.requires.1 c.write.result c.write.ensures.value) in
    omega (arith, list_room c.args.list.now c.args.output.now 26777 c.told-output c.args.at (omega arith) c.requires.1)

pub overflow_add-result : goal.overflow_add-result
overflow_add-result c =
    let whole : c.unwrap.result ≡ length (written c.args.list.now) = cc (c.unwrap.ensures, list_accepted c.args.list.now c.args.output.now 26777 c.told-output c.args.at (omega arith) c.requires.1 c.write.result c.write.ensures.value) in
    omega (arith, list_room c.args.list.now c.args.output.now 26777 c.told-output c.args.at (omega arith) c.requires.1)

pub returns : goal.returns
returns c =
    let whole : c.unwrap.result ≡ length (written c.args.list.now) = cc (c.unwrap.ensures, list_accepted c.args.list.now c.args.output.now 26777 c.told-output c.args.at (omega arith) c.requires.1 c.write.result c.write.ensures.value) in
    let l = c.args.list.now in
    let t = c.args.output.now in record {
      value = rw whole (list_behind l t 26777 c.told-output c.args.at (omega arith) c.requires.1);
      output_after = list_put l t 26777 c.told-output c.args.at (omega arith) c.requires.1 c.write.new.text (c.args.at + c.unwrap.result)
          c.write.ensures.text_after (ap (λ (k : ℕ). c.args.at + k) whole);
    }
