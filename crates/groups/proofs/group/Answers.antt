-- `group` meets its contract: from every corner its own parent on, the joins over the table give the labels of its links.
use native.Mathlib.Omega.{arith}
use borrow.Author.Rules.{rules}
use Rattle.groups.proofs.JoinLoop.{grouped}
use Rattle.groups.proofs.group.Goals as goal

pub returns : goal.returns
returns c =
    let S = c.split_at_mut-words.ensures in
    let long = c.requires.0.long in
    rw S.front (grouped c.args.w.now c.separate.new.parents c.join_edges.new.parents.of.now _ c.args.c (search rules) long (omega (arith, S.back_len, long, c.separate.auto.parents)) (rw c.separate.auto.parents c.separate.ensures) (rw S.front at c.join_edges.ensures.regrouped))
