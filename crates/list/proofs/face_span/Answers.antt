use native.Mathlib.Omega.{arith}
use Rattle.list.proofs.Shown.{span_got, got_fits}
use Rattle.list.proofs.face_span.Goals as goal

pub overflow_add-result : goal.overflow_add-result
overflow_add-result c = omega (arith, got_fits c.args.list.now c.args.k _ c.in-Some.ensures)

pub returns-in-Some : goal.returns-in-Some
returns-in-Some c = span_got c.args.list.now c.args.k _ c.in-Some.ensures
