-- The span of face k lies within the list, and the list's part there is the face.
use native.Mathlib.Omega.{arith}
use Rattle.list.proofs.Shown.{shown_at}
use Rattle.list.proofs.part.Goals as goal

pub offset_bounds-list-span : goal.offset_bounds-list-span
offset_bounds-list-span c = let s = shown_at c.args.list.now c.args.k _ c.face_span-span.ensures in omega (arith, s.order, s.within)

pub slice_bounds-result-count : goal.slice_bounds-result-count
slice_bounds-result-count c = (shown_at c.args.list.now c.args.k _ c.face_span-span.ensures).order

pub slice_bounds-result-start : goal.slice_bounds-result-start
slice_bounds-result-start c = (shown_at c.args.list.now c.args.k _ c.face_span-span.ensures).order

pub slice_bounds-result-end : goal.slice_bounds-result-end
slice_bounds-result-end c = (shown_at c.args.list.now c.args.k _ c.face_span-span.ensures).within

pub returns : goal.returns
returns c = (shown_at c.args.list.now c.args.k _ c.face_span-span.ensures).part
