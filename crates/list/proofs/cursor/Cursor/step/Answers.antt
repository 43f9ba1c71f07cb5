-- The cursor answers the face at its position, and goes on behind its -1.
use mathlib.Core.Path.{◌≡◌, ◌∙◌, ap}
use mathlib.Core.List.{List}
use native.Mathlib.Omega.{arith}
use Prim.Native.Nat.{ℕ, ◌+◌, ◌-◌}
use lib.IntN.{ℤ}
use lib.ListN.{length, take, drop}
use Rattle.std.proofs.lemmas.List.{take_rest}
use Rattle.list.specs.Faces.{run_length}
use Rattle.list.proofs.Runs.{run_inside, left_face_to, step_face}
use Rattle.list.proofs.cursor.Cursor.step.Goals as goal

-- a run's length found in the rest of the list from position i is where the run ends
ends_at : (l : List ℤ) (i n : ℕ) → n ≡ run_length (take (length l - i) (drop i l)) → i + n ≡ i + run_length (drop i l)
ends_at l i n e = ap (λ k. i + k) (e ∙ ap run_length (take_rest l i))

pub overflow_add-end : goal.overflow_add-end
overflow_add-end c =
    let s = c.args.self.now in
    omega (arith, run_inside s.list.now s.at c.if-list-start.false, ends_at s.list.now s.at _ c.run_length.ensures)

pub overflow_add-self : goal.overflow_add-self
overflow_add-self c =
    let s = c.args.self.now in
    omega (arith, run_inside s.list.now s.at c.if-list-start.false, ends_at s.list.now s.at _ c.run_length.ensures)

pub slice_bounds-result-end : goal.slice_bounds-result-end
slice_bounds-result-end c =
    let s = c.args.self.now in
    omega (arith, run_inside s.list.now s.at c.if-list-start.false, ends_at s.list.now s.at _ c.run_length.ensures)

pub returns-clause-steps : goal.returns-clause-steps
returns-clause-steps c =
    let s = c.args.self.now in
    left_face_to s.list.now s.at c.if-list-start.false _ (ends_at s.list.now s.at _ c.run_length.ensures)

pub returns-clause-told : goal.returns-clause-told
returns-clause-told c =
    let s = c.args.self.now in
    step_face s.list.now s.at c.if-list-start.false _ (ends_at s.list.now s.at _ c.run_length.ensures)
