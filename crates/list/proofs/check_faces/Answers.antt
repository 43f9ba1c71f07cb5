use mathlib.Core.Path.{refl, sym, ◌∙◌, subst}
use mathlib.Core.List.{List}
use native.Mathlib.Omega.{arith}
use Prim.Native.Nat.{ℕ}
use Rattle.list.specs.Flags.{Flags}
use Rattle.list.proofs.Checking.{flags_new, checking_start, checking_done, checking_within, checking_fault, checking_place, checking_turn, checking_fits}
use Rattle.list.proofs.check_faces.Goals as goal

pub loop-face-init : goal.loop-face-init
loop-face-init g c = (checking_start c.args.list.now (rw (c.into_iter-face-iterator.ensures.into_iter_gives, c.cursor-face-items.ensures.list, c.cursor-face-items.ensures.at) refl), refl)

pub check_face-requires : goal.check_face-requires
check_face-requires g c =
    ((checking_within c.in-Some.ensures.steps.yields c.loop-face.invariant.0).no_end, subst (λ (fs : List ℕ). Flags c.args.n fs) (sym c.loop-face.invariant.1) (flags_new c.args.n g.row.MOST c.requires.0 c.requires.1))

pub overflow_add-result : goal.overflow_add-result
overflow_add-result g c = omega (arith, checking_place c.in-Some.ensures.steps.yields c.loop-face.invariant.0 c.in-Outside.is c.in-Err.ensures.fault)

pub returns-in-Outside : goal.returns-in-Outside
returns-in-Outside g c = checking_fault c.in-Some.ensures.steps.yields c.loop-face.invariant.0 c.in-Outside.is c.in-Err.ensures.fault

pub returns-in-Short : goal.returns-in-Short
returns-in-Short g c = checking_fault c.in-Some.ensures.steps.yields c.loop-face.invariant.0 c.in-Short.is c.in-Err.ensures.fault

pub overflow_add-result-in-Repeated : goal.overflow_add-result-in-Repeated
overflow_add-result-in-Repeated g c = omega (arith, checking_place c.in-Some.ensures.steps.yields c.loop-face.invariant.0 c.in-Repeated.is c.in-Err.ensures.fault)

pub returns-in-Repeated : goal.returns-in-Repeated
returns-in-Repeated g c = checking_fault c.in-Some.ensures.steps.yields c.loop-face.invariant.0 c.in-Repeated.is c.in-Err.ensures.fault

pub overflow_add-faces : goal.overflow_add-faces
overflow_add-faces g c = omega (arith, (checking_fits c.in-Some.ensures.steps.yields c.loop-face.invariant.0).0)

pub overflow_add-corners : goal.overflow_add-corners
overflow_add-corners g c = omega (arith, (checking_fits c.in-Some.ensures.steps.yields c.loop-face.invariant.0).1)

pub loop-face-preserved : goal.loop-face-preserved
loop-face-preserved g c =
    (checking_turn c.in-Some.ensures.steps.yields c.loop-face.invariant.0 c.in_default.ensures.fault, c.check_face.ensures.cleared ∙ c.loop-face.invariant.1)

pub returns : goal.returns
returns g c = checking_done c.in-None.ensures.steps.yields.0 c.loop-face.invariant.0

pub whole_as_slice-check_face : goal.whole_as_slice-check_face
whole_as_slice-check_face g c = omega (arith, c.requires.2)
