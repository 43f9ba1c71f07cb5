-- Laws of showing a face: its span from a position on, and that the part of the list there is the face.
use Prim.Native.Nat.{ℕ, zero, suc, ◌+◌, ◌-◌, ◌≤◌, ◌<◌}
use mathlib.Core.Path.{◌≡◌, refl, sym, ◌∙◌, ap, subst⁻¹}
use mathlib.Core.List.{List, [], ◌∷◌, head-eq_of_cons-eq, tail-eq_of_cons-eq}
use native.Mathlib.Omega.{arith}
use native.Mathlib.Nat.{add-sub_cancel_left}
use native.Mathlib.Decide.{dec_lt}
use lib.IntN.{ℤ}
use Rattle.std.specs.Prelude.{Some, None}
use Rattle.std.specs.List.{slice_get}
use Rattle.std.proofs.lemmas.Option.{same_Some}
use lib.ListN.{length, take, drop, drop_of_length-le}
use Rattle.list.specs.Faces.{Face, faces, runs, run_length, faces_from}
use Rattle.list.specs.Show.{span_in, span_of, face_in, face_of}
use Rattle.list.specs.declared.Span.{Span}
use Rattle.list.proofs.Runs.{Within, AllWithin, all_within, runs_split, run_inside, run_long}

module _ (l : List ℤ) where
  span_in_got : (fs : List Face) (k : ℕ) (f : Face) → Some f ≡ slice_get fs k → (record { start = f.start; end = f.start + length f.entries } ≡ span_in fs k) × (f.entries ≡ face_in fs k)
  span_in_got [] k f e = absurd (cc e)
  span_in_got (g ∷ fs) zero f e = rw (same_Some f g e) (refl, refl)
  span_in_got (g ∷ fs) (suc k) f e = span_in_got fs k f e

  span_in_none : (fs : List Face) (k : ℕ) → None ≡ slice_get fs k → (record { start = 0; end = 0 } ≡ span_in fs k) × ([] ≡ face_in fs k)
  span_in_none [] k e = (refl, refl)
  span_in_none (g ∷ fs) zero e = absurd (cc e)
  span_in_none (g ∷ fs) (suc k) e = span_in_none fs k e

  within_got : (fs : List Face) (k : ℕ) (f : Face) → AllWithin l fs → Some f ≡ slice_get fs k → Within l f
  within_got [] k f w e = absurd (cc e)
  within_got (g ∷ fs) zero f w e = subst⁻¹ (Within l) (same_Some f g e) w.0
  within_got (g ∷ fs) (suc k) f w e = within_got fs k f w.1 e

  module _ (k : ℕ) where
    pub span_got : (f : Face) → Some f ≡ slice_get (faces l) k → record { start = f.start; end = f.start + length f.entries } ≡ span_of l k
    span_got f e = (span_in_got (faces l) k f e).0

    pub face_got : (f : Face) → Some f ≡ slice_get (faces l) k → f.entries ≡ face_of l k
    face_got f e = (span_in_got (faces l) k f e).1

    pub got_fits : (f : Face) → Some f ≡ slice_get (faces l) k → f.start + length f.entries ≤ length l
    got_fits f e = (within_got (faces l) k f (all_within l) e).end

    pub span_missing : None ≡ slice_get (faces l) k → record { start = 0; end = 0 } ≡ span_of l k
    span_missing e = (span_in_none (faces l) k e).0

    pub face_missing : None ≡ slice_get (faces l) k → [] ≡ face_of l k
    face_missing e = (span_in_none (faces l) k e).1

pub ruleset shown_cases = (span_got, got_fits, span_missing)

-- a span lies within the list, and the list's part there is the face
pub record Shown (l : List ℤ) (p : Span) (r : List ℤ) : Type 0 where
  pub order : p.start ≤ p.end
  pub within : p.end ≤ length l
  pub part : take (p.end - p.start) (drop p.start l) ≡ r

shown_from : (l : List ℤ) (rs : List (List ℤ)) (i : ℕ) → rs ≡ runs (drop i l) → (k : ℕ) → Shown l (span_in (faces_from i rs) k) (face_in (faces_from i rs) k)
shown_from l [] i e k = record { order = omega arith; within = omega arith; part = refl }
shown_from l (r ∷ rs) i e k = go (shown_from l rs) (dec_lt i (length l)) k
  where
    go : ((i : ℕ) → rs ≡ runs (drop i l) → (k : ℕ) → Shown l (span_in (faces_from i rs) k) (face_in (faces_from i rs) k)) → Dec (i < length l) → (k : ℕ) → Shown l (span_in (faces_from i (r ∷ rs)) k) (face_in (faces_from i (r ∷ rs)) k)
    go later (no n) k = let z : ◌≡◌ {A = ℕ} 0 1 = cc (ap runs (drop_of_length-le l {i = i} (omega arith))) in absurd (omega arith)
    go later (yes h) k = at k
      where
        first : r ≡ take (run_length (drop i l)) (drop i l)
        first = head-eq_of_cons-eq (e ∙ runs_split l i h)

        long : length r ≡ run_length (drop i l)
        long = ap length first ∙ run_long l i h

        at : (k : ℕ) → Shown l (span_in (faces_from i (r ∷ rs)) k) (face_in (faces_from i (r ∷ rs)) k)
        at zero =
            record {
              order = omega arith;
              within = omega (arith, long, run_inside l i h);
              part = rw (add-sub_cancel_left i (length r)) (ap (λ k. take k (drop i l)) long ∙ sym first);
            }
        at (suc k) = later (i + length r + 1) (tail-eq_of_cons-eq (e ∙ runs_split l i h) ∙ ap (λ k. runs (drop (i + k + 1) l)) (sym long)) k

pub span_shown : (l : List ℤ) (k : ℕ) → Shown l (span_of l k) (face_of l k)
span_shown l k = shown_from l (runs l) 0 refl k

pub shown_at : (l : List ℤ) (k : ℕ) (p : Span) → p ≡ span_of l k → Shown l p (face_of l k)
shown_at l k p e = subst⁻¹ (λ (q : Span). Shown l q (face_of l k)) e (span_shown l k)
