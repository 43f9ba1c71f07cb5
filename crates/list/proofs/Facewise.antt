-- A face's first fault in the words of the code table: `face_fault` says Outside, Short, Repeated or nothing exactly when the table does.
use Prim.Native.Nat.{ℕ, zero, suc, ◌≤◌, ◌<◌}
use mathlib.Core.Path.{◌≡◌, refl, sym, ◌∙◌, ap, subst, subst⁻¹}
use mathlib.Core.Bool.{Bool, true, false, true≢false, false≢true}
use mathlib.Core.List.{List}
use native.Mathlib.Omega.{arith, not-le}
use native.Mathlib.Decide.{dec_lt}
use borrow.Author.Tests.{le-leb, lt-leb, leb-true}
use lib.IntN.{ℤ, pos, negsuc}
use lib.ListN.{length, get_or}
use Rattle.list.specs.Faces.{is_end, num, vertices}
use Rattle.list.specs.Check.{outside, first_outside, elem, first_repeat, face_fault, ValidFace}
use Rattle.list.specs.Codes.{Outside, below, at_least, NoneOutside, RepeatAt}
use Rattle.list.specs.Flags.{seen_to}
use Rattle.std.specs.Prelude.{Result, Ok, Err}
use Rattle.list.specs.declared.rules.FaceFault.{FaceFault}
use Rattle.list.specs.declared.rules.FaceFault.TheVariants as Fault·
use Rattle.list.proofs.First.{first_none, first_found, first_before, first_only}
use Rattle.list.proofs.Repeats.{vertex_of, vertices_long, seen_not, seen_index, seen_has, repeat_found, repeat_only}
use Rattle.list.proofs.Faults.{fault_outside, fault_short, fault_repeated, fault_none}

outside_said : (n : ℕ) (z : ℤ) → outside n z ≡ true → Outside n z
outside_said n (pos v) e = at_least v (leb-true n v e)
outside_said n (negsuc zero) e = absurd (false≢true e)
outside_said n (negsuc (suc m)) e = below m

outside_holds : (n : ℕ) (z : ℤ) → Outside n z → outside n z ≡ true
outside_holds n z (below m) = refl
outside_holds n z (at_least v h) = le-leb n v h

outside_denied : (n : ℕ) (z : ℤ) → (Outside n z → ⊥) → outside n z ≡ false
outside_denied n z d = go (outside n z) refl
  where
    go : (b : Bool) → outside n z ≡ b → b ≡ false
    go true e = absurd (d (outside_said n z e))
    go false e = refl

not-outside : (n : ℕ) (z : ℤ) → outside n z ≡ false → Outside n z → ⊥
not-outside n z e o = true≢false (sym (outside_holds n z o) ∙ e)

-- an entry that is neither -1 nor outside is an index
index_of : (n : ℕ) (z : ℤ) → is_end z ≡ false → (Outside n z → ⊥) → (v : ℕ) × (z ≡ pos v) × (v < n)
index_of n (pos v) e d = (v, refl, not-le n v (λ h. d (at_least v h)))
index_of n (negsuc zero) e d = absurd (true≢false e)
index_of n (negsuc (suc m)) e d = absurd (d (below m))

pub data FaceSaid (n : ℕ) (r : List ℤ) : Result (Unit {0}) FaceFault → Type 0 where
  out : (i : ℕ) → i < length r → Outside n (get_or r i (pos 0)) → ((j : ℕ) → j < i → Outside n (get_or r j (pos 0)) → ⊥) → FaceSaid n r (Err (Fault·.Outside i))
  few : NoneOutside n r → length r < 3 → FaceSaid n r (Err Fault·.Short)
  twice : (j : ℕ) → NoneOutside n r → 3 ≤ length r → j < length r → RepeatAt r j → ((i : ℕ) → i < j → RepeatAt r i → ⊥) → FaceSaid n r (Err (Fault·.Repeated j))
  fine : ValidFace n r → FaceSaid n r (Ok tt)

-- no entry of r is -1, as in a run
module _ (n : ℕ) (r : List ℤ) (clean : (i : ℕ) → i < length r → is_end (get_or r i (pos 0)) ≡ false) where
  none_outside : length r ≤ first_outside n r → NoneOutside n r
  none_outside h i q = not-outside n (get_or r i (pos 0)) (first_none (outside n) r h i q)

  outside_none : NoneOutside n r → length r ≤ first_outside n r
  outside_none none = go (dec_lt (first_outside n r) (length r))
    where
      go : Dec (first_outside n r < length r) → length r ≤ first_outside n r
      go (yes h) = absurd (none (first_outside n r) h (outside_said n (get_or r (first_outside n r) (pos 0)) (first_found (outside n) r h)))
      go (no h) = omega arith

  module _ (none : NoneOutside n r) where
    -- two entries are equal where their vertices are
    same_entry : (i j : ℕ) → i < length r → j < length r → get_or (vertices r) i 0 ≡ get_or (vertices r) j 0 → get_or r i (pos 0) ≡ get_or r j (pos 0)
    same_entry i j hi hj e = go (index_of n (get_or r i (pos 0)) (clean i hi) (none i hi)) (index_of n (get_or r j (pos 0)) (clean j hj) (none j hj))
      where
        go : (v : ℕ) × (get_or r i (pos 0) ≡ pos v) × (v < n) → (w : ℕ) × (get_or r j (pos 0) ≡ pos w) × (w < n) → get_or r i (pos 0) ≡ get_or r j (pos 0)
        go v w = v.1 ∙ ap pos (sym (ap num v.1) ∙ sym (vertex_of r i) ∙ e ∙ vertex_of r j ∙ ap num w.1) ∙ sym w.1

    repeat_said : (j : ℕ) → j < length r → elem (get_or (vertices r) j 0) (seen_to (vertices r) j) ≡ true → RepeatAt r j
    repeat_said j h e = go (seen_index (vertices r) j (get_or (vertices r) j 0) e)
      where
        go : (i : ℕ) × (i < j) × (get_or (vertices r) i 0 ≡ get_or (vertices r) j 0) → RepeatAt r j
        go s = record { earlier = s.0; before = s.1; equal = same_entry s.0 j (omega (arith, s.1)) h s.2 }

    repeat_denied : (j : ℕ) → j < length r → (RepeatAt r j → ⊥) → elem (get_or (vertices r) j 0) (seen_to (vertices r) j) ≡ false
    repeat_denied j h d = go (elem (get_or (vertices r) j 0) (seen_to (vertices r) j)) refl
      where
        go : (b : Bool) → elem (get_or (vertices r) j 0) (seen_to (vertices r) j) ≡ b → b ≡ false
        go true e = absurd (d (repeat_said j h e))
        go false e = refl

  repeat_holds : (j : ℕ) → RepeatAt r j → elem (get_or (vertices r) j 0) (seen_to (vertices r) j) ≡ true
  repeat_holds j a =
      seen_has (vertices r) j a.earlier (get_or (vertices r) j 0) a.before
      (vertex_of r a.earlier ∙ ap num a.equal ∙ sym (vertex_of r j))

  -- before the first repeat nothing repeats
  unrepeated_said : (j : ℕ) → j < length r → j < first_repeat (vertices r) → RepeatAt r j → ⊥
  unrepeated_said j h q a = true≢false (sym (repeat_holds j a) ∙ seen_not (vertices r) j (rw vertices_long h) q)

  valid_none : ValidFace n r → NoneOutside n r
  valid_none v i h o = go (v.inside i h) o
    where
      go : (k : ℕ) × (get_or r i (pos 0) ≡ pos k) × (k < n) → Outside n (get_or r i (pos 0)) → ⊥
      go k o = not-outside n (pos k.0) (lt-leb n k.0 k.2) (subst (Outside n) k.1 o)

  pub face_said : FaceSaid n r (face_fault n r)
  face_said = go (dec_lt (first_outside n r) (length r)) (dec_lt (length r) 3) (dec_lt (first_repeat (vertices r)) (length r))
    where
      go : Dec (first_outside n r < length r) → Dec (length r < 3) → Dec (first_repeat (vertices r) < length r) → FaceSaid n r (face_fault n r)
      go (yes o) s t =
          subst⁻¹ (FaceSaid n r) (fault_outside n r o)
          (out (first_outside n r) o (outside_said n (get_or r (first_outside n r) (pos 0)) (first_found (outside n) r o)) (λ j h. not-outside n (get_or r j (pos 0)) (first_before (outside n) r j h)))
      go (no o) (yes s) t = subst⁻¹ (FaceSaid n r) (fault_short n r (omega arith) s) (few (none_outside (omega arith)) s)
      go (no o) (no s) (yes t) =
          subst⁻¹ (FaceSaid n r) (fault_repeated n r (omega arith) (omega arith) t)
          (twice (first_repeat (vertices r)) (none_outside (omega arith)) (omega arith) t (repeat_said (none_outside (omega arith)) (first_repeat (vertices r)) t (repeat_found (vertices r) (rw vertices_long t))) (λ i h. unrepeated_said i (omega arith) h))
      go (no o) (no s) (no t) =
          subst⁻¹ (FaceSaid n r) (fault_none n r (omega arith) (omega arith) (omega arith))
          (fine (record {
            long = omega arith;
            inside = λ i h. index_of n (get_or r i (pos 0)) (clean i h) (none_outside (omega arith) i h);
            different = λ i j h q e. unrepeated_said j q (omega arith) (record { earlier = i; before = h; equal = e });
          }))

  pub face_only : (f : Result (Unit {0}) FaceFault) → FaceSaid n r f → face_fault n r ≡ f
  face_only f (out i h o first) =
      let e : first_outside n r ≡ i = first_only (outside n) r i h (outside_holds n (get_or r i (pos 0)) o) (λ j q. outside_denied n (get_or r j (pos 0)) (first j q)) in
      fault_outside n r (omega arith) ∙ ap (λ k. Err (Fault·.Outside k)) e
  face_only f (few none s) = fault_short n r (outside_none none) s
  face_only f (twice j none long h a first) =
      let e : first_repeat (vertices r) ≡ j = repeat_only (vertices r) j (rw vertices_long h) (repeat_holds j a) (λ i q. repeat_denied none i (omega arith) (first i q)) in
      fault_repeated n r (outside_none none) long (omega arith) ∙ ap (λ k. Err (Fault·.Repeated k)) e
  face_only f (fine v) = go (dec_lt (first_repeat (vertices r)) (length r))
    where
      go : Dec (first_repeat (vertices r) < length r) → face_fault n r ≡ Ok tt
      go (yes t) =
          let a : RepeatAt r (first_repeat (vertices r)) = repeat_said (valid_none v) (first_repeat (vertices r)) t (repeat_found (vertices r) (rw vertices_long t)) in
          absurd (v.different a.earlier (first_repeat (vertices r)) a.before t a.equal)
      go (no t) = fault_none n r (outside_none (valid_none v)) v.long (omega arith)
