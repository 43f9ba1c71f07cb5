-- Laws of a face's first fault: which test decides it, and what a face that passed the first test has.
use Prim.Native.Nat.{ℕ, zero, suc, ◌≤◌, ◌<◌}
use mathlib.Core.Path.{◌≡◌, refl, sym}
use mathlib.Core.Bool.{Bool, true, false, cond, true≢false}
use mathlib.Core.List.{List, []}
use native.Mathlib.Omega.{arith}
use borrow.Author.Tests.{lt-ltb, le-ltb, leb-false}
use lib.Dec.{ltb}
use lib.IntN.{ℤ, pos, negsuc}
use lib.ListN.{length, get_or, replicate}
use Rattle.list.specs.Faces.{is_end, is_natural, NoEnd, Naturals, num, vertices, place_or_none}
use Rattle.list.specs.Check.{outside, first_outside, first_repeat, face_fault}
use Rattle.list.specs.declared.rules.FaceFault.{FaceFault}
use Rattle.list.specs.declared.rules.FaceFault.TheVariants as Fault·
use Rattle.list.specs.Flags.{Clear}
use Rattle.std.specs.Prelude.{Some, None, Result, Ok, Err}
use Rattle.list.proofs.First.{first_fits, first_none, place_some, place_none}
use Rattle.list.proofs.Repeats.{vertex_of, vertices_long, repeat_fits}

module _ (n : ℕ) (r : List ℤ) where
  pub fault_outside : first_outside n r < length r → face_fault n r ≡ Err (Fault·.Outside (first_outside n r))
  unfolding face_fault
  fault_outside h = rw (lt-ltb (first_outside n r) (length r) h)

  module _ (inside : length r ≤ first_outside n r) where
    pub fault_short : length r < 3 → face_fault n r ≡ Err Fault·.Short
    unfolding face_fault
    fault_short h = rw (le-ltb (first_outside n r) (length r) inside, lt-ltb (length r) 3 h)

    module _ (long : 3 ≤ length r) where
      pub fault_repeated : first_repeat (vertices r) < length r → face_fault n r ≡ Err (Fault·.Repeated (first_repeat (vertices r)))
      unfolding face_fault
      fault_repeated h =
          rw (le-ltb (first_outside n r) (length r) inside, le-ltb (length r) 3 long, lt-ltb (first_repeat (vertices r)) (length r) h)

      pub fault_none : length r ≤ first_repeat (vertices r) → face_fault n r ≡ Ok tt
      unfolding face_fault
      fault_none h =
          rw (le-ltb (first_outside n r) (length r) inside, le-ltb (length r) 3 long, le-ltb (first_repeat (vertices r)) (length r) h)

-- the same, of a place that is told where there is one
module _ (n : ℕ) (r : List ℤ) where
  pub told_outside : (i : ℕ) → Some i ≡ place_or_none r (first_outside n r) → Err (Fault·.Outside i) ≡ face_fault n r
  told_outside i e = let p = place_some r i (first_outside n r) e in rw (p.0, fault_outside n r p.1)

  module _ (inside : None ≡ place_or_none r (first_outside n r)) where
    pub told_short : length r < 3 → Err Fault·.Short ≡ face_fault n r
    told_short h = sym (fault_short n r (place_none r (first_outside n r) inside) h)

    module _ (long : 3 ≤ length r) where
      pub told_repeated : (i : ℕ) → Some i ≡ place_or_none r (first_repeat (vertices r)) → Err (Fault·.Repeated i) ≡ face_fault n r
      told_repeated i e =
          let p = place_some r i (first_repeat (vertices r)) e in
          rw (p.0, fault_repeated n r (place_none r (first_outside n r) inside) long p.1)

      pub told_none : None ≡ place_or_none r (first_repeat (vertices r)) → Ok tt ≡ face_fault n r
      told_none e =
          sym (fault_none n r (place_none r (first_outside n r) inside) long (place_none r (first_repeat (vertices r)) e))

-- each outcome of the tests
pub ruleset fault_told = (told_outside, told_short, told_repeated, told_none)

num_below : (n m : ℕ) (z : ℤ) → n ≤ m → 0 < m → outside n z ≡ false → num z < m
num_below n m (pos k) h p e = omega (arith, leb-false n k e)
num_below n m (negsuc k) h p e = p

-- a face with no entry outside has a flag for each of its vertices
-- an entry that is neither -1 nor outside is natural
pub inside_natural : (n : ℕ) (r : List ℤ) → length r ≤ first_outside n r → NoEnd r → Naturals r
inside_natural n r h e i k = go (get_or r i (pos 0)) (e i k) (first_none (outside n) r h i k)
  where
    go : (z : ℤ) → is_end z ≡ false → outside n z ≡ false → is_natural z ≡ true
    go (pos k) p q = refl
    go (negsuc zero) p q = absurd (true≢false p)
    go (negsuc (suc k)) p q = absurd (true≢false q)

pub inside_clear : (n : ℕ) (r : List ℤ) (fs : List ℕ) → length r ≤ first_outside n r → n ≤ length fs → 0 < length fs → fs ≡ replicate (length fs) 0 → Clear (vertices r) fs
inside_clear n r fs h room some z =
    record {
      zeros = z;
      room = λ j p. rw vertex_of (num_below n (length fs) (get_or r j (pos 0)) room some (first_none (outside n) r h j (rw vertices_long at p)));
    }

-- the place of a fault, counted from where the face starts
abbrev pub place_in : Result (Unit {0}) FaceFault → ℕ
place_in (Ok _) = 0
place_in (Err (Fault·.Outside i)) = i
place_in (Err Fault·.Short) = 0
place_in (Err (Fault·.Repeated i)) = i

-- it is within the face or at its end
pub fault_fits : (n : ℕ) (r : List ℤ) → place_in (face_fault n r) ≤ length r
unfolding face_fault
fault_fits n r =
    go (ltb (first_outside n r) (length r)) (ltb (length r) 3) (ltb (first_repeat (vertices r)) (length r))
  where
    go : (a b d : Bool) → place_in (cond a (Err (Fault·.Outside (first_outside n r))) (cond b (Err Fault·.Short) (cond d (Err (Fault·.Repeated (first_repeat (vertices r)))) (Ok tt)))) ≤ length r
    go true b d = first_fits (outside n) r
    go false true d = omega arith
    go false false true = omega (arith, repeat_fits [] (vertices r), vertices_long r)
    go false false false = omega arith
