-- The three answers of the writer, and what each leaves in the buffer.
use mathlib.Core.Path.{◌≡◌, ap}
use Prim.Native.Nat.{ℕ, ◌≤◌, ◌<◌}
use native.Mathlib.Nat.{zero-add}
use native.Mathlib.Omega.{arith}
use mathlib.Core.List.{List, ◌++◌}
use lib.IntN.{ℤ}
use lib.ListN.{length, drop}
use borrow.Author.Tests.{lt-ltb, le-ltb, eq-eqb, ne_eqb}
use Rattle.list.specs.Limits.{max_entries}
use Rattle.number.specs.Codes.{too_long, no_room_code}
use Rattle.text.specs.Writing.{written, refused_write, accepted_write, write_of, write_into}
use Rattle.number.specs.Steps.{put}
use Rattle.text.specs.Writing.{WriteAnswer}

module _ (l : List ℤ) (n : ℕ) where
  pub write_long : max_entries < length l → write_of l n ≡ refused_write too_long 0
  unfolding write_of
  write_long h = rw (lt-ltb max_entries (length l) h)

  pub write_short : length l ≤ max_entries → n < length (written l) → write_of l n ≡ refused_write no_room_code (length (written l))
  unfolding write_of
  write_short h k = rw (le-ltb max_entries (length l) h, lt-ltb n (length (written l)) k)

  pub write_fits : length l ≤ max_entries → length (written l) ≤ n → write_of l n ≡ accepted_write (length (written l))
  unfolding write_of
  write_fits h k = rw (le-ltb max_entries (length l) h, le-ltb n (length (written l)) k)

module _ (l : List ℤ) (t : List ℕ) where
  pub into_kept : (c p : ℕ) → 0 < c → write_of l (length t) ≡ refused_write c p → write_into l t ≡ t
  unfolding write_into
  into_kept c p h e =
      let z = ap (λ (r : WriteAnswer). r.code) e in
      rw (ne_eqb (write_of l (length t)).code 0 (λ k. omega arith))

  pub into_written : (n : ℕ) → write_of l (length t) ≡ accepted_write n → write_into l t ≡ written l ++ drop (length (written l)) t
  unfolding write_into
  into_written n e = rw (eq-eqb (write_of l (length t)).code 0 (ap (λ (r : WriteAnswer). r.code) e))

  pub put_front : put 0 (written l) t ≡ written l ++ drop (length (written l)) t
  put_front = ap (λ (k : ℕ). written l ++ drop k t) (zero-add (length (written l)))
