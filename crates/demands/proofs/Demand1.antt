-- Demand 1: "Every list, vertex count and set of buffers gets an answer. Bad input is refused by number and place, all counts zero, no
-- lent buffer written." That every call answers is what it is to be proved: each function ends, for every input, with the answer
-- that its definition gives.
use Prim.Native.Nat.{ℕ, ◌≤◌, ◌<◌}
use mathlib.Core.Path.{◌≡◌, ap}
use mathlib.Core.Bool.{false}
use mathlib.Core.List.{List}
use mathlib.Core.Logic.{◌↔◌}
use native.Mathlib.Omega.{arith}
use native.Mathlib.Decide.{dec_lt}
use lib.IntN.{ℤ}
use lib.ListN.{length}
use Rattle.list.specs.Limits.{max_entries}
use Rattle.list.specs.Check.{check_of}
use Rattle.list.specs.Codes.{Row}
use Rattle.list.proofs.Given as goal
use Rattle.number.specs.Codes.{not_of_the_form, out_of_range, too_many, too_long, no_room_code}
use Rattle.text.specs.Tokens.{tokens}
use Rattle.text.specs.Reading.{read_of, read_into, room_of, refused, accepted}
use Rattle.text.specs.Faults.{Eleven, Twelve, Thirteen, Whole}
use Rattle.text.specs.Writing.{written, write_of, write_into, refused_write, accepted_write}
use Rattle.text.specs.Reading.{ReadAnswer}
use Rattle.text.specs.Writing.{WriteAnswer}
use Rattle.text.proofs.Exactly as Exactly
use Rattle.text.proofs.Exactly.{Verdict, by_eleven, by_twelve, by_thirteen, by_none}
use Rattle.text.proofs.Whole.{into_refused}
use Rattle.text.proofs.Writes.{into_kept, write_long, write_short, write_fits}
use Rattle.edges.specs.Table.{edge_of}
use Rattle.cut.specs.Cut.{cut_of, cut_list, cut_map, cut_work, classes_answer, classes_bytes, classes_work}
use Rattle.demands.specs.Refused.{EdgeRow, ClassesRow, CutRow}
use Rattle.demands.proofs.Refusals as Refusals

-- "each code exactly when the table says, in the table's order", with its place; code 0 where all rows are passed

pub check_codes : (l : List ℤ) (n c p : ℕ) → (((check_of l n).code ≡ c) × ((check_of l n).place ≡ p)) ↔ Row l n c p
check_codes = goal.given_exactly_when

pub edge_codes : (l : List ℤ) (n : ℕ) (a b : ℤ) (c p : ℕ) → (((edge_of l n a b).code ≡ c) × ((edge_of l n a b).place ≡ p)) ↔ EdgeRow l n a b c p
edge_codes = Refusals.edge_exactly_when

pub classes_codes : (l : List ℤ) (n b w c p : ℕ) → (((classes_answer l n b w).code ≡ c) × ((classes_answer l n b w).place ≡ p)) ↔ ClassesRow l n b w c p
classes_codes = Refusals.classes_exactly_when

pub cut_codes : (l : List ℤ) (n a b w c p : ℕ) → (((cut_of l n a b w).code ≡ c) × ((cut_of l n a b w).place ≡ p)) ↔ CutRow l n a b w c p
cut_codes = Refusals.cut_exactly_when

pub read_11 : (t : List ℕ) (n p : ℕ) → (read_of t n ≡ refused not_of_the_form p) ↔ Eleven (length t) (room_of n) (tokens 0 false t) p
read_11 = Exactly.eleven_exactly

pub read_12 : (t : List ℕ) (n p : ℕ) → (read_of t n ≡ refused out_of_range p) ↔ Twelve (room_of n) (tokens 0 false t) p
read_12 = Exactly.twelve_exactly

pub read_13 : (t : List ℕ) (n p : ℕ) → (read_of t n ≡ refused too_many p) ↔ Thirteen (room_of n) (tokens 0 false t) p
read_13 = Exactly.thirteen_exactly

pub read_0 : (t : List ℕ) (n k : ℕ) → (read_of t n ≡ accepted k) ↔ Whole (room_of n) (tokens 0 false t) k
read_0 = Exactly.accepted_exactly

pub write_1 : (l : List ℤ) (n : ℕ) → (write_of l n ≡ refused_write too_long 0) ↔ (max_entries < length l)
write_1 = Exactly.one_exactly

pub write_15 : (l : List ℤ) (n p : ℕ) → (write_of l n ≡ refused_write no_room_code p) ↔ ((length l ≤ max_entries) × (n < length (written l)) × (p ≡ length (written l)))
write_15 = Exactly.fifteen_exactly

pub write_0 : (l : List ℤ) (n k : ℕ) → (write_of l n ≡ accepted_write k) ↔ ((length l ≤ max_entries) × (length (written l) ≤ n) × (k ≡ length (written l)))
write_0 = Exactly.written_exactly

-- "on every refusal all else is 0"

pub check_refused : (l : List ℤ) (n : ℕ) → ((check_of l n).code ≡ 0 → ⊥) → ((check_of l n).faces ≡ 0) × ((check_of l n).corners ≡ 0)
check_refused = goal.refused_zeros

pub edge_refused : (l : List ℤ) (n : ℕ) (a b : ℤ) → ((edge_of l n a b).code ≡ 0 → ⊥) → (edge_of l n a b).faces ≡ 0
edge_refused = Refusals.edge_refused_zero

pub cut_refused_lem : (l : List ℤ) (n a b w : ℕ) → ((cut_of l n a b w).code ≡ 0 → ⊥) → ((cut_of l n a b w).faces ≡ 0) × ((cut_of l n a b w).corners ≡ 0) × ((cut_of l n a b w).vertices ≡ 0) × ((cut_of l n a b w).singular_edges ≡ 0) × ((cut_of l n a b w).singular_vertices ≡ 0)
cut_refused_lem = Refusals.cut_refused_zeros

pub read_refused : (t : List ℕ) (n : ℕ) → ((read_of t n).code ≡ 0 → ⊥) → (read_of t n).entries ≡ 0
read_refused t n d = go (Exactly.verdict (length t) (room_of n) (tokens 0 false t))
  where
    go : Verdict (length t) (room_of n) (tokens 0 false t) → (read_of t n).entries ≡ 0
    go (by_eleven p x) = ap (λ (r : ReadAnswer). r.entries) ((read_11 t n p).1 x)
    go (by_twelve p x) = ap (λ (r : ReadAnswer). r.entries) ((read_12 t n p).1 x)
    go (by_thirteen p x) = ap (λ (r : ReadAnswer). r.entries) ((read_13 t n p).1 x)
    go (by_none k x) = absurd (d (ap (λ (r : ReadAnswer). r.code) ((read_0 t n k).1 x)))

pub write_refused : (l : List ℤ) (n : ℕ) → ((write_of l n).code ≡ 0 → ⊥) → (write_of l n).length ≡ 0
write_refused l n d = go (dec_lt max_entries (length l)) (dec_lt n (length (written l)))
  where
    go : Dec (max_entries < length l) → Dec (n < length (written l)) → (write_of l n).length ≡ 0
    go (yes h) k = ap (λ (r : WriteAnswer). r.length) (write_long l n h)
    go (no h) (yes k) = ap (λ (r : WriteAnswer). r.length) (write_short l n (omega arith) k)
    go (no h) (no k) = absurd (d (ap (λ (r : WriteAnswer). r.code) (write_fits l n (omega arith) (omega arith))))

-- "and every lent buffer is as it was"

pub classes_kept : (l : List ℤ) (n : ℕ) (classes work : List ℕ) → ((classes_answer l n (length classes) (length work)).code ≡ 0 → ⊥) → (classes_bytes l n classes work ≡ classes) × (classes_work l n classes work ≡ work)
classes_kept = Refusals.classes_refused_keeps

pub cut_kept : (l : List ℤ) (n : ℕ) (new_list map : List ℤ) (work : List ℕ) → ((cut_of l n (length new_list) (length map) (length work)).code ≡ 0 → ⊥) → (cut_list l n new_list map work ≡ new_list) × (cut_map l n new_list map work ≡ map) × (cut_work l n new_list map work ≡ work)
cut_kept = Refusals.cut_refused_keeps

pub read_kept : (t : List ℕ) (l : List ℤ) → ((read_of t (length l)).code ≡ 0 → ⊥) → read_into t l ≡ l
read_kept = into_refused

pub write_kept : (l : List ℤ) (t : List ℕ) → ((write_of l (length t)).code ≡ 0 → ⊥) → write_into l t ≡ t
write_kept l t d = go (dec_lt max_entries (length l)) (dec_lt (length t) (length (written l)))
  where
    go : Dec (max_entries < length l) → Dec (length t < length (written l)) → write_into l t ≡ t
    go (yes h) k = into_kept l t too_long 0 (omega arith) (write_long l (length t) h)
    go (no h) (yes k) = into_kept l t no_room_code (length (written l)) (omega arith) (write_short l (length t) (omega arith) k)
    go (no h) (no k) = absurd (d (ap (λ (r : WriteAnswer). r.code) (write_fits l (length t) (omega arith) (omega arith))))
