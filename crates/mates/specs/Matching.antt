-- Mates from an order of the corners by the lower vertices of their keys: what the functions that find them promise one another.
-- Each corner of the order xs meets the last one before it that has its key, of the keys ks, and ms gets the mates' words; the table
-- ls has for each vertex the last corner met whose key has it as the higher one, and 0 where none was met.
--
--   same_key ks e        the corners with the key of corner e
--   word_by ks e         the word for the mate of corner e, found by the keys
--   starts_by ks e       e is the first of three or more corners with its key
--   RightAt c ks w e     w has the right word for corner e
--   last_of d xs          the last of xs; d where there is none
--   met ks xs i k        the corners with the key k among the first i of the order
--   starts_met ks xs i e  e is the first of three or more corners with its key among those i
--   earlier ks xs i      the corners before the one at place i of the order that have its key
--   last_at ks ls e       the last corner met at the higher vertex of corner e's key
--   noted ks ls e        ls with corner e as the last one met at the higher vertex of its key
--   Met ks xs i ls       the first i corners of the order have met. The last corner met at the higher vertex of a key was met, or is
--                        0; where the corners of that key are still to come, it is the last that was met of that key, if one was
--   Words ks xs i ms     each of the first i corners has the right word among them
use Rattle.std.specs.Prelude.{ℕ, ◌+◌, ◌*◌, ◌≤◌, ◌<◌, ◌≡◌, Bool, List, [], ◌∷◌, ◌⊎◌, length, get_or, take, set}
use Rattle.list.specs.Limits.{max_entries}
use Rattle.order.specs.Choose.{choose, All, up_from}
use Rattle.order.specs.Sort.{digit_is, key_at, lower, higher, Arranged}
use Rattle.mates.specs.Mates.{mate_among, mate_word, starts_many}

abbrev pub same_key : List ℕ → ℕ → List ℕ
same_key ks e = choose (digit_is (key_at ks) (key_at ks e)) (up_from 0 (length ks))

abbrev pub word_by : List ℕ → ℕ → ℕ
word_by ks e = mate_word (length ks) e (mate_among e (same_key ks e))

abbrev pub starts_by : List ℕ → ℕ → Bool
starts_by ks e = starts_many e (same_key ks e)

abbrev pub RightAt : ℕ → List ℕ → List ℕ → ℕ → Type 0
RightAt c ks w e = get_or w (2 * c + e) 0 ≡ word_by ks e

abbrev pub last_of : ℕ → List ℕ → ℕ
last_of d [] = d
last_of d (x ∷ xs) = last_of x xs

abbrev pub met : List ℕ → List ℕ → ℕ → ℕ → List ℕ
met ks xs i k = choose (digit_is (key_at ks) k) (take i xs)

abbrev pub starts_met : List ℕ → List ℕ → ℕ → ℕ → Bool
starts_met ks xs i e = starts_many e (met ks xs i (key_at ks e))

abbrev pub earlier : List ℕ → List ℕ → ℕ → List ℕ
earlier ks xs i = met ks xs i (key_at ks (get_or xs i 0))

abbrev pub last_at : List ℕ → List ℕ → ℕ → ℕ
last_at ks ls e = get_or ls (higher (key_at ks e)) 0

abbrev pub noted : List ℕ → List ℕ → ℕ → List ℕ
noted ks ls e = set ls (higher (key_at ks e)) e

pub record Met (ks xs : List ℕ) (i : ℕ) (ls : List ℕ) : Type 0 where
  pub few : length ks ≤ max_entries
  pub arranged : Arranged (length ks) (key_at ks) (λ (e : ℕ). lower (key_at ks e)) xs
  pub inside : i ≤ length ks
  pub fits : (e : ℕ) → e < length ks → higher (key_at ks e) < length ls
  pub seen : (e : ℕ) → e < length ks → (last_at ks ls e ≡ 0) ⊎ ((p : ℕ) × (p < i) × (get_or xs p 0 ≡ last_at ks ls e))
  pub last : (q : ℕ) → i ≤ q → q < length ks → last_of (last_at ks ls (get_or xs q 0)) (met ks xs i (key_at ks (get_or xs q 0))) ≡ last_at ks ls (get_or xs q 0)

pub record Words (ks xs : List ℕ) (i : ℕ) (ms : List ℕ) : Type 0 where
  pub room : length ms ≡ length ks
  pub right : (k : ℕ) → All (λ (e : ℕ). get_or ms e 0 ≡ mate_word (length ks) e (mate_among e (met ks xs i k))) (met ks xs i k)
