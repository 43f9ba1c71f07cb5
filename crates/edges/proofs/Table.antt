-- Laws of the edge table: what stands at each of its words.
use Prim.Native.Nat.{ℕ, zero, suc, ◌+◌, ◌*◌, ◌≤◌, ◌<◌}
use mathlib.Core.Path.{◌≡◌, refl, ◌∙◌, ap}
use mathlib.Core.List.{List, [], ◌∷◌, ◌++◌}
use mathlib.Core.Logic.{◌↔◌}
use native.Mathlib.Omega.{arith}
use lib.IntN.{ℤ}
use lib.ListN.{length, get_or, replicate, length-replicate, get_or-replicate, length-append, length-map, get_or-append, get_or-map}
use lib.Seq.{get_or-append-add}
use Rattle.mates.specs.Mates.{other, mate_word}
use Rattle.edges.specs.Uses.{Use, uses, mate_of, no_use, use_at}
use Rattle.edges.specs.Table.{next_words, vertex_words, mate_words, table_of}
use Rattle.edges.proofs.Uses.{corner_at_lem}
use Rattle.edges.proofs.Mates.{mate, faces_at, word, mate_alone, mate_other, mate_many, mate_regular, word_alone, word_other, word_many}

-- inside a list it doesn't matter what stands past its end
get_d_any : (xs : List ℕ) (i d f : ℕ) → i < length xs → get_or xs i d ≡ get_or xs i f
get_d_any [] i d f h = absurd (omega arith)
get_d_any (x ∷ xs) zero d f h = refl
get_d_any (x ∷ xs) (suc i) d f h = get_d_any xs i d f (omega arith)

-- a list of four blocks of c words each
module _ (c : ℕ) (P Q R S : List ℕ) (p : length P ≡ c) (q : length Q ≡ c) (r : length R ≡ c) (s : length S ≡ c) where
  two_long : length (P ++ Q) ≡ 2 * c
  two_long = omega (arith, length-append P Q)

  three_long : length (P ++ Q ++ R) ≡ 3 * c
  three_long = omega (arith, two_long, length-append (P ++ Q) R)

  pub four_long : length (P ++ Q ++ R ++ S) ≡ 4 * c
  four_long = omega (arith, three_long, length-append (P ++ Q ++ R) S)

  module _ (i d : ℕ) (h : i < c) where
    pub first_block : get_or (P ++ Q ++ R ++ S) i d ≡ get_or P i d
    first_block =
        get_or-append (P ++ Q ++ R) S d i (omega (arith, three_long)) ∙ get_or-append (P ++ Q) R d i (omega (arith, two_long)) ∙ get_or-append P Q d i (omega arith)

    pub second_block : get_or (P ++ Q ++ R ++ S) (c + i) d ≡ get_or Q i d
    second_block =
        get_or-append (P ++ Q ++ R) S d (c + i) (omega (arith, three_long)) ∙ get_or-append (P ++ Q) R d (c + i) (omega (arith, two_long)) ∙ rw (← p) (get_or-append-add P Q i d)

    pub third_block : get_or (P ++ Q ++ R ++ S) (2 * c + i) d ≡ get_or R i d
    third_block = get_or-append (P ++ Q ++ R) S d (2 * c + i) (omega (arith, three_long)) ∙ rw (← two_long) (get_or-append-add (P ++ Q) R i d)

    pub fourth_block : get_or (P ++ Q ++ R ++ S) (3 * c + i) d ≡ get_or S i d
    fourth_block = rw (← three_long) (get_or-append-add (P ++ Q ++ R) S i d)

nexts_long : (us : List Use) → length (next_words us) ≡ length us
nexts_long us = length-map us (λ (u : Use). u.next)

vertices_long : (us : List Use) → length (vertex_words us) ≡ length us
vertices_long us = length-map us (λ (u : Use). u.from)

pub mates_long : (us : List Use) → length (mate_words us) ≡ length us
mates_long us = length-map us (λ (u : Use). mate_word (length us) u.corner (mate_of us u))

-- the e-th mate word
pub word_at : (l : List ℤ) (e : ℕ) → e < length (uses l) → get_or (mate_words (uses l)) e 0 ≡ word l e
word_at l e h =
    get_d_any (mate_words (uses l)) e 0 (mate_word (length (uses l)) no_use.corner (mate_of (uses l) no_use)) (rw (mates_long (uses l)) h) ∙
    get_or-map (λ (u : Use). mate_word (length (uses l)) u.corner (mate_of (uses l) u)) (uses l) e no_use ∙
    ap (λ (i : ℕ). mate_word (length (uses l)) i (mate_of (uses l) (use_at l e))) (corner_at_lem l e h)

module _ (l : List ℤ) where
  abbrev c : ℕ
  c = length (uses l)

  pub table_long : length (table_of l) ≡ 4 * c
  unfolding table_of
  table_long = four_long c (next_words (uses l)) (vertex_words (uses l)) (mate_words (uses l)) (replicate c 0) (nexts_long (uses l)) (vertices_long (uses l)) (mates_long (uses l)) (length-replicate c 0)

  module _ (e : ℕ) (h : e < c) where
    pub table_next : get_or (table_of l) e 0 ≡ (use_at l e).next
    unfolding table_of
    table_next =
        first_block c (next_words (uses l)) (vertex_words (uses l)) (mate_words (uses l)) (replicate c 0) (nexts_long (uses l)) (vertices_long (uses l)) (mates_long (uses l)) (length-replicate c 0) e 0 h ∙ get_or-map (λ (u : Use). u.next) (uses l) e no_use

    pub table_vertex : get_or (table_of l) (c + e) 0 ≡ (use_at l e).from
    unfolding table_of
    table_vertex =
        second_block c (next_words (uses l)) (vertex_words (uses l)) (mate_words (uses l)) (replicate c 0) (nexts_long (uses l)) (vertices_long (uses l)) (mates_long (uses l)) (length-replicate c 0) e 0 h ∙ get_or-map (λ (u : Use). u.from) (uses l) e no_use

    pub table_mate : get_or (table_of l) (2 * c + e) 0 ≡ word l e
    unfolding table_of
    table_mate =
        third_block c (next_words (uses l)) (vertex_words (uses l)) (mate_words (uses l)) (replicate c 0) (nexts_long (uses l)) (vertices_long (uses l)) (mates_long (uses l)) (length-replicate c 0) e 0 h ∙ word_at l e h

    pub table_rest : get_or (table_of l) (3 * c + e) 0 ≡ 0
    unfolding table_of
    table_rest =
        fourth_block c (next_words (uses l)) (vertex_words (uses l)) (mate_words (uses l)) (replicate c 0) (nexts_long (uses l)) (vertices_long (uses l)) (mates_long (uses l)) (length-replicate c 0) e 0 h ∙ get_or-replicate c e 0 0 h

    -- whoever asks the table asks the edge question: the mate's word tells one face, two faces or more

    pub table_one : (get_or (table_of l) (2 * c + e) 0 ≡ e) ↔ (faces_at l e ≡ 1)
    table_one = rw table_mate (λ q. (mate_alone l e h).0 (word_alone l e h q), λ q. ap (mate_word c e) ((mate_alone l e h).1 q))

    pub table_two : ((get_or (table_of l) (2 * c + e) 0 ≡ e → ⊥) × (get_or (table_of l) (2 * c + e) 0 ≡ c → ⊥)) ↔ (faces_at l e ≡ 2)
    table_two = rw table_mate (λ q. (mate_other l e h).0 (word l e, word_other l e h q.0 q.1), λ q. regular ((mate_other l e h).1 q))
      where
        regular : (f : ℕ) × (mate l e ≡ other f) → (word l e ≡ e → ⊥) × (word l e ≡ c → ⊥)
        regular m =
            let r = mate_regular l e m.0 h m.1 in
            rw m.1 (r.differs, λ q. omega (arith, r.below))

    pub table_many : (get_or (table_of l) (2 * c + e) 0 ≡ c) ↔ (3 ≤ faces_at l e)
    table_many = rw table_mate (λ q. (mate_many l e h).0 (word_many l e h q), λ q. ap (mate_word c e) ((mate_many l e h).1 q))
