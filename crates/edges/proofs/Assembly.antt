-- The table's parts put together: keys tell edges apart, so corners of one key share an edge, and the four blocks are the table.
use Prim.Native.Nat.{ℕ, ◌+◌, ◌*◌, ◌/◌, ◌%◌, ◌≤◌, ◌<◌}
use mathlib.Core.Path.{◌≡◌, refl, sym, ◌∙◌, ap, ap₂}
use mathlib.Core.Bool.{Bool, true, false, false≢true}
use mathlib.Core.List.{List, ◌++◌, map}
use native.Mathlib.Omega.{arith}
use native.Mathlib.Nat.{zero-add}
use borrow.Author.Tests.{eq-eqb, ne_eqb}
use lib.Dec.{eqb}
use borrow.Rule.Slice.PartMut.{put_mid, post_of}
use lib.IntN.{ℤ}
use lib.ListN.{length, get_or, take, drop, replicate, length-append, length-map, length-replicate, length-take, length-drop, get_or-replicate, get_or-map}
use lib.Seq.{take_all, ext_get_or, drop-drop, length-take-le}
use Rattle.std.proofs.lemmas.List.{take_at, drop_at}
use Rattle.list.specs.Limits.{max_vertices}
use Rattle.list.specs.Check.{Valid}
use Rattle.order.specs.Choose.{choose, count, up_from}
use Rattle.order.specs.Sort.{part, Kept, digit_is, key_at, KeysBelow}
use Rattle.order.proofs.Lists.{all_in, choose_same, choose-map, up_from_in, from_table}
use Rattle.order.proofs.Parts.{length_part, get_d_part, part_add}
use Rattle.mates.specs.Mates.{mate_among, mate_word, starts_many}
use Rattle.mates.specs.Matching.{same_key, word_by, starts_by, RightAt}
use Rattle.edges.specs.Uses.{Use, uses, hi, on_edge, starts_singular, singular_edge_count, no_use, use_at}
use Rattle.edges.specs.Table.{next_words, vertex_words, mate_words, table_of}
use Rattle.edges.specs.Words.{key_of, corner_of, corner_words, TakenApart}
use Rattle.edges.proofs.Uses.{corner_at_lem}
use Rattle.edges.proofs.Faces.{on_edge_lem, edge_on, use_proper}
use Rattle.edges.proofs.Mates.{sharing, sharing_is, mate_is, word}
use Rattle.edges.proofs.Table.{mates_long, word_at}

-- keys tell edges apart
key_edge : (u v : Use) → hi u < max_vertices → hi v < max_vertices → eqb (key_of u) (key_of v) ≡ on_edge v.from v.to u
key_edge u v h k = go (on_edge v.from v.to u) refl
  where
    go : (b : Bool) → on_edge v.from v.to u ≡ b → eqb (key_of u) (key_of v) ≡ b
    go true e = let p = on_edge_lem v.from v.to u e in eq-eqb (key_of u) (key_of v) (omega (arith, p.0, p.1))
    go false e =
        ne_eqb (key_of u) (key_of v)
        (λ q. false≢true (sym e ∙ edge_on v.from v.to u (omega arith) (omega arith)))

module _ (l : List ℤ) (n : ℕ) (v : Valid l n) where
  abbrev ks : List ℕ
  ks = map key_of (uses l)

  hi_in : (e : ℕ) → e < length (uses l) → hi (use_at l e) < max_vertices
  hi_in e h = let p = use_proper l n v e h in omega (arith, p.from_in, p.to_in, v.few_vertices)

  key_at_lem : (e : ℕ) → key_at ks e ≡ key_of (use_at l e)
  key_at_lem e = get_or-map key_of (uses l) e no_use

  -- the corners with a corner's key are those that share its edge
  key_shares : (e : ℕ) → e < length (uses l) → same_key ks e ≡ sharing l (use_at l e).from (use_at l e).to
  key_shares e h =
      rw (length-map (uses l) key_of)
      (choose_same (digit_is (key_at ks) (key_at ks e)) (λ (f : ℕ). on_edge (use_at l e).from (use_at l e).to (use_at l f)) (up_from 0 (length (uses l)))
      (all_in (λ (f : ℕ). digit_is (key_at ks) (key_at ks e) f ≡ on_edge (use_at l e).from (use_at l e).to (use_at l f)) (up_from 0 (length (uses l)))
      (λ f i.
      let q : f < length (uses l) = omega (arith, up_from_in 0 (length (uses l)) f i) in
      ap₂ eqb (key_at_lem f) (key_at_lem e) ∙ key_edge (use_at l f) (use_at l e) (hi_in f q) (hi_in e h))))

  pub key_word_is : (e : ℕ) → e < length (uses l) → word_by ks e ≡ word l e
  key_word_is e h = ap₂ (λ (c : ℕ) (xs : List ℕ). mate_word c e (mate_among e xs)) (length-map (uses l) key_of) (key_shares e h) ∙ ap (mate_word (length (uses l)) e) (sym (mate_is l e h))

  key_starts : (e : ℕ) → e < length (uses l) → starts_by ks e ≡ starts_singular (uses l) (use_at l e)
  key_starts e h = ap (starts_many e) (key_shares e h ∙ sym (sharing_is l (use_at l e).from (use_at l e).to)) ∙ rw (corner_at_lem l e h)

  pub key_singular : count (starts_by ks) (up_from 0 (length (uses l))) ≡ singular_edge_count l
  key_singular =
      ap length
      (choose_same (starts_by ks) (λ (e : ℕ). starts_singular (uses l) (use_at l e)) (up_from 0 (length (uses l)))
      (all_in (λ (e : ℕ). starts_by ks e ≡ starts_singular (uses l) (use_at l e)) (up_from 0 (length (uses l))) (λ e i. key_starts e (omega (arith, up_from_in 0 (length (uses l)) e i))))) ∙
      sym (length-map (choose (λ (e : ℕ). starts_singular (uses l) (use_at l e)) (up_from 0 (length (uses l)))) (use_at l)) ∙
      ap length (sym (choose-map (starts_singular (uses l)) (use_at l) (up_from 0 (length (uses l))))) ∙
      ap (λ (us : List Use). length (choose (starts_singular (uses l)) us)) (from_table no_use (uses l))

-- both vertices of each key written are below the vertex count
pub keys_below : (l : List ℤ) (n c : ℕ) (w : List ℕ) → Valid l n → length (uses l) ≡ c → part 0 c w ≡ map key_of (uses l) → KeysBelow c n w
keys_below l n c w v u k e h =
    let q : e < length (uses l) = rw u h in
    let p = use_proper l n v e q in
    let x : key_at w e ≡ key_of (use_at l e) = sym (get_d_part 0 c w e h ∙ rw zero-add) ∙ ap (λ (xs : List ℕ). get_or xs e 0) k ∙ key_at_lem l n v e in
    (omega (arith, x, p.from_in, p.to_in, v.few_vertices), omega (arith, x, p.from_in, p.to_in, v.few_vertices))

four_parts : (c : ℕ) (w : List ℕ) → length w ≡ 4 * c → w ≡ part 0 c w ++ part c c w ++ part (2 * c) c w ++ part (3 * c) c w
four_parts c w h =
    let e₂ : 2 * c ≡ c + c = omega arith in
    let e₃ : 3 * c ≡ 2 * c + c = omega arith in
    let e₄ : 4 * c ≡ 3 * c + c = omega arith in
    let two : part 0 (2 * c) w ≡ part 0 c w ++ part c c w = rw e₂ (part_add 0 c c w ∙ rw zero-add) in
    let three : part 0 (3 * c) w ≡ part 0 (2 * c) w ++ part (2 * c) c w = rw e₃ (part_add 0 (2 * c) c w ∙ rw zero-add) in
    let four : part 0 (4 * c) w ≡ part 0 (3 * c) w ++ part (3 * c) c w = rw e₄ (part_add 0 (3 * c) c w ∙ rw zero-add) in
    sym (take_all (4 * c) w (omega arith)) ∙ four ∙ rw (three, two)

-- the work w begun: the keys stand in its first block of c words, the corners' words in its fourth
pub record Begun (l : List ℤ) (c : ℕ) (w : List ℕ) : Type 0 where
  pub long : length w ≡ 4 * c
  pub keys : part 0 c w ≡ map key_of (uses l)
  pub words : part (3 * c) c w ≡ corner_words (uses l)

-- written into the parts that the work is split into
pub begun : (l : List ℤ) (c k : ℕ) (ks rest ws : List ℕ) → length (uses l) ≡ c → length rest ≡ 3 * c → k ≡ c → ks ≡ map key_of (uses l) → ws ≡ corner_words (uses l) → Begun l c (ks ++ put_mid (2 * c) k rest ws)
begun l c k ks rest ws u r e keys words =
    let kl : length ks ≡ c = ap length keys ∙ length-map (uses l) key_of ∙ u in
    let wl : length ws ≡ c = ap length words ∙ length-map (uses l) corner_of ∙ u in
    let w = ks ++ put_mid (2 * c) k rest ws in
    let behind = ws ++ post_of (2 * c) k rest in
    let past : 3 * c ≡ c + 2 * c = omega arith in
    record {
      long = rw e (simp (length-append, length-take, length-drop) (omega arith));
      keys = take_at ks (put_mid (2 * c) k rest ws) c kl ∙ keys;
      words =
          ap (λ (m : ℕ). part m c w) past ∙
          ap (take c) (sym (drop-drop (2 * c) c w) ∙ ap (drop (2 * c)) (drop_at ks (put_mid (2 * c) k rest ws) c kl) ∙ drop_at (take (2 * c) rest) behind (2 * c) (length-take-le (2 * c) rest (omega arith))) ∙
          take_at ws (post_of (2 * c) k rest) c wl ∙ words;
    }

-- the four blocks are the table: w₁ has the keys and the corners' words, w₂ the mates beside them, w₃ the words taken apart
module _ (l : List ℤ) (n c : ℕ) (v : Valid l n) (u : length (uses l) ≡ c) (w₁ w₂ w₃ : List ℕ) (keys : part 0 c w₁ ≡ map key_of (uses l)) where
  pub table_singular : (r : ℕ) → r ≡ count (starts_by (part 0 c w₁)) (up_from 0 c) → r ≡ singular_edge_count l
  table_singular r e = e ∙ rw (keys, ← u) (key_singular l n v)

  module _
      (long : length w₁ ≡ 4 * c)
      (words : part (3 * c) c w₁ ≡ corner_words (uses l))
      (right : (e : ℕ) → e < c → RightAt c (part 0 c w₁) w₂ e)
      (kept : Kept c (2 * c) w₁ w₂)
      (apart : TakenApart c w₂ w₃)
    where
      long₃ : length w₃ ≡ 4 * c
      long₃ = apart.long ∙ kept.long ∙ long

      block : (s : ℕ) (ys : List ℕ) → s + c ≤ 4 * c → length ys ≡ c → ((e : ℕ) → e < c → get_or w₃ (s + e) 0 ≡ get_or ys e 0) → part s c w₃ ≡ ys
      block s ys h k f =
          let m : length (part s c w₃) ≡ c = length_part s c w₃ (omega (arith, long₃)) in
          ext_get_or 0 (part s c w₃) ys (m ∙ sym k) (λ e q. let i : e < c = rw m at q in get_d_part s c w₃ e i ∙ f e i)

      word₂ : (e : ℕ) → e < c → get_or w₂ (3 * c + e) 0 ≡ corner_of (use_at l e)
      word₂ e h =
          kept.high (3 * c + e) (omega arith) ∙ sym (get_d_part (3 * c) c w₁ e h) ∙ ap (λ (xs : List ℕ). get_or xs e 0) words ∙
          get_or-map corner_of (uses l) e no_use

      from_in : (e : ℕ) → e < c → (use_at l e).from < max_vertices
      from_in e h = let p = use_proper l n v e (rw u h) in omega (arith, p.from_in, v.few_vertices)

      nexts : part 0 c w₃ ≡ next_words (uses l)
      nexts =
          block 0 (next_words (uses l)) (omega arith) (length-map (uses l) (λ (x : Use). x.next) ∙ u)
          (λ e h.
          let d : corner_of (use_at l e) / max_vertices ≡ (use_at l e).next = omega (arith, from_in e h) in
          let z : 0 + e ≡ e = omega arith in
          ap (λ (k : ℕ). get_or w₃ k 0) z ∙ apart.next e h ∙ rw (word₂ e h) d ∙ sym (get_or-map (λ (x : Use). x.next) (uses l) e no_use))

      vertices : part c c w₃ ≡ vertex_words (uses l)
      vertices =
          block c (vertex_words (uses l)) (omega arith) (length-map (uses l) (λ (x : Use). x.from) ∙ u)
          (λ e h.
          let d : corner_of (use_at l e) % max_vertices ≡ (use_at l e).from = omega (arith, from_in e h) in
          apart.vertex e h ∙ rw (word₂ e h) d ∙ sym (get_or-map (λ (x : Use). x.from) (uses l) e no_use))

      mates : part (2 * c) c w₃ ≡ mate_words (uses l)
      mates =
          block (2 * c) (mate_words (uses l)) (omega arith) (mates_long (uses l) ∙ u)
          (λ e h. apart.mate e h ∙ right e h ∙ rw keys (key_word_is l n v e (rw u h)) ∙ sym (word_at l e (rw u h)))

      zeros : part (3 * c) c w₃ ≡ replicate c 0
      zeros = block (3 * c) (replicate c 0) (omega arith) (length-replicate c 0) (λ e h. apart.clear e h ∙ sym (get_or-replicate c e 0 0 h))

      pub table_is : w₃ ≡ table_of l
      unfolding table_of
      table_is = four_parts c w₃ long₃ ∙ rw (nexts, vertices, mates, zeros, u)
