-- Going through a list face by face: what is passed and what is left always make up the uses of the list.
--
--   uses_left at fs           the uses of the faces fs, whose first corner is `at`
--   Wording l at fs ks ws     the faces fs of l are left, and their first corner is `at`: before it the uses passed have their keys
--                             in ks and their corners' words in ws
use Prim.Native.Nat.{ℕ, suc, ◌+◌, ◌≤◌, ◌<◌}
use mathlib.Core.Path.{◌≡◌, refl, sym, ◌∙◌, ap}
use mathlib.Core.List.{List, [], ◌∷◌, ◌++◌, map, append_assoc, append-nil}
use native.Mathlib.Omega.{arith}
use borrow.Rule.Slice.PartMut.{put_mid}
use lib.IntN.{ℤ}
use lib.ListN.{length, get_or, take, length-append}
use lib.Seq.{take_all}
use Rattle.std.proofs.lemmas.Slice.{take-put_mid}
use Rattle.list.specs.Limits.{max_entries, max_vertices}
use Rattle.list.specs.Faces.{Face, faces, faces_from, runs, vertices}
use Rattle.list.specs.Check.{ValidFace, Valid}
use Rattle.list.proofs.Repeats.{vertices_long}
use Rattle.list.proofs.Checking.{corners_fit}
use Rattle.order.specs.Choose.{All}
use Rattle.order.proofs.Lists.{map-append}
use Rattle.edges.specs.Uses.{Use, uses_of_face, uses_from, uses}
use Rattle.edges.specs.Words.{key_of, corner_of, corner_words}
use Rattle.edges.proofs.Uses.{uses_long, uses_face_long}

abbrev pub uses_left : ℕ → List Face → List Use
uses_left at [] = []
uses_left at (f ∷ fs) = uses_of_face at (vertices f.entries) ++ uses_left (at + length f.entries) fs

left_from : (at s : ℕ) (rs : List (List ℤ)) → uses_left at (faces_from s rs) ≡ uses_from at rs
left_from at s [] = refl
left_from at s (r ∷ rs) = ap (λ (us : List Use). uses_of_face at (vertices r) ++ us) (left_from (at + length r) (s + length r + 1) rs)

pub left_all : (l : List ℤ) → uses_left 0 (faces l) ≡ uses l
left_all l = left_from 0 0 (runs l)

abbrev pub ValidIn : ℕ → Face → Type 0
ValidIn n f = ValidFace n f.entries

valid_from : (n s : ℕ) (rs : List (List ℤ)) → ((k : ℕ) → k < length rs → ValidFace n (get_or rs k [])) → All (ValidIn n) (faces_from s rs)
valid_from n s [] h = tt
valid_from n s (r ∷ rs) h = (h 0 (omega arith), valid_from n (s + length r + 1) rs (λ k q. h (suc k) (omega arith)))

-- a vertex count may be taken larger
pub valid_wider : (l : List ℤ) (n : ℕ) → Valid l n → Valid l max_vertices
valid_wider l n v =
    record {
      few_entries = v.few_entries;
      few_vertices = omega arith;
      each_face = λ k h.
          let f = v.each_face k h in
          record {
            long = f.long;
            inside = λ i q. let x = f.inside i q in (x.0, x.1, omega (arith, x.2, v.few_vertices));
            different = f.different;
          };
    }

pub few_corners : (l : List ℤ) (n : ℕ) → Valid l n → length (uses l) ≤ max_entries
few_corners l n v = omega (arith, uses_long l, corners_fit l, v.few_entries)

-- the words that g gives of the uses before corner `at` stand in ws, and those of the faces left complete them
abbrev pub Written : (Use → ℕ) → List ℤ → ℕ → List Face → List ℕ → Type 0
Written g l at left ws = take at ws ++ map g (uses_left at left) ≡ map g (uses l)

pub record Wording (l : List ℤ) (at : ℕ) (left : List Face) (keys words : List ℕ) : Type 0 where
  pub total : at + length (uses_left at left) ≡ length (uses l)
  pub valid : All (ValidIn max_vertices) left
  pub keys_are : Written key_of l at left keys
  pub words_are : Written corner_of l at left words

module _ (l : List ℤ) (keys words : List ℕ) where
  pub wording_start : (left : List Face) → left ≡ faces l → Valid l max_vertices → Wording l 0 left keys words
  wording_start left e v =
      rw e
      (record {
        total = omega (arith, ap length (left_all l));
        valid = valid_from max_vertices 0 (runs l) v.each_face;
        keys_are = ap (map key_of) (left_all l);
        words_are = ap (map corner_of) (left_all l);
      })

  module _ (at : ℕ) (left : List Face) where
    pub wording_done : left ≡ [] → Wording l at left keys words → length keys ≡ length (uses l) → length words ≡ length (uses l) → (keys ≡ map key_of (uses l)) × (words ≡ corner_words (uses l))
    wording_done e w k h =
        let total : at + 0 ≡ length (uses l) = rw e at w.total in
        let keys_are : take at keys ++ [] ≡ map key_of (uses l) = rw e at w.keys_are in
        let words_are : take at words ++ [] ≡ map corner_of (uses l) = rw e at w.words_are in (
          sym (take_all at keys (omega arith)) ∙ sym (append-nil (take at keys)) ∙ keys_are,
          sym (take_all at words (omega arith)) ∙ sym (append-nil (take at words)) ∙ words_are,
        )

    module _ (f : Face) (rest : List Face) (e : left ≡ f ∷ rest) (w : Wording l at left keys words) where
      abbrev here : List Use
      here = uses_of_face at (vertices f.entries)

      left_long : length (uses_left at left) ≡ length f.entries + length (uses_left (at + length f.entries) rest)
      left_long =
          ap (λ fs. length (uses_left at fs)) e ∙ length-append here (uses_left (at + length f.entries) rest) ∙
          rw (uses_face_long at (vertices f.entries) ∙ vertices_long f.entries)

      pub wording_room : at + length f.entries ≤ length (uses l)
      wording_room = omega (arith, w.total, left_long)

      pub wording_valid : ValidFace max_vertices f.entries
      wording_valid = (rw e at w.valid).0

      written_turn : (g : Use → ℕ) (k : ℕ) (ws new : List ℕ) → at ≤ length ws → new ≡ map g here → length new ≡ length f.entries → Written g l at left ws → Written g l (at + length f.entries) rest (put_mid at k ws new)
      written_turn g k ws new h q m done =
          let behind = map g (uses_left (at + length f.entries) rest) in
          ap (λ xs. xs ++ behind) (take-put_mid at k ws new (at + length f.entries) (omega arith) h ∙ ap (λ xs. take at ws ++ xs) q) ∙
          append_assoc (take at ws) (map g here) behind ∙
          ap (λ xs. take at ws ++ xs) (sym (ap (λ fs. map g (uses_left at fs)) e ∙ map-append g here (uses_left (at + length f.entries) rest))) ∙ done

-- the faces passed and the one at hand: their words stand before the corner behind it
pub wording_turn : (l : List ℤ) (keys words : List ℕ) (at : ℕ) (left : List Face) (f : Face) (rest : List Face) (k : ℕ) (keys' words' : List ℕ) → left ≡ f ∷ rest → Wording l at left keys words → length keys ≡ length (uses l) → length words ≡ length (uses l) → length keys' ≡ length f.entries → length words' ≡ length f.entries → keys' ≡ map key_of (uses_of_face at (vertices f.entries)) → words' ≡ corner_words (uses_of_face at (vertices f.entries)) → Wording l (at + length f.entries) rest (put_mid at k keys keys') (put_mid at k words words')
wording_turn l keys words at left f rest k keys' words' e w kl wl k'l w'l kq wq =
    let room = wording_room l keys words at left f rest e w in
    record {
      total = omega (arith, w.total, left_long l keys words at left f rest e w);
      valid = (rw e at w.valid).1;
      keys_are = written_turn l keys words at left f rest e w key_of k keys keys' (omega (arith, room)) kq k'l w.keys_are;
      words_are = written_turn l keys words at left f rest e w corner_of k words words' (omega (arith, room)) wq w'l w.words_are;
    }
