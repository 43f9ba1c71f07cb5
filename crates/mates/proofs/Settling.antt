-- What becomes of the words of one key's corners when one more comes.
--
--   written M e v            M with v for e
--   Settled c e ys M M' r    corner e came behind the corners ys of its key, with the words M: M' has the right words for all of
--                            them, and M's for all others; r is 1 where e is the third, else 0
use Prim.Native.Nat.{ℕ, zero, suc, ◌+◌, ◌≤◌, ◌<◌}
use mathlib.Core.Path.{◌≡◌, refl, sym, ◌∙◌, ap}
use mathlib.Core.Bool.{Bool, true, false, cond, false≢true}
use mathlib.Core.List.{List, [], ◌∷◌, ◌++◌}
use mathlib.Core.Logic.{inl, inr}
use native.Mathlib.Omega.{arith}
use native.Mathlib.Nat.{zero-add}
use borrow.Author.Tests.{eq-eqb, ne_eqb, eqb-true, eqb-false}
use lib.Dec.{eqb}
use lib.ListN.{length}
use Rattle.order.specs.Choose.{choose, count, All, up_from}
use Rattle.order.proofs.Lists.{In, all_in, all_map, all_append, up_from_in, choose_none, Rising}
use Rattle.order.proofs.Blocks.{bit}
use Rattle.mates.specs.Mates.{mate_among, mate_word, starts_many}
use Rattle.mates.specs.Matching.{last_of}

-- the front of a list, and its last element

rising_last : (s e : ℕ) (xs : List ℕ) → Rising s (xs ++ (e ∷ [])) → (s ≤ e) × All (λ (x : ℕ). x < e) xs
rising_last s e [] r = (r.0, tt)
rising_last s e (x ∷ xs) r = let t = rising_last (suc x) e xs r.1 in (omega (arith, r.0, t.0), (t.0, t.1))

pub all_front : (P : ℕ → Type 0) (xs ys : List ℕ) → All P (xs ++ ys) → All P xs
all_front P [] ys a = tt
all_front P (x ∷ xs) ys a = (a.0, all_front P xs ys a.1)

pub all_last : (P : ℕ → Type 0) (x : ℕ) (xs : List ℕ) → P x → All P xs → P (last_of x xs)
all_last P x [] p a = p
all_last P x (y ∷ ys) p a = all_last P y ys a.0 a.1

-- one number stands once in a row that has it
count_one : (b s m : ℕ) → s ≤ b → b < s + m → count (eqb b) (up_from s m) ≡ 1
count_one b s zero h k = absurd (omega arith)
count_one b s (suc m) h k = go (eqb b s) refl (λ l. count_one b (suc s) m l (omega arith))
  where
    go : (t : Bool) → eqb b s ≡ t → (suc s ≤ b → count (eqb b) (up_from (suc s) m) ≡ 1) → length (cond t (s ∷ choose (eqb b) (up_from (suc s) m)) (choose (eqb b) (up_from (suc s) m))) ≡ 1
    go true t f =
        let e : b ≡ s = eqb-true b s t in
        ap (λ (l : List ℕ). suc (length l))
        (choose_none (eqb b) (up_from (suc s) m) (all_in (λ (x : ℕ). eqb b x ≡ false) (up_from (suc s) m) (λ x i. ne_eqb b x (omega (arith, up_from_in (suc s) m x i)))))
    go false t f = f (omega (arith, eqb-false b s t))

-- one word written

abbrev pub written : (ℕ → ℕ) → ℕ → ℕ → ℕ → ℕ
written M e v x = cond (eqb x e) v (M x)

pub record Settled (c e : ℕ) (ys : List ℕ) (M M' : ℕ → ℕ) (r : ℕ) : Type 0 where
  pub words : All (λ (x : ℕ). M' x ≡ mate_word c x (mate_among x (ys ++ (e ∷ [])))) (ys ++ (e ∷ []))
  pub others : (x : ℕ) → (In x (ys ++ (e ∷ [])) → ⊥) → M' x ≡ M x
  pub new : ℕ → Bool
  pub new_in : (x : ℕ) → new x ≡ true → In x ys
  pub starts : (x : ℕ) → bit (starts_many x ys) + bit (new x) ≡ bit (starts_many x (ys ++ (e ∷ [])))
  pub counted : count new (up_from 0 c) ≡ r

pub settled_same : (c e : ℕ) (ys : List ℕ) (M M' M'' : ℕ → ℕ) (r : ℕ) → ((x : ℕ) → M'' x ≡ M' x) → Settled c e ys M M' r → Settled c e ys M M'' r
settled_same c e ys M M' M'' r f S =
    record {
      words = all_map (λ (x : ℕ). M' x ≡ mate_word c x (mate_among x (ys ++ (e ∷ [])))) (λ (x : ℕ). M'' x ≡ mate_word c x (mate_among x (ys ++ (e ∷ [])))) (ys ++ (e ∷ [])) (λ x p. f x ∙ p) S.words;
      others = λ x o. f x ∙ S.others x o;
      new = S.new;
      new_in = S.new_in;
      starts = S.starts;
      counted = S.counted;
    }

pub none_new : (c : ℕ) → count (λ (x : ℕ). false) (up_from 0 c) ≡ 0
none_new c = ap length (choose_none (λ (x : ℕ). false) (up_from 0 c) (all_in (λ (x : ℕ). false ≡ false) (up_from 0 c) (λ x i. refl)))

module _ (c e : ℕ) (M : ℕ → ℕ) where
  -- the words with e's own for e at first, and what becomes of them
  abbrev pub own : ℕ → ℕ
  own = written M e e

  abbrev pub paired : ℕ → ℕ → ℕ
  paired a = written (written own e a) a e

  abbrev pub joined : ℕ → ℕ
  joined = written own e c

  abbrev pub crowded : ℕ → ℕ → ℕ → ℕ
  crowded a b = written (written joined a c) b c

  own_other : (x : ℕ) → (x ≡ e → ⊥) → own x ≡ M x
  own_other x h = rw (ne_eqb x e h)

  joined_many : (x : ℕ) → M x ≡ c → joined x ≡ c
  joined_many x p = go (eqb x e)
    where
      go : (t : Bool) → cond t c (cond t e (M x)) ≡ c
      go true = refl
      go false = p

  -- the last of three or more has many mates
  last_many : (x y z : ℕ) (zs : List ℕ) → Rising 0 ((x ∷ y ∷ z ∷ zs) ++ (e ∷ [])) → All (λ (v : ℕ). M v ≡ c) (x ∷ y ∷ z ∷ zs) → own (last_of e (x ∷ y ∷ z ∷ zs)) ≡ c
  last_many x y z zs r m =
      own_other (last_of z zs) (λ s. omega (arith, all_last (λ (v : ℕ). v < e) z zs (rising_last 0 e (x ∷ y ∷ z ∷ zs) r).1.1.1.0 (rising_last 0 e (x ∷ y ∷ z ∷ zs) r).1.1.1.1)) ∙
      all_last (λ (v : ℕ). M v ≡ c) z zs m.1.1.0 m.1.1.1

  pub settle_pair : (ys : List ℕ) → Rising 0 (ys ++ (e ∷ [])) → All (λ (x : ℕ). x < c) (ys ++ (e ∷ [])) → All (λ (x : ℕ). M x ≡ mate_word c x (mate_among x ys)) ys → own (last_of e ys) ≡ last_of e ys → Settled c e ys M (paired (last_of e ys)) 0
  settle_pair [] r i m h =
      record {
        words = (rw (eq-eqb e e refl), tt);
        others = λ x o. rw (ne_eqb x e (λ s. o (inl s)));
        new = λ x. false;
        new_in = λ x s. absurd (false≢true s);
        starts = λ x. refl;
        counted = none_new c;
      }
  settle_pair (x ∷ []) r i m h =
      record {
        words = (rw (eq-eqb x x refl), (rw (ne_eqb e x (omega arith), eq-eqb e e refl, ne_eqb x e (omega arith)), tt));
        others = λ v o. rw (ne_eqb v x (λ s. o (inl s)), ne_eqb v e (λ s. o (inr (inl s))));
        new = λ v. false;
        new_in = λ v s. absurd (false≢true s);
        starts = λ v. refl;
        counted = none_new c;
      }
  settle_pair (x ∷ y ∷ []) r i m h =
      let p : own y ≡ x = own_other y (omega arith) ∙ m.1.0 ∙ rw (ne_eqb x y (omega arith)) in
      absurd (omega arith)
  settle_pair (x ∷ y ∷ z ∷ zs) r i m h =
      let p = last_many x y z zs r m in
      absurd (omega (arith, p, all_last (λ (v : ℕ). v < c) z zs i.1.1.0 (all_front (λ (v : ℕ). v < c) zs (e ∷ []) i.1.1.1)))

  pub settle_join : (ys : List ℕ) → Rising 0 (ys ++ (e ∷ [])) → All (λ (x : ℕ). x < c) (ys ++ (e ∷ [])) → All (λ (x : ℕ). M x ≡ mate_word c x (mate_among x ys)) ys → (own (last_of e ys) ≡ last_of e ys → ⊥) → own (last_of e ys) ≡ c → Settled c e ys M joined 0
  settle_join [] r i m h k = absurd (h (rw (eq-eqb e e refl)))
  settle_join (x ∷ []) r i m h k = absurd (h (own_other x (omega arith) ∙ m.0))
  settle_join (x ∷ y ∷ []) r i m h k =
      let p : own y ≡ x = own_other y (omega arith) ∙ m.1.0 ∙ rw (ne_eqb x y (omega arith)) in
      absurd (omega arith)
  settle_join (x ∷ y ∷ z ∷ zs) r i m h k =
      let ys = x ∷ y ∷ z ∷ zs in
      record {
        words = all_append (λ (v : ℕ). joined v ≡ c) ys (e ∷ []) (all_map (λ (v : ℕ). M v ≡ c) (λ (v : ℕ). joined v ≡ c) ys joined_many m) (rw (eq-eqb e e refl), tt);
        others = λ v o. rw (ne_eqb v e (λ s. o (in_last v s ys)));
        new = λ v. false;
        new_in = λ v s. absurd (false≢true s);
        starts = λ v. go (eqb x v);
        counted = none_new c;
      }
    where
      in_last : (v : ℕ) → v ≡ e → (zs : List ℕ) → In v (zs ++ (e ∷ []))
      in_last v s [] = inl s
      in_last v s (u ∷ us) = inr (in_last v s us)

      go : (t : Bool) → bit t + 0 ≡ bit t
      go true = refl
      go false = refl

  pub settle_crowd : (ys : List ℕ) → Rising 0 (ys ++ (e ∷ [])) → All (λ (x : ℕ). x < c) (ys ++ (e ∷ [])) → All (λ (x : ℕ). M x ≡ mate_word c x (mate_among x ys)) ys → (own (last_of e ys) ≡ last_of e ys → ⊥) → (own (last_of e ys) ≡ c → ⊥) → (own (last_of e ys) < c) × Settled c e ys M (crowded (last_of e ys) (own (last_of e ys))) 1
  settle_crowd [] r i m h k = absurd (h (rw (eq-eqb e e refl)))
  settle_crowd (x ∷ []) r i m h k = absurd (h (own_other x (omega arith) ∙ m.0))
  settle_crowd (x ∷ y ∷ []) r i m h k =
      let p : own y ≡ x = own_other y (omega arith) ∙ m.1.0 ∙ rw (ne_eqb x y (omega arith)) in
      rw p (
        i.0,
        record {
          words = (rw (eq-eqb x x refl), (rw (ne_eqb y x (omega arith), eq-eqb y y refl), (rw (ne_eqb e x (omega arith), ne_eqb e y (omega arith), eq-eqb e e refl), tt)));
          others = λ v o. rw (ne_eqb v x (λ s. o (inl s)), ne_eqb v y (λ s. o (inr (inl s))), ne_eqb v e (λ s. o (inr (inr (inl s)))));
          new = eqb x;
          new_in = λ v s. inl (sym (eqb-true x v s));
          starts = λ v. zero-add (bit (eqb x v));
          counted = count_one x 0 c (omega arith) (omega (arith, i.0));
        },
      )
  settle_crowd (x ∷ y ∷ z ∷ zs) r i m h k = absurd (k (last_many x y z zs r m))
