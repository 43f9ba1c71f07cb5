-- Corners that meet side to side: of three corners of one group that each have a free side, two are the same. A walk that starts at a
-- free side and leaves each corner by the side opposite to the one it came in by visits the whole group; another free side ends it.
use mathlib.Core.Path.{◌≡◌, refl, sym}
use mathlib.Core.Logic.{◌⊎◌, inl, inr}
use Rattle.demands.specs.Joined.{Joined, Side, starts, stops, opposite}
use Rattle.demands.proofs.Equivalence.{joined_carries}

-- the walk from the side s of x comes to y by its side t
data Walk {X : Type 0} (M : X → Side → X → Side → Type 0) (x : X) (s : Side) : X → Side → Type 0 where
  begin : {y : X} {t : Side} → y ≡ x → t ≡ s → Walk M x s y t
  on : {y z : X} {t u : Side} → Walk M x s y t → M y (opposite t) z u → Walk M x s z u

-- the walk that has come to z by its side u goes on to y, by its side t
data Ahead {X : Type 0} (M : X → Side → X → Side → Type 0) (y : X) (t : Side) : X → Side → Type 0 where
  here : {z : X} {u : Side} → z ≡ y → u ≡ t → Ahead M y t z u
  further : {z w : X} {u v : Side} → M z (opposite u) w v → Ahead M y t w v → Ahead M y t z u

side_cases : (s t : Side) → (s ≡ t) ⊎ (s ≡ opposite t)
side_cases starts starts = inl refl
side_cases starts stops = inr refl
side_cases stops starts = inr refl
side_cases stops stops = inl refl

-- a side meets at most one side, and is met by it
pub record Meeting {X : Type 0} (M : X → Side → X → Side → Type 0) : Type 0 where
  pub meet_back : {x y : X} {s t : Side} → M x s y t → M y t x s
  pub meet_one : {x y z : X} {s t u : Side} → M x s y t → M x s z u → (y ≡ z) × (t ≡ u)

abbrev pub Free : {X : Type 0} → (X → Side → X → Side → Type 0) → X → Side → Type 0
Free {X} M x s = (y : X) (t : Side) → M x s y t → ⊥

-- corners that meet
abbrev pub Met : {X : Type 0} → (X → Side → X → Side → Type 0) → X → X → Type 0
Met M x y = (s : Side) × (t : Side) × M x s y t

module _ {X : Type 0} {M : X → Side → X → Side → Type 0} where
  ahead_on : {y : X} {t : Side} {x z : X} {s u : Side} → Ahead M y t x s → M y (opposite t) z u → Ahead M z u x s
  ahead_on (here e f) m = further (rw (← e, ← f) at m) (here refl refl)
  ahead_on (further n a) m = further n (ahead_on a m)

  walk_ahead : {x : X} {s : Side} {y : X} {t : Side} → Walk M x s y t → Ahead M y t x s
  walk_ahead (begin e f) = here (sym e) (sym f)
  walk_ahead (on w m) = ahead_on (walk_ahead w) m

module _ {X : Type 0} {M : X → Side → X → Side → Type 0} (meeting : Meeting M) where
  -- a walk from a free side visits what the corners on it meet
  walk_visits : {x y z : X} {s t u v : Side} → Free M x s → Walk M x s y t → M y u z v → (w : Side) × Walk M x s z w
  walk_visits {x} {y} {z} {s} {t} {u} {v} free w m = go w (side_cases u t)
    where
      entry : Walk M x s y t → M y t z v → (w : Side) × Walk M x s z w
      entry (begin e f) m = absurd (free z v (rw (e, f) at m))
      entry (on {y = q} {t = r} w n) m =
          let same : (q ≡ z) × (opposite r ≡ v) = meeting.meet_one (meeting.meet_back n) m in
          (r, rw same.0 at w)

      go : Walk M x s y t → (u ≡ t) ⊎ (u ≡ opposite t) → (w : Side) × Walk M x s z w
      go w (inl e) = entry w (rw e at m)
      go w (inr e) = (v, on w (rw e at m))

  -- and so the whole group
  walk_all : {x y : X} {s : Side} → Free M x s → Joined (Met M) x y → (t : Side) × Walk M x s y t
  walk_all {x} {y} {s} free j =
      (joined_carries (λ (z : X). (t : Side) × Walk M x s z t)
      (λ y z m. (λ w. walk_visits free w.1 m.2, λ w. walk_visits free w.1 (meeting.meet_back m.2)))
      j
      ).0 (s, begin refl refl)

  -- a corner other than the first that has a free side is left by that side: the walk ends there
  walk_ends : {x y : X} {s t u : Side} → (y ≡ x → ⊥) → Walk M x s y t → Free M y u → Free M y (opposite t)
  walk_ends {x} {y} {s} {t} {u} differ w free = go w (side_cases u t)
    where
      go : Walk M x s y t → (u ≡ t) ⊎ (u ≡ opposite t) → Free M y (opposite t)
      go (begin e f) c = absurd (differ e)
      go (on {y = q} {t = r} w n) (inl e) = absurd (free q (opposite r) (rw e (meeting.meet_back n)))
      go (on w n) (inr e) = rw e at free

  -- from every corner on the walk it goes on to the corner where it ends
  walk_comes : {x y : X} {s t : Side} {z : X} {u : Side} → Free M y (opposite t) → Ahead M y t x s → Walk M x s z u → Ahead M y t z u
  walk_comes free a (begin e f) = rw (e, f) a
  walk_comes {x} {y} {s} {t} {z} {u} free a (on {y = q} {t = r} w m) = go (walk_comes free a w)
    where
      go : Ahead M y t q r → Ahead M y t z u
      go (here e f) = absurd (free z u (rw (e, f) at m))
      go (further {w = q'} {v = r'} n b) =
          let one : (q' ≡ z) × (r' ≡ u) = meeting.meet_one n m in
          rw (one.0, one.1) at b

  pub three_free : {x y z : X} {s t u : Side} → Free M x s → Free M y t → Free M z u → Joined (Met M) x y → Joined (Met M) x z → (y ≡ x → ⊥) → (z ≡ x → ⊥) → (z ≡ y → ⊥) → ⊥
  three_free {x} {y} {z} {s} free_x free_y free_z joined_y joined_z y≢x z≢x z≢y =
      let to_y : (t : Side) × Walk M x s y t = walk_all free_x joined_y in
      let to_z : (t : Side) × Walk M x s z t = walk_all free_x joined_z in
      go (walk_ends z≢x to_z.1 free_z) (walk_comes (walk_ends y≢x to_y.1 free_y) (walk_ahead to_y.1) to_z.1)
    where
      go : {t u : Side} → Free M z (opposite u) → Ahead M y t z u → ⊥
      go free (here e f) = z≢y e
      go free (further {w = q} {v = r} m b) = free q r m
