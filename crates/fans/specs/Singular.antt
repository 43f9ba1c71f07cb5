-- The singular vertices as the cut counts them. It marks each vertex by less than its class: 0 where no fan is met, 1 after one
-- fan, 2 where the vertex is singular.
--
--   is_singular_mark m   the mark m is that of a singular vertex
--   fan_met m            the mark m once another fan is met at the vertex
--   second_fan m         1 where that fan makes the vertex singular
--   after_fans k m       the mark m once k more fans are met
--   MadeSingular         the marks once the vertex v is singular, and 1 where it was not before
--   NoneWhereZero        where the number of singular edges is 0, no mate's word is that of one
--   EndsCounted          the marks of the endpoints of singular edges, and how many there are
--   FansCounted          the marks once a fan is met at each of the vertices vs, and how many more singular vertices there are
use Rattle.std.specs.Prelude.{ℕ, zero, suc, ◌+◌, ◌*◌, ◌≤◌, ◌<◌, ◌≡◌, List, Bool, false, cond, leb, eqb, length, set}
use Rattle.order.specs.Choose.{count}
use Rattle.groups.specs.Forest.{at}
use Rattle.fans.specs.Marks.{marks_end, singular_word}

abbrev pub is_singular_mark : ℕ → Bool
is_singular_mark m = leb 2 m

abbrev pub fan_met : ℕ → ℕ
fan_met m = cond (eqb m 0) 1 2

abbrev pub second_fan : ℕ → ℕ
second_fan m = cond (eqb m 1) 1 0

abbrev pub after_fans : ℕ → ℕ → ℕ
after_fans zero m = m
after_fans (suc k) m = after_fans k (fan_met m)

pub record MadeSingular (old : List ℕ) (v : ℕ) (marks : List ℕ) (r : ℕ) : Type 0 where
  pub marked : marks ≡ set old v 2
  pub few : r ≤ 1
  pub counted : r + count is_singular_mark old ≡ count is_singular_mark marks

pub record NoneWhereZero (w : List ℕ) (c edges : ℕ) : Type 0 where
  pub none : edges ≡ 0 → (e : ℕ) → e < c → singular_word c e (at w (2 * c + e)) ≡ false

pub record EndsCounted (w : List ℕ) (c : ℕ) (marks : List ℕ) (r : ℕ) : Type 0 where
  pub marked : (v : ℕ) → v < length marks → at marks v ≡ cond (marks_end (singular_word c) w c v 0 c) 2 0
  pub counted : r ≡ count is_singular_mark marks

pub record FansCounted (vs old marks : List ℕ) (r : ℕ) : Type 0 where
  pub marked : (v : ℕ) → v < length old → at marks v ≡ after_fans (count (eqb v) vs) (at old v)
  pub counted : r + count is_singular_mark old ≡ count is_singular_mark marks
