-- On the way to the first position from p on: by a step, and over many ranks at once. Assumes nothing.
use Rattle.std.proofs.Common.{◌≡◌, ℕ, zero, suc, ◌+◌, ◌-◌, ◌^◌, ◌<◌, ◌≤◌, List, refl, ap, ◌∙◌, le_refl, arith}
use Rattle.format.specs.declared.View.{View}
use Rattle.parts.specs.declared.Cursor.{Cursor}
use Rattle.parts.specs.Cursor.{stepped_as}
use Rattle.parts.specs.Walks.{Climbs}
use Rattle.parts.proofs.Steps.{add32-small}
use Rattle.parts.proofs.Sought.{sought-next}
use Rattle.differences.specs.declared.walk.Reached.{Reached}
use Rattle.differences.specs.Walk.{walked, Room}
use Rattle.difference_rows.proofs.Follows.{placed, reached, stepped-last, follows}
use Rattle.jump_walk.specs.Steps.{next, OnWay}
use Rattle.jump_walk.proofs.Walks.{next-rank, next-at}

-- ---- a step

climb_next : (f : Cursor → Cursor) (n : ℕ) (c : Cursor) → (f c).rank ≡ c.rank + 1 → Climbs f n c → Climbs f n (f c)
unfolding stepped_as
climb_next f n c e g = record { rise = λ k m h. let q : suc k + m ≡ suc (k + m) = omega arith in rw q at (g.rise (suc k) m (omega arith)) }

module _ (b : List ℕ) (v : View) where
  pub stay : (p : ℕ) (c : Cursor) → OnWay (next b v) v.words p c c
  stay p c = record { rank = le_refl _; same = refl; climbs = λ g. g }

  -- one step further on the way
  pub way_next : (p : ℕ) (c t : Cursor) → v.words < 2 ^ 32 → OnWay (next b v) v.words p c t → t.rank < v.words → t.at < p → {u : Cursor} → u ≡ next b v t
      → OnWay (next b v) v.words p c u × (c.rank < u.rank)
  way_next p c t m o h l {u} e =
      let s : (next b v t).rank ≡ t.rank + 1 = next-rank b v t ∙ add32-small t.rank 1 (omega arith) in
      let r : u.rank ≡ t.rank + 1 = ap (λ x. x.rank) e ∙ s in
      let n = o.rank in (
        record {
          rank = omega arith;
          same = sought-next (next b v) v.words p t u h l e r ∙ o.same;
          climbs = λ g. rw e (climb_next (next b v) v.words t s (o.climbs g));
        },
        omega arith,
      )

-- ---- many ranks at once

module _ (b : List ℕ) (v : View) (p : ℕ) (c : Cursor) where
  way_far : (m : ℕ) → v.words < 2 ^ 32 → c.rank + m ≤ v.words → ((i : ℕ) → i < m → (stepped_as (next b v) c i).at < p)
      → OnWay (next b v) v.words p c (stepped_as (next b v) c m) × ((stepped_as (next b v) c m).rank ≡ c.rank + m)
  way_far zero n k l = unfold stepped_as in (stay b v p c, omega arith)
  way_far (suc m) n k l =
      let t = stepped_as (next b v) c m in
      let y = way_far m n (omega arith) (λ i h. l i (omega arith)) in
      let r = y.1 in
      let a = way_next b v p c t n y.0 (omega arith) (l m (omega arith)) (stepped-last (next b v) c m) in
      let e : (stepped_as (next b v) c (suc m)).rank ≡ t.rank + 1
      = ap (λ x. x.rank) (stepped-last (next b v) c m) ∙ next-rank b v t ∙ add32-small t.rank 1 (omega arith) in
      (a.0, omega arith)

  -- the n ranks after c, which a search takes to t
  pub leap_over : (n : ℕ) → Room v.width v.second b (c.rank + n) → c.rank + n < v.words → v.words < 2 ^ 32 → p < 2 ^ 32
      → Climbs (next b v) v.words c → {t : Reached} → t ≡ walked v.width v.start v.second b c.rank n (reached c) → t.taken < 2 ^ 32 → t.position < p
      → OnWay (next b v) v.words p c (placed c n t.taken t.position)
  leap_over n z k m q g {t} e h l =
      let f = rw (next-at b v refl z.narrow z.wide, ← e) at (follows v.width v.start v.second b c n z (rw e at h)) in
      let u = stepped_as (next b v) c n in
      let a : u.at ≡ t.position = f.at (omega arith) in
      let s : u ≡ placed c n t.taken t.position = f.shape ∙ ap (placed c n t.taken) a in
      let far = way_far n m (omega arith) (λ i j. let d : i + (n - i) ≡ n = omega arith in let y = rw d at (g.rise i (n - i) (omega arith)) in omega arith) in
      rw s at far.0
