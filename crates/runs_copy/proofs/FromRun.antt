-- Whole runs copied as pairs: from where a cursor and an encoder stand. Assumes nothing.
use Rattle.std.proofs.Common.{◌≡◌, ℕ, suc, ◌+◌, ◌-◌, ◌*◌, ◌%◌, ◌^◌, ◌<◌, ◌≤◌, ltb, List, length, sym, refl, ap, ◌∙◌, subst, le_refl, arith, ltb-false, ltb-true}
use Rattle.format.specs.declared.View.{View}
use Rattle.format.specs.Runs.{runs_kind}
use Rattle.laws.proofs.Tools.{cases}
use Rattle.wire.specs.declared.Pair.{Pair}
use Rattle.wire.specs.Wire.{pair_at, field_pair}
use Rattle.wire.proofs.Laws.{pair-there}
use Rattle.parts.specs.declared.Cursor.{Cursor}
use Rattle.parts.specs.declared.Encoder.{Encoder}
use Rattle.parts.specs.Cursor.{walked_as, stepped_as}
use Rattle.parts.specs.declared.walk.Walk.{Walk}
use Rattle.parts.specs.Encoder.{taken_by, taken_all_by}
use Rattle.parts.specs.Carried.{carried, PutAs, Reached}
use Rattle.parts.proofs.Along.{walked-along}
use Rattle.parts.specs.Batch.{Along, RoomAll, grown}
use Rattle.parts.specs.Holds.{Holds}
use Rattle.rises.specs.Copied.{copied}
use Rattle.parts.proofs.Grown.{taken-range}
use Rattle.parts.proofs.Carried.{Written}
use Rattle.run_search.specs.Before.{last_at, empty_at, ranks_before}
use Rattle.run_walk.specs.Steps.{next}
use Rattle.run_pairs.specs.Coding.{runs_coder}
use Rattle.runs_copy.specs.Copy.{at_run, at_end, ran_on, BetweenRuns}
use Rattle.run_walk.proofs.Body.{inside}
use Rattle.run_walk.proofs.Walk.{next-along}
use Rattle.run_pairs.proofs.Adds.{lengthens}
use Rattle.runs.proofs.Lookup.{FirstWith}
use Rattle.runs_copy.proofs.Whole.{whole_run, words-before, at-rank-before, step_on, to_next, at_first, Stands, stands}
use Rattle.runs_copy.proofs.Copying.{ranks_from_lem, gone}

-- ---- the whole runs before run j, where cursor and encoder stand between two runs

-- the numbers that the code makes: o is the run that the encoder has open, n the pairs that go out, l and y the pair of the last run
pub record Ahead (b : List ℕ) (v : View) (c : Cursor) (j o n : ℕ) : Type 0 where
  pub two : c.next ≡ o + 2
  pub sum : o + n + 1 ≡ j
  pub rank : c.rank ≡ ranks_before b v.start (suc o)
  pub ranks : c.rank ≤ ranks_before b v.start j
  pub after : ranks_before b v.start j ≡ last_at b v.start (j - 1) + 1 - empty_at b v.start (j - 1)
  pub some : empty_at b v.start (j - 1) ≤ last_at b v.start (j - 1)
  pub below : last_at b v.start (j - 1) < 16777216
  pub long : v.start + 8 * j ≤ length b
  pub pair : field_pair (v.start + 8 * (j - 1)) b ≡ pair_at (v.start + 8 * (j - 1)) b

module _ (b : List ℕ) (v : View) (ls : List ℕ) (h : Holds (runs_kind v.width v.step) b v ls) (c : Cursor) (e : Encoder) (w : BetweenRuns b v c e) (j : ℕ)
    (from : c.next ≤ j + 1) where
  next_is : c.next ≡ suc (suc (c.next - 2))
  unfolding at_run
  next_is = ap (λ (x : Cursor). x.next) w.cursor

  rank_is : c.rank ≡ ranks_before b v.start (suc (c.next - 2))
  unfolding at_run
  rank_is = ap (λ (x : Cursor). x.rank) w.cursor

  module _ (most : j ≤ v.firsts) where
    pub ahead : Ahead b v c j (c.next - 2) (j - 1 - (c.next - 2))
    ahead =
        let o = c.next - 2 in
        let n = j - 1 - o in
        let t = next_is in
        let s : o + n ≡ j - 1 = omega arith in
        let q : suc (o + n) ≡ j = omega arith in
        let z : suc (j - 1) ≡ j = omega arith in
        let x = whole_run b v ls h (j - 1) (omega arith) in
        let y = x.some in
        let l = (inside b v h.counted).long in
        let r : ranks_before b v.start (suc o) ≤ ranks_before b v.start j = rw q at (ranks_from_lem b v ls h o n (omega arith)) in
        record {
          two = omega arith;
          sum = omega arith;
          rank = rank_is;
          ranks = rw rank_is r;
          after = rw z at x.after;
          some = omega arith;
          below = x.below;
          long = omega arith;
          pair = sym (pair-there (v.start + 8 * (j - 1)) b (omega arith));
        }

    -- all of them gone
    pub ran : (d : List ℕ) (shift : ℕ) → (shift + e.rank) % 2 ^ 32 ≡ c.rank → shift < 2 ^ 32
        → Along e (walked_as (next b v) c (ranks_before b v.start j - c.rank))
        → RoomAll runs_coder e (walked_as (next b v) c (ranks_before b v.start j - c.rank)) (length d)
        → Written (next b v) runs_coder d c e (ranks_before b v.start j - c.rank)
        (copied b (v.start + 8 * (c.next - 2)) 0 shift e.first (j - 1 - (c.next - 2)) d) (at_run b v c j)
        (ran_on e (last_at b v.start (j - 1)) (ranks_before b v.start j - c.rank) (j - 1 - (c.next - 2))) 0
    ran d shift by small a r =
        let o = c.next - 2 in
        let n = j - 1 - o in
        let k = ahead in
        let t = next_is in
        let s : o + n ≡ j - 1 = omega arith in
        let q : suc (j - 1) ≡ j = omega arith in
        let p : ranks_before b v.start (suc o) ≡ c.rank = sym rank_is in
        let z : ranks_before b v.start j - c.rank - (ranks_before b v.start j - c.rank) ≡ 0 = omega arith in
        let g = gone b v ls h o d c e (ranks_before b v.start j - c.rank) shift w.cursor w.last w.some (by ∙ rank_is) small a r n (omega arith) (rw (s, q, p) (le_refl _)) in
        rw z at (rw (s, q, p) at g)

    pub stepped : (x : Pair) → x ≡ pair_at (v.start + 8 * (j - 1)) b → next b v (at_end c x.first x.second j) ≡ at_run b v c j
    stepped x f =
        let t = next_is in
        let q : suc (j - 1) ≡ j = omega arith in
        rw f (rw q at (step_on b v ls h c (j - 1) (omega arith)))

-- their bytes and ranks have room
pub ran-room : (b : List ℕ) (v : View) (d : List ℕ) (c : Cursor) (e : Encoder) (m : ℕ) (d' : List ℕ) (c' : Cursor) (l k n left : ℕ)
    → Written (next b v) runs_coder d c e m d' c' (ran_on e l k n) left → (e.first + 8 * n ≤ length d) × (e.rank + k ≤ 16777216) × (e.first + 8 * n < 2 ^ 40)
unfolding ran_on
ran-room b v d c e m d' c' l k n left w =
    let f = w.room.first in
    let s = w.room.second in
    let z = w.same in
    let q = w.rest.sound.empty-most in
    let p = w.rest.sound.passed-most in
    let t = w.rest.sound.first-most in
    (omega arith, omega arith, omega arith)

-- ---- from the first cell of a run on

module _ (b : List ℕ) (v : View) (ls : List ℕ) (h : Holds (runs_kind v.width v.step) b v ls) (c : Cursor) (e : Encoder) (w : BetweenRuns b v c e) (n j : ℕ)
    (some : 1 ≤ n) (q : FirstWith b v (c.rank + n) j) where
  -- run j is not before the cursor's
  pub not-before : c.next ≤ j + 1
  not-before =
      cases (ltb (c.next - 2) j)
      (λ t. let m = ltb-true (c.next - 2) j t in omega arith)
      (λ t.
      let m = ltb-false (c.next - 2) j t in
      let u = w.run in
      let z : j + (c.next - 2 - j) ≡ c.next - 2 = omega arith in
      let r = rw z at (ranks_from_lem b v ls h j (c.next - 2 - j) (omega arith)) in
      let x = (whole_run b v ls h j (omega arith)).after in
      let y = q.holds (omega arith) in
      let p = rank_is b v ls h c e w c.next (omega arith) in
      absurd (omega arith))

  -- the part of run j
  pub last_part : c.rank + n ≤ v.words → (x : Cursor) → x ≡ at_run b v c j → 1 < c.rank + n - x.rank → x.at + (c.rank + n - x.rank) ≤ x.last + 1
  last_part f x g = rw g (part f)
    where
      part : c.rank + n ≤ v.words → 1 < c.rank + n - (at_run b v c j).rank → (at_run b v c j).at + (c.rank + n - (at_run b v c j).rank) ≤ (at_run b v c j).last + 1
      part f m =
          let o = q.most in
          let r = at-rank-before b v ls h c j in
          cases (ltb j v.firsts)
          (λ t.
          let k = ltb-true j v.firsts t in
          let i = at_first b v ls h c j k in
          let a = i.at in
          let l = i.last in
          let y = q.holds k in
          omega arith)
          (λ t.
          let k = ltb-false j v.firsts t in
          let z : v.firsts ≡ j = omega arith in
          let y : ranks_before b v.start j ≡ v.words = ap (ranks_before b v.start) (sym z) ∙ words-before b v ls h in
          absurd (omega arith))

-- ---- from any rank on

module _ (b : List ℕ) (v : View) (ls : List ℕ) (h : Holds (runs_kind v.width v.step) b v ls) (c : Cursor) where
  between_at : (i : ℕ) → i < v.firsts → (x : Cursor) → x ≡ at_run b v c (suc i) → (y : Encoder) → y.last ≡ last_at b v.start i → 1 ≤ y.rank → BetweenRuns b v x y
  unfolding at_run
  between_at i k x g y l s =
      let n : x.next ≡ suc (suc i) = ap (λ (z : Cursor). z.next) g in
      let z : x.next - 2 ≡ i = omega arith in
      let u : at_run b v x (suc i) ≡ at_run b v c (suc i) = ap (λ (t : Cursor). at_run b v t (suc i)) g in
      record { run = rw z k; cursor = rw z (g ∙ sym u); last = rw z l; some = s }

  module _ (n : ℕ) (some : 1 ≤ n) (q : Reached (next b v) v.words c n) where
    pub standing : Stands b v c q.rank
    standing = let m = q.most in subst (λ (x : Cursor). Stands b v x q.rank) (sym q.steps) (stands b v ls h q.rank (omega arith))

    -- the cursor has not passed its run
    pub in_order : (c.at ≤ c.last) × (c.last < 16777216)
    in_order =
        let t = standing.there in
        let l = t.last in
        let g = t.high in
        let z = (whole_run b v ls h standing.run t.less).below in
        (omega arith, omega arith)

    -- after the rest of the run
    module _ (e : Encoder) (d d' : List ℕ) (w : Walk) (p : PutAs (next b v) runs_coder c e (c.last - c.at + 1) d w d') where
      cursor_on_lem : w.c ≡ at_run b v c (suc standing.run)
      unfolding carried
      cursor_on_lem =
          let l = standing.there.last in
          ap (λ (x : Walk). x.c) p.walk ∙ ap (λ (m : ℕ). stepped_as (next b v) c (m - c.at + 1)) l ∙ to_next b v ls h c standing.run standing.there

      encoder_on_lem : w.e ≡ grown (taken_by runs_coder e c.at) (c.last - c.at)
      unfolding carried
      encoder_on_lem =
          let z : c.last - c.at + 1 ≡ suc (c.last - c.at) = omega arith in
          ap (λ (x : Walk). x.e) p.walk
          ∙ rw z (ap (taken_all_by runs_coder e) (walked-along (next b v) (next-along b v) (c.last - c.at) c (le_refl _)))
          ∙ sym (taken-range runs_coder lengthens e c.at (suc (c.last - c.at)) (c.last - c.at) refl)

      last_on : w.e.last ≡ c.at + (c.last - c.at)
      unfolding grown taken_by
      last_on = ap (λ (x : Encoder). x.last) encoder_on_lem

      rank_on : w.e.rank ≡ e.rank + 1 + (c.last - c.at)
      unfolding grown taken_by
      rank_on = ap (λ (x : Encoder). x.rank) encoder_on_lem

      pub between_runs : BetweenRuns b v w.c w.e
      between_runs =
          let t = standing.there in
          let l = t.last in
          let g = in_order.0 in
          let a = last_on in
          let r = rank_on in
          between_at standing.run t.less w.c cursor_on_lem w.e (omega arith) (omega arith)

      pub ranks_fit : c.last - c.at + 1 ≤ n → w.c.rank + (n - (c.last - c.at + 1)) ≤ v.words
      ranks_fit k =
          let t = standing.there in
          let l = t.last in
          let g = in_order.0 in
          let a = t.at in
          let m = q.most in
          let o = standing.rank in
          let x = (whole_run b v ls h standing.run t.less).after in
          let r = ap (λ (z : Cursor). z.rank) cursor_on_lem ∙ at-rank-before b v ls h c (suc standing.run) in
          omega arith
