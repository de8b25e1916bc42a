-- Whole runs copied as pairs: one run after the other. Assumes nothing.
use Rattle.std.proofs.Common.{◌≡◌, ℕ, zero, suc, ◌+◌, ◌-◌, ◌*◌, ◌%◌, ◌^◌, ◌<◌, ◌≤◌, true, not, List, length, sym, refl, ap, ◌∙◌, subst, ap₂, add-zero, arith, ne_eqb}
use Rattle.format.specs.declared.View.{View}
use Rattle.format.specs.Tools.{range}
use Rattle.format.specs.Runs.{runs_kind}
use Rattle.wire.specs.Wire.{pair_at, field_pair, add32}
use Rattle.wire.proofs.Laws.{pair-there}
use Rattle.stores.specs.Put.{put, pair}
use Rattle.parts.specs.declared.Cursor.{Cursor}
use Rattle.parts.specs.declared.Encoder.{Encoder}
use Rattle.parts.specs.Cursor.{walked_as, stepped_as}
use Rattle.parts.specs.Encoder.{run_ends, taken_all_by}
use Rattle.parts.specs.Ready.{moved}
use Rattle.parts.specs.Batch.{Along, RoomAll, put_all_by, grown}
use Rattle.parts.specs.Holds.{Holds}
use Rattle.rises.specs.Copied.{copied}
use Rattle.parts.proofs.Steps.{add32-small}
use Rattle.rises.proofs.Copied.{shifted}
use Rattle.parts.proofs.Taking.{ends_later, put_first}
use Rattle.parts.proofs.Grown.{taken-range, put-range}
use Rattle.parts.proofs.Carried.{Written, written_begin, Cells, written_turn}
use Rattle.run_search.specs.Before.{last_at, empty_at, ranks_before}
use Rattle.run_walk.specs.Steps.{next}
use Rattle.run_pairs.specs.Coding.{run_pair, runs_coder}
use Rattle.runs_copy.specs.Copy.{at_run, ran_on}
use Rattle.run_walk.proofs.Body.{inside}
use Rattle.run_walk.proofs.Walk.{next-along}
use Rattle.run_pairs.proofs.Adds.{first-pair, taken-pair, lengthens, keeps}
use Rattle.runs_copy.proofs.Whole.{whole_run, ranks-next, InRunAt, to_next, at_first}

-- ---- one run of n cells, which ends at l, into an encoder that has another open

module _ (e : Encoder) (p n l : ℕ) (some : 1 ≤ e.rank) (apart : e.last + 1 < p) (more : 1 ≤ n) (ends : p + n ≡ suc l) where
  run_ends_lem : run_ends e p ≡ true
  run_ends_lem = sym (ends_later e p (λ z. omega arith)) ∙ ap not (ne_eqb p (e.last + 1) (λ z. omega arith))

  moved_on : ran_on e l n 1 ≡ grown (moved e p (e.first + 8) e.second) (n - 1)
  unfolding ran_on grown moved
  moved_on =
      let r : e.rank + 1 + (n - 1) ≡ e.rank + n = omega arith in
      let q : p + (n - 1) ≡ l = omega arith in
      rw (r, q)

  taken-run : ran_on e l n 1 ≡ taken_all_by runs_coder e (range p n)
  taken-run =
      moved_on ∙ ap (λ (x : Encoder). grown x (n - 1)) (taken-pair e p run_ends_lem) ∙ taken-range runs_coder lengthens e p n (n - 1) (omega arith)

  put-run-pair : (d : List ℕ) → put d e.first (run_pair e) ≡ put_all_by runs_coder d e (range p n)
  unfolding runs_coder
  put-run-pair d =
      put_first runs_coder d e p (run_pair e) (first-pair e p run_ends_lem) refl ∙ put-range runs_coder lengthens e p n (n - 1) (omega arith) d

-- ---- run after run

-- the pair of the open run: l and y are its pair in the file, o the ranks before the first run copied, r those taken then
open_pair : (e : Encoder) (l y s r o n : ℕ) → e.last ≡ l → n ≡ l + 1 - y → y ≤ l → o ≤ n → e.rank ≡ r + (n - o) → e.rank ≤ l + 1 → l < 16777216
    → (s + r) % 2 ^ 32 ≡ o → s < 2 ^ 32 → run_pair e ≡ pair (add32 l 0) (add32 y s)
unfolding run_pair
open_pair e l y s r o n a b c d f g z k m =
    let t : e.last + 1 - e.rank ≡ add32 y s = sym (shifted y s r o k m (omega arith) (omega arith) (omega arith) ∙ omega arith) in
    ap₂ pair (a ∙ sym (add32-small l 0 (omega arith) ∙ add-zero l)) t

module _ (b : List ℕ) (v : View) (ls : List ℕ) (h : Holds (runs_kind v.width v.step) b v ls) (i : ℕ) where
  abbrev R : ℕ → ℕ
  R j = ranks_before b v.start j

  -- m runs behind run i have gone
  abbrev pub after_runs : Encoder → ℕ → Encoder
  after_runs e m = ran_on e (last_at b v.start (i + m)) (R (suc (i + m)) - R (suc i)) m

  pub ranks_from_lem : (m : ℕ) → i + m < v.firsts → R (suc i) ≤ R (suc (i + m))
  ranks_from_lem zero k = rw (add-zero i) (omega arith)
  ranks_from_lem (suc m) k =
      let z : i + suc m ≡ suc (i + m) = omega arith in
      let t = ranks_from_lem m (omega arith) in
      let u = ranks-next b v ls h (suc (i + m)) (omega arith) in
      rw z (omega arith)

  module _ (d₀ : List ℕ) (c₀ : Cursor) (e₀ : Encoder) (n shift : ℕ) (cursor : c₀ ≡ at_run b v c₀ (suc i)) (last : e₀.last ≡ last_at b v.start i)
      (some : 1 ≤ e₀.rank) (by : (shift + e₀.rank) % 2 ^ 32 ≡ R (suc i)) (small : shift < 2 ^ 32) where
    abbrev bytes : ℕ → List ℕ
    bytes m = copied b (v.start + 8 * i) 0 shift e₀.first m d₀

    abbrev Gone : ℕ → Type 0
    Gone m = Written (next b v) runs_coder d₀ c₀ e₀ n (bytes m) (at_run b v c₀ (suc (i + m))) (after_runs e₀ m) (n - (R (suc (i + m)) - R (suc i)))

    no_runs : after_runs e₀ 0 ≡ e₀
    unfolding ran_on
    no_runs =
        let x : e₀.rank + (R (suc (i + 0)) - R (suc i)) ≡ e₀.rank = rw (add-zero i) (omega arith) in
        let y : e₀.first + 8 * 0 ≡ e₀.first = omega arith in
        let t : last_at b v.start (i + 0) ≡ e₀.last = rw (add-zero i) (sym last) in
        rw (x, y, t)

    none_gone : Along e₀ (walked_as (next b v) c₀ n) → RoomAll runs_coder e₀ (walked_as (next b v) c₀ n) (length d₀) → Gone 0
    unfolding copied
    none_gone a r =
        let w = written_begin (next b v) runs_coder d₀ c₀ e₀ n a r in
        let q : at_run b v c₀ (suc (i + 0)) ≡ c₀ = ap (λ (k : ℕ). at_run b v c₀ (suc k)) (add-zero i) ∙ sym cursor in
        let z : n - (R (suc (i + 0)) - R (suc i)) ≡ n = rw (add-zero i) (omega arith) in
        subst (Written (next b v) runs_coder d₀ c₀ e₀ n d₀ (at_run b v c₀ (suc (i + 0))) (after_runs e₀ 0)) (sym z)
        (subst (λ (x : Encoder). Written (next b v) runs_coder d₀ c₀ e₀ n d₀ (at_run b v c₀ (suc (i + 0))) x n) (sym no_runs)
        (subst (λ (x : Cursor). Written (next b v) runs_coder d₀ c₀ e₀ n d₀ x e₀ n) (sym q) w))

    -- one more
    module _ (m : ℕ) (k : suc (i + m) < v.firsts) (most : R (suc (suc (i + m))) - R (suc i) ≤ n) (g : Gone m) where
      abbrev j : ℕ
      j = suc (i + m)

      abbrev c : Cursor
      c = at_run b v c₀ j

      abbrev e : Encoder
      e = after_runs e₀ m

      here : InRunAt b v c j
      here = at_first b v ls h c₀ j k

      abbrev count : ℕ
      count = R (suc j) - R j

      place : c.at ≡ R j + empty_at b v.start j
      unfolding at_run
      place = here.at

      ends : c.at + count ≡ suc (last_at b v.start j)
      ends = let w = whole_run b v ls h j k in let s = w.some in let a = w.after in let p = place in omega arith

      cells : Cells c count (n - (R j - R (suc i)))
      cells =
          let t = ranks_from_lem m (omega arith) in
          let u = ranks-next b v ls h j k in
          let q = ends in
          let l = here.last in
          record { most = omega arith; some = omega arith; in_run = λ z. omega arith }

      rank_now : e.rank ≡ e₀.rank + (R j - R (suc i))
      unfolding ran_on
      rank_now = refl

      last_now : e.last ≡ last_at b v.start (i + m)
      unfolding ran_on
      last_now = refl

      open_is : run_pair e ≡ pair (add32 (last_at b v.start (i + m)) 0) (add32 (empty_at b v.start (i + m)) shift)
      open_is =
          let w = whole_run b v ls h (i + m) (omega arith) in
          let s = w.some in
          let q = g.rest.sound.empty-most in
          let r = rank_now in
          let l = last_now in
          open_pair e _ _ shift e₀.rank (R (suc i)) (R j) l w.after (omega arith) (ranks_from_lem m (omega arith)) r (omega arith) w.below by small

      away : e.last + 1 < c.at
      away =
          let w = whole_run b v ls h (i + m) (omega arith) in
          let s = w.some in
          let a = w.after in
          let t = w.apart k in
          let p = place in
          let l = last_now in
          omega arith

      some_now : 1 ≤ e.rank
      some_now = let r = rank_now in omega arith

      more : 1 ≤ count
      more = let u = ranks-next b v ls h j k in omega arith

      pair_now : field_pair (v.start + 8 * i + 8 * m) b ≡ pair_at (v.start + 8 * (i + m)) b
      pair_now =
          let z : v.start + 8 * i + 8 * m ≡ v.start + 8 * (i + m) = omega arith in
          let l = (inside b v h.counted).long in
          rw z (sym (pair-there (v.start + 8 * (i + m)) b (omega arith)))

      bytes_on : bytes (suc m) ≡ put_all_by runs_coder (bytes m) e (range c.at count)
      unfolding copied ran_on
      bytes_on = rw (pair_now, ← open_is) (put-run-pair e c.at count (last_at b v.start j) some_now away more ends (bytes m))

      one_more : after_runs e₀ (suc m) ≡ ran_on e (last_at b v.start j) count 1
      unfolding ran_on
      one_more =
          let t = ranks_from_lem m (omega arith) in
          let u = ranks-next b v ls h j k in
          let z : i + suc m ≡ suc (i + m) = omega arith in
          let r : e₀.rank + (R (suc (suc (i + m))) - R (suc i)) ≡ e₀.rank + (R j - R (suc i)) + count = omega arith in
          let f : e₀.first + 8 * suc m ≡ e₀.first + 8 * m + 8 = omega arith in
          rw (z, r, f)

      taken_on : after_runs e₀ (suc m) ≡ taken_all_by runs_coder e (range c.at count)
      taken_on = one_more ∙ taken-run e c.at count (last_at b v.start j) some_now away more ends

      stepped_on : at_run b v c₀ (suc (i + suc m)) ≡ stepped_as (next b v) c count
      unfolding at_run
      stepped_on =
          let z : i + suc m ≡ suc (i + m) = omega arith in
          let q : last_at b v.start j - c.at + 1 ≡ count = let t = ends in let p = here.high in omega arith in
          rw z (sym (rw q at (to_next b v ls h c j here)))

      more_gone : Gone (suc m)
      more_gone =
          let t = ranks_from_lem m (omega arith) in
          let u = ranks-next b v ls h j k in
          let z : i + suc m ≡ suc (i + m) = omega arith in
          let q : n - (R j - R (suc i)) - count ≡ n - (R (suc (i + suc m)) - R (suc i)) = rw z (omega arith) in
          rw q at
          (written_turn (next b v) runs_coder (next-along b v) c e count (n - (R j - R (suc i))) cells keeps d₀ c₀ e₀ n (bytes m) (bytes (suc m))
          (at_run b v c₀ (suc (i + suc m))) (after_runs e₀ (suc m)) stepped_on taken_on bytes_on g)

    pub gone : Along e₀ (walked_as (next b v) c₀ n) → RoomAll runs_coder e₀ (walked_as (next b v) c₀ n) (length d₀)
        → (m : ℕ) → i + m < v.firsts → R (suc (i + m)) - R (suc i) ≤ n → Gone m
    gone a r zero k most = none_gone a r
    gone a r (suc m) k most =
        let z : i + suc m ≡ suc (i + m) = omega arith in
        let u = ranks-next b v ls h (suc (i + m)) (omega arith) in
        let o : R (suc (suc (i + m))) - R (suc i) ≤ n = rw z at most in
        more_gone m (omega arith) o (gone a r m (omega arith) (omega arith))
