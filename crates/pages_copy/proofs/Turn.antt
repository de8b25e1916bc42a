-- The cells of a stretch taken, one step short: where the cursor and the encoder stand then. Assumes nothing.
use Rattle.std.proofs.Common.{◌≡◌, ℕ, suc, ◌+◌, ◌-◌, ◌^◌, ◌<◌, ◌≤◌, List, sym, ap, ◌∙◌, arith}
use Rattle.format.specs.declared.View.{View}
use Rattle.format.specs.Tools.{range}
use Rattle.parts.specs.declared.Cursor.{Cursor}
use Rattle.parts.specs.declared.Encoder.{Encoder}
use Rattle.wire.specs.Wire.{add32}
use Rattle.parts.specs.Cursor.{before, along_by, walked_as, stepped_as}
use Rattle.parts.specs.Encoder.{taken_by, taken_all_by}
use Rattle.parts.specs.Batch.{Along, grown}
use Rattle.parts.specs.Carried.{Reached}
use Rattle.parts.proofs.Steps.{add32-small}
use Rattle.parts.proofs.Batches.{stepped_as_add}
use Rattle.parts.proofs.Along.{stepped-along, past-along, stretch_inside}
use Rattle.parts.proofs.Grown.{taken-range}
use Rattle.parts.proofs.Carried.{Cells, run_asked}
use Rattle.page_walk.specs.Steps.{next}
use Rattle.page_entries.specs.Coding.{pages_coder}
use Rattle.page_walk.proofs.Walk.{next-along}
use Rattle.page_entries.proofs.OneEntry.{lengthens_pages}
use Rattle.pages_copy.proofs.Behind.{reached_small}

-- some ranks further
pub reached_on : (f : Cursor → Cursor) (words : ℕ) (c : Cursor) (n : ℕ) → Reached f words c n → (m : ℕ) → m ≤ n → (x : Cursor) → x ≡ stepped_as f c m → (k : ℕ) → m + k ≤ n
    → Reached f words x k
reached_on f words c n q m h x e k l =
    let o = q.most in
    let z : suc q.rank + m ≡ suc (q.rank + m) = omega arith in
    record {
      rank = q.rank + m;
      steps = e ∙ ap (λ (y : Cursor). stepped_as f y m) q.steps ∙ sym (stepped_as_add f before (suc q.rank) m) ∙ ap (stepped_as f before) z;
      most = omega arith;
    }

-- k cells from c on, of which the cursor `last` is at the last
module _ (b : List ℕ) (v : View) (s : ℕ) (c : Cursor) (e : Encoder) (k left : ℕ) (q : Cells c k left) (a : Along e (walked_as (next b v) c left)) (words : ℕ)
    (r : Reached (next b v) words c left) (last : Cursor) (is : last ≡ along_by (k - 1) c) where
  small : c.rank < 2 ^ 32
  small = reached_small b v words c left r

  fits : c.at + k ≤ 16777216
  fits = (run_asked (next b v) (pages_coder s) (next-along b v) c e k left q a).2

  inside : k - 1 ≤ c.last - c.at
  inside = stretch_inside k c.at c.last q.in_run

  pub past-last : next b v last ≡ stepped_as (next b v) c k
  past-last =
      let f = fits in
      let o = q.some in
      let z : k - 1 + 1 ≡ k = omega arith in
      ap (next b v) is ∙ rw z at (past-along (next b v) (next-along b v) (k - 1) c small (omega arith) inside)

  pub reached_last : Reached (next b v) words last 1
  reached_last =
      let f = fits in
      let o = q.some in
      let m = q.most in
      reached_on (next b v) words c left r (k - 1) (omega arith) last (is ∙ sym (stepped-along (next b v) (next-along b v) (k - 1) c small (omega arith) inside)) 1 (omega arith)

  -- the encoder has the cell of `last` taken
  module _ (x : Encoder) (t : x ≡ taken_all_by (pages_coder s) e (range c.at k)) where
    taken : x ≡ grown (taken_by (pages_coder s) e c.at) (k - 1)
    taken = let o = q.some in t ∙ sym (taken-range (pages_coder s) (lengthens_pages s) e c.at k (k - 1) (omega arith))

    pub some-last : 1 ≤ x.rank
    unfolding grown taken_by
    some-last = let z : x.rank ≡ e.rank + 1 + (k - 1) = ap (λ (y : Encoder). y.rank) taken in omega arith

    pub same-last : x.last ≡ last.at
    unfolding grown taken_by along_by
    same-last =
        let f = fits in
        let o = q.some in
        let z : last.at ≡ add32 c.at (k - 1) = ap (λ (y : Cursor). y.at) is in
        ap (λ (y : Encoder). y.last) taken ∙ sym (z ∙ add32-small c.at (k - 1) (omega arith))
