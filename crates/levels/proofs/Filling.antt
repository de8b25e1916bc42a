-- The loop along a level: what is left to put out gives the whole. Assumes nothing.
use Prim.Native.Nat.{ℕ, zero, suc, ◌+◌, ◌-◌, ◌*◌, ◌^◌, ◌≤◌, ◌<◌, min}
use mathlib.Core.Path.{◌≡◌, refl, sym, ap, ◌∙◌}
use mathlib.Core.List.{List, ◌∷◌}
use native.Mathlib.Omega.{arith}
use lib.ListN.{length}
use lib.Dec.{eqb}
use borrow.Author.Tests.{ne_eqb}
use Rattle.format.specs.Tools.{pick, up_to}
use Rattle.format.specs.Bytes.{bytes_of}
use Rattle.format.specs.Runs.{Span}
use Rattle.format.specs.PagedRuns.{plus, sums_from, level, lasts, flat_spans}
use Rattle.laws.proofs.Bounds.{up_to-suc}
use Rattle.stores.specs.Put.{put, pair}
use Rattle.stores.proofs.Laws.{length-put, length-pair, put-numbers_nil}
use Rattle.levels.specs.declared.put.Sums.{Sums}
use Rattle.levels.specs.LevelZero.{level_in, pair_sum, Stands, span_at, sum_in, summed}
use Rattle.levels.proofs.LevelBytes.{level-none, lasts-next, level-put, put_entry}

-- ---- one entry

state : ℕ → ℕ → ℕ → Sums
state k c e = record { left = k; cells = c; empty = e }

next : (b k c e : ℕ) (x : Span) (xs : List Span)
    → sums_from b k (sum_in (state k c e)) (x ∷ xs)
    ≡ sum_in (summed b (state k c e) x) ∷ sums_from b (summed b (state k c e) x).left (sum_in (summed b (state k c e) x)) xs
unfolding sums_from state
next b zero c e x xs = refl
next b (suc k) c e x xs =
    let d : suc k - 1 ≡ k = omega arith in
    rw (ne_eqb (suc k) 0 (λ z. omega arith), d)

sums_next : (b : ℕ) (s : Sums) (x : Span) (xs : List Span)
    → sums_from b s.left (sum_in s) (x ∷ xs) ≡ sum_in (summed b s x) ∷ sums_from b (summed b s x).left (sum_in (summed b s x)) xs
unfolding state
sums_next b s x xs = next b s.left s.cells s.empty x xs

-- a sum that may begin anew
pick-most : (k x y : ℕ) → pick (eqb k 0) x (y + x) ≤ y + x
pick-most zero x y = omega arith
pick-most (suc k) x y = rw (ne_eqb (suc k) 0 (λ z. omega arith)) (omega arith)

-- one page fewer
fewer_pages : (b n : ℕ) → 1 ≤ b → 1 ≤ n → up_to n b ≡ suc (up_to (n - min b n) b)
fewer_pages b zero h k = absurd (omega arith)
fewer_pages b (suc n) h k =
    let e : suc n - min b (suc n) ≡ n - (b - 1) = omega arith in
    rw e (up_to-suc n b h)

-- ---- the loop

-- d is filled up to `at`; of the level below, `rest` entries are left, from `from` on
pub record Filling (d₀ : List ℕ) (b start below under : ℕ) (d : List ℕ) (s : Sums) (at from rest : ℕ) : Type 0 where
  pub whole : put d at (bytes_of 4 (flat_spans (sums_from b s.left (sum_in s) (lasts b (level_in d rest from)))))
      ≡ put d₀ start (bytes_of 4 (flat_spans (level b (lasts b (level_in d₀ under below)))))
  pub size : length d ≡ length d₀
  pub place : at + 8 * up_to rest b ≡ below
  pub from_least : below ≤ from
  pub room : from + 8 * rest ≤ length d
  pub cells : s.cells + (pair_sum (lasts b (level_in d rest from))).cells < 2 ^ 32
  pub empty : s.empty + (pair_sum (lasts b (level_in d rest from))).empty < 2 ^ 32

abbrev no_sums : Sums
no_sums = record { left = 0; cells = 0; empty = 0 }

pub filling_first : (d : List ℕ) (b start below under : ℕ) → Stands d b under below → start + 8 * up_to under b ≡ below
    → Filling d b start below under d no_sums start below under
unfolding level
filling_first d b start below under z p =
    let c = z.cells in
    let e = z.empty in
    record {
      whole = refl;
      size = refl;
      place = p;
      from_least = omega arith;
      room = z.room;
      cells = omega arith;
      empty = omega arith;
    }

module _ (d₀ : List ℕ) (b start below under : ℕ) (d : List ℕ) (s : Sums) (at from rest : ℕ)
    (f : Filling d₀ b start below under d s at from rest) (h : 1 ≤ b) where
  -- nothing is left
  pub filling_end : rest ≡ 0 → d ≡ put d₀ start (bytes_of 4 (flat_spans (level b (lasts b (level_in d₀ under below)))))
  filling_end e = sym end ∙ f.whole
    where
      end : put d at (bytes_of 4 (flat_spans (sums_from b s.left (sum_in s) (lasts b (level_in d rest from))))) ≡ d
      end = rw (e, level-none d from) (unfold lasts sums_from flat_spans in (put-numbers_nil 4 d at))

  module _ (k : 1 ≤ rest) where
    abbrev last : Span
    last = span_at d (from + 8 * min b rest - 8)

    abbrev later : List Span
    later = lasts b (level_in d (rest - min b rest) (from + 8 * min b rest))

    sum-next : pair_sum (lasts b (level_in d rest from)) ≡ plus last (pair_sum later)
    sum-next = ap pair_sum (lasts-next d b rest from h k) ∙ unfold pair_sum in refl

    -- the next sums fit
    pub cells_fit : s.cells + last.cells < 2 ^ 32
    cells_fit = let c = rw sum-next at f.cells in omega arith

    pub empty_fit : s.empty + last.empty < 2 ^ 32
    empty_fit = let c = rw sum-next at f.empty in omega arith

    -- there is room for the entry below the level that is read
    entry_room : at + 8 ≤ below
    entry_room = let p = f.place in let u = fewer_pages b rest h k in omega arith

    pub filling_next : (r : Sums) → r ≡ summed b s last
        → Filling d₀ b start below under (put d at (pair r.cells r.empty)) r (at + 8) (from + 8 * min b rest) (rest - min b rest)
    filling_next r q =
        let e = entry_room in
        let g = f.from_least in
        let n : length (pair r.cells r.empty) ≡ 8 = length-pair r.cells r.empty in
        let l : level_in (put d at (pair r.cells r.empty)) (rest - min b rest) (from + 8 * min b rest)
        ≡ level_in d (rest - min b rest) (from + 8 * min b rest)
        = level-put d (rest - min b rest) (from + 8 * min b rest) at (pair r.cells r.empty) (omega arith) in
        let p = f.place in
        let u = fewer_pages b rest h k in
        let z = f.room in
        let m = length-put d at (pair r.cells r.empty) in
        let c = rw sum-next at f.cells in
        let y = rw sum-next at f.empty in
        let c1 = pick-most s.left last.cells s.cells in
        let y1 = pick-most s.left last.empty s.empty in
        record {
          whole =
              rw l
              (sym (put_entry d at (sum_in r) (sums_from b r.left (sum_in r) later))
              ∙ rw q (ap (λ (ys : List Span). put d at (bytes_of 4 (flat_spans ys))) (sym (sums_next b s last later)))
              ∙ ap (λ (ys : List Span). put d at (bytes_of 4 (flat_spans (sums_from b s.left (sum_in s) ys)))) (sym (lasts-next d b rest from h k))
              ∙ f.whole);
          size = m ∙ f.size;
          place = omega arith;
          from_least = omega arith;
          room = rw m (omega arith);
          cells = rw (l, q) (omega arith);
          empty = rw (l, q) (omega arith);
        }
