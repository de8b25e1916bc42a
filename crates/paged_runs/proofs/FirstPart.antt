-- Where the second part of rising positions stands, the levels above it are the first part. Assumes nothing.
use Rattle.std.proofs.Common.{◌≡◌, ℕ, ◌+◌, ◌*◌, ◌^◌, ◌≤◌, true, List, length, take, drop, sym, ap, ◌∙◌, arith}
use Rattle.format.specs.Bytes.{bytes_of}
use Rattle.format.specs.Codec.{Parts}
use Rattle.format.specs.Runs.{Span, runs, spans}
use Rattle.format.specs.PagedRuns.{level, lasts, upper_levels, upper_entries, flat_spans, paged_parts, pages_kind}
use Rattle.laws.proofs.Stored.{Rising, rising-length}
use Rattle.laws.proofs.Bounds.{length-level, length-upper_levels, below-level, length-spans}
use Rattle.stores.specs.Put.{put}
use Rattle.stores.proofs.Laws.{length-put, put_comm}
use Rattle.parts.specs.declared.Sizes.{Sizes}
use Rattle.parts.specs.Codes.{sizes_in}
use Rattle.parts.proofs.Outright.{seconds_in, first_in, second_in}
use Rattle.levels.specs.LevelZero.{level_in, pair_sum, LevelZero}
use Rattle.page_walk.proofs.Allowed.{page-step}
use Rattle.levels.proofs.LevelSums.{level-sum, runs-sum}
use Rattle.levels.proofs.LevelBytes.{length-entries, put_back, level-back}

module _ (w b : ℕ) (allowed : (pages_kind w b).allowed ≡ true) (B : ℕ) (ls : List ℕ) (most : B ≤ 16777216) (r : Rising 0 B ls) where
  -- the length pairs, and the parts
  abbrev xs : List Span
  xs = spans (runs ls)

  abbrev parts : Parts
  parts = (pages_kind w b).parts B ls

  second-length : length parts.second ≡ 8 * length xs
  unfolding pages_kind paged_parts
  second-length = length-entries (level b xs) ∙ rw (length-level b xs)

  first-length : length parts.first ≡ 8 * upper_entries b (length xs)
  unfolding pages_kind paged_parts
  first-length =
      let h = (page-step w b allowed).0 in
      length-entries (upper_levels b (level b xs))
      ∙ ap (λ (n : ℕ). 8 * n) (length-upper_levels b (level b xs) (omega arith) ∙ ap (upper_entries b) (length-level b xs))

  module _ (d : List ℕ) (start second : ℕ) (at : second ≡ start + length parts.first) (room : second + length parts.second ≤ length d)
      (stands : take (length parts.second) (drop second d) ≡ parts.second) where
    level-stands : level_in d (length xs) second ≡ level b xs
    unfolding pages_kind paged_parts
    level-stands = level-back d (length xs) second (level b xs) (length-level b xs) (below-level b 0 B (256 ^ 4) ls (omega arith) r) stands

    whole_sum : pair_sum (lasts b (level_in d (length xs) second)) ≡ pair_sum xs
    whole_sum = ap (λ (l : List Span). pair_sum (lasts b l)) level-stands ∙ level-sum b xs

    level-zero : LevelZero d start b parts.second_count second
    unfolding pages_kind paged_parts
    level-zero =
        let t = page-step w b allowed in
        let s = runs-sum B ls r in
        let s0 = s.0 in
        let s1 = s.1 in
        let n = length-spans ls in
        let m = rising-length 0 B ls (omega arith) r in
        let f = first-length in
        let g = second-length in
        record {
          stands =
              record {
                step-least = t.0;
                step-most = t.1;
                most = omega arith;
                room = omega arith;
                cells = rw whole_sum (omega arith);
                empty = rw whole_sum (omega arith);
              };
          second_at_lem = omega arith;
        }

    first-put : put d start (bytes_of 4 (flat_spans (upper_levels b (level_in d parts.second_count second)))) ≡ put d start parts.first
    unfolding pages_kind paged_parts
    first-put = ap (λ (ys : List Span). put d start (bytes_of 4 (flat_spans (upper_levels b ys)))) level-stands

  -- the second part alone put out, and then the levels above it
  module _ (z : Sizes) (q : z ≡ sizes_in (length ls) parts) (before : List ℕ) (start : ℕ) (room : start + z.first + z.second ≤ length before)
      (d : List ℕ) (out : d ≡ put before (start + z.first) parts.second) where
    behind : start + z.first ≡ start + length parts.first
    behind = ap (λ (n : ℕ). start + n) (first_in z (length ls) parts q)

    inside : start + z.first + length parts.second ≤ length d
    inside = let k = second_in z (length ls) parts q in let l = ap length out ∙ length-put before (start + z.first) parts.second in omega arith

    there : take (length parts.second) (drop (start + z.first) d) ≡ parts.second
    there = let k = second_in z (length ls) parts q in rw out (put_back before (start + z.first) parts.second (omega arith))

    -- what `put_levels` asks
    pub level_out : LevelZero d start b z.seconds (start + z.first)
    level_out = rw (seconds_in z (length ls) parts q) (level-zero d start (start + z.first) behind inside there)

    -- and what is there then: both parts
    pub levels-made : put d start (bytes_of 4 (flat_spans (upper_levels b (level_in d z.seconds (start + z.first)))))
        ≡ put (put before start parts.first) (start + z.first) parts.second
    levels-made =
        let k = first_in z (length ls) parts q in
        rw (seconds_in z (length ls) parts q) (first-put d start (start + z.first) behind inside there)
        ∙ ap (λ (t : List ℕ). put t start parts.first) out
        ∙ sym (put_comm before start parts.first (start + z.first) parts.second (omega arith))
