-- Kind 5: where a run ends, its entry of level 0; the upper levels are made of level 0 afterwards. Assumes nothing.
use Rattle.std.specs.Prelude.{ℕ, ◌+◌, ◌-◌, ◌*◌, ◌/◌, List, []}
use Rattle.format.specs.Tools.{pick}
use Rattle.format.specs.Bytes.{bytes_of}
use Rattle.format.specs.PagedRuns.{upper_entries, flat_spans, upper_levels}
use Rattle.stores.specs.Put.{put, pair}
use Rattle.parts.specs.declared.Encoder.{Encoder}
use Rattle.parts.specs.declared.Sizes.{Sizes}
use Rattle.parts.specs.Encoder.{Coder, Inside, if_zero, unchanged, left_after, run_ends}
use Rattle.levels.specs.LevelZero.{level_in}

-- all cells, and the empty ones, from the page's start through the run
unfoldable pub page_entry : Encoder → List ℕ
page_entry e = pair (e.last + 1 - e.cells) (e.last + 1 - e.rank - e.empty)

-- after the entry: the next page begins behind the run where the present one is full
unfoldable pub paged : ℕ → Encoder → Inside
paged b e =
    record {
      left = left_after b e.left;
      base = e.base;
      cells = if_zero (left_after b e.left) (e.last + 1) e.cells;
      empty = if_zero (left_after b e.left) (e.last + 1 - e.rank) e.empty;
      fits = e.fits;
    }

-- the encoder has put out level 0 alone
abbrev pub page_sizes : ℕ → Encoder → Sizes
page_sizes b e =
    record {
      words = e.rank;
      firsts = upper_entries b (e.second / 8);
      seconds = e.second / 8;
      first = 8 * upper_entries b (e.second / 8);
      second = e.second;
    }

unfoldable pub pages_coder : ℕ → Coder
pages_coder b =
    record {
      first = λ e p. [];
      second = λ e p. pick (run_ends e p) (page_entry e) [];
      inside = λ e p. pick (run_ends e p) (paged b e) (unchanged e);
      end_first = λ e. [];
      end_second = λ e. if_zero e.rank [] (page_entry e);
      sizes = page_sizes b;
      derived = λ z start d. put d start (bytes_of 4 (flat_spans (upper_levels b (level_in d z.seconds (start + z.first)))));
    }

-- by width and step
unfoldable pub coder : ℕ → ℕ → Coder
coder w b = pages_coder b
