-- Level 0 as the check goes along it. Assumes nothing.
use Rattle.std.specs.Prelude.{ℕ, zero, suc, ◌+◌, ◌-◌, ◌^◌, ◌<◌, Bool, List, [], ◌∷◌, ◌==◌, nat_le, nat_lt}
use Rattle.format.specs.Tools.{both}
use Rattle.format.specs.Runs.{Span}
use Rattle.wire.specs.declared.Pair.{Pair}
use Rattle.rises.specs.Falls.{fallen, follows}
use Rattle.levels.specs.Levels.{span_of}
use Rattle.page_walk.specs.declared.check.Pages.{Pages}

abbrev pub pair_of : Span → Pair
pair_of x = record { first = x.cells; second = x.empty }

-- a page past the first begins with a run of its own: it has an empty cell before it, and a stored cell
abbrev pub begins : Span → Bool
begins y = both (nat_lt 0 y.empty) (nat_lt y.empty y.cells)

-- all runs end within the picture's cells, and have as many stored cells as there are words
abbrev pub ends_right : ℕ → ℕ → ℕ → ℕ → Bool
ends_right C N cells empty = both (nat_le cells C) (cells == empty + N)

-- the entries behind x are right, where k more belong to its page of b; `cells` and `empty` are the sums before the page
unfoldable pub pages_right : ℕ → ℕ → ℕ → ℕ → ℕ → ℕ → Span → List Span → Bool
pages_right C N b k cells empty x [] = ends_right C N (cells + x.cells) (empty + x.empty)
pages_right C N b zero cells empty x (y ∷ ys) = both (begins y) (pages_right C N b (b - 1) (cells + x.cells) (empty + x.empty) y ys)
pages_right C N b (suc k) cells empty x (y ∷ ys) = both (follows (pair_of x) (pair_of y)) (pages_right C N b k cells empty y ys)

unfoldable pub runs_right : ℕ → ℕ → ℕ → List Span → Bool
runs_right b C N [] = N == 0
runs_right b C N (y ∷ ys) = both (nat_lt y.empty y.cells) (pages_right C N b (b - 1) 0 0 y ys)

-- ---- page by page

-- past a page with the last entry x, before one with the first entry y
abbrev pub past_page : Pages → Pair → Pair → Pages
past_page s x y =
    record {
      falls = s.falls + fallen (follows x y);
      right = both s.right (begins (span_of y));
      cells = s.cells + x.first;
      empty = s.empty + x.second;
    }

-- counts and sums that leave room for more
pub record Small (s : Pages) : Type 0 where
  pub falls : s.falls < 2 ^ 31
  pub cells : s.cells < 2 ^ 61
  pub empty : s.empty < 2 ^ 61
