-- The encoder of kind 1: the pair of a run goes out where the run ends. Assumes nothing.
use Rattle.std.specs.Prelude.{ℕ, ◌+◌, ◌-◌, ◌*◌, ◌/◌, List, [], ◌∷◌, ◌++◌, get_or}
use Rattle.format.specs.Tools.{pick}
use Rattle.stores.specs.Put.{pair}
use Rattle.parts.specs.declared.Encoder.{Encoder}
use Rattle.parts.specs.Encoder.{Coder, if_zero, unchanged, run_ends, sizes_as}

-- the pair of the run that ends at the last position
unfoldable pub run_pair : Encoder → List ℕ
run_pair e = pair e.last (e.last + 1 - e.rank)

unfoldable pub runs_coder : Coder
runs_coder =
    record {
      first = λ e p. pick (run_ends e p) (run_pair e) [];
      second = λ e p. [];
      inside = λ e p. unchanged e;
      end_first = λ e. if_zero e.rank [] (run_pair e);
      end_second = λ e. [];
      sizes = λ e. sizes_as e (e.first / 8) 0;
      derived = λ z start d. d;
    }

-- the encoder after n more positions, of which l is the last, where c runs end
unfoldable pub further : Encoder → ℕ → ℕ → ℕ → Encoder
further e n l c =
    record {
      rank = e.rank + n;
      last = l;
      left = e.left;
      base = e.base;
      cells = e.cells;
      empty = e.empty;
      first = e.first + 8 * c;
      second = e.second;
      fits = e.fits;
    }

-- the pairs of the runs that end at some indices of the positions ls, the first of which has the rank r
unfoldable pub end_pairs : ℕ → List ℕ → List ℕ → List ℕ
end_pairs r ls [] = []
end_pairs r ls (i ∷ is) = pair (get_or ls i 0) (get_or ls i 0 - (r + i)) ++ end_pairs r ls is

-- the coder is the same at each width and step
abbrev pub coder : ℕ → ℕ → Coder
coder w l = runs_coder
