-- Numbers that document 01 gives outside M1 to M12, and one example at least of each signal and of each call, as rows. Assumes nothing.
use Rattle.std.specs.Prelude.{ℕ, List, [], ◌∷◌, ◌++◌, take, replicate, set}
use Rattle.format.specs.declared.Dimensions.{Dimensions}
use Rattle.format.specs.declared.Setting.{Setting}
use Rattle.format.specs.Answers.{leaves}
use Rattle.format.specs.Picture.{position_at, coordinates_at}
use Rattle.format.specs.Codec.{Parts}
use Rattle.format.specs.Runs.{run_parts}
use Rattle.format.specs.PagedRuns.{level, upper_levels, upper_entries, flat_spans, spans_in}
use Rattle.format.specs.File.{file_from, layout}
use Rattle.format.specs.Accepted.{words_of, check_number}
use Rattle.format.specs.Calls.{make_number}
use Rattle.format.specs.Lookups.{cell_answer, rank_answer}
use Rattle.format.specs.Coordinates.{position_number, coordinates_number}
use Rattle.format.specs.Box.{box_words, box_number}
use Rattle.format.specs.RankRange.{ranks_number, ranks_bytes}
use Rattle.format.specs.Shorter.{shorter_number, shorter_of}
use Rattle.format.specs.Opened.{via_opening}
use Rattle.format.specs.Lister.{listing}
use Rattle.format.specs.Sample.{setting, row, sample, sample_l, file, in_each, shown, Row, M, one}

-- 3 by 4, and its file of the words 1 to 12 in kind 2
abbrev pub grid : Dimensions
grid = record { count = 2; extents = 3 ∷ 4 ∷ 1 ∷ 1 ∷ [] }

abbrev pub grid_file : List ℕ
grid_file = layout (setting 2 0 0) grid 0 (1 ∷ 2 ∷ 3 ∷ 4 ∷ 5 ∷ 6 ∷ 7 ∷ 8 ∷ 9 ∷ 10 ∷ 11 ∷ 12 ∷ [])

-- coordinates in it
abbrev pub at : ℕ → ℕ → List ℕ
at a b = a ∷ b ∷ 0 ∷ 0 ∷ []

-- what check gives of the file of M2 with the byte x at i
abbrev pub damaged : ℕ → ℕ → ℕ
damaged i x = check_number (set (file 2 0 0) i x)

-- what check gives of a file of 12 cells with these parts and n words, all else in agreement
abbrev pub claimed : Setting → Parts → ℕ → ℕ
claimed s q n = check_number (file_from s (row 12) 0 q (replicate n 1))

-- the same in kind 1, of the runs of these positions
abbrev pub claimed_runs : List ℕ → ℕ → ℕ
claimed_runs ls n = claimed (setting 1 0 0) (run_parts ls) n

abbrev pub examples : List Row
examples =
    -- in 3 by 4, coordinates (1, 2) are position 6; past the dimension count only 0 is inside
    M 0 (one (position_at grid (at 1 2))) (one 6)
    ∷ M 0 (coordinates_at grid 6) (at 1 2)
    ∷ M 0 (position_number grid (at 2 3) ∷ position_number grid (at 1 4) ∷ position_number grid (1 ∷ 2 ∷ 1 ∷ 0 ∷ []) ∷ []) (0 ∷ 8 ∷ 8 ∷ [])
    ∷ M 0 (coordinates_number grid 11 ∷ coordinates_number grid 12 ∷ []) (0 ∷ 8 ∷ [])
    -- cell at 10, 11 and 12, and expand, in each kind
    ∷ M 0 (in_each (λ b. shown (cell_answer b 10) ++ shown (cell_answer b 11) ++ shown (cell_answer b 12))) (in_each (λ b. 0 ∷ 300 ∷ 0 ∷ 0 ∷ 8 ∷ []))
    ∷ M 0 (in_each words_of) (in_each (λ b. sample))
    -- check: of the file as it is, and of one of 52 bytes
    ∷ M 0 (check_number (file 2 0 0) ∷ check_number (layout (setting 1 0 0) (row 12) 0 (replicate 12 0)) ∷ []) (0 ∷ 0 ∷ [])
    -- 51 bytes; kind 9; width 1; a second extent of 2, and of 0
    ∷ M 0 (check_number (take 51 (file 2 0 0)) ∷ damaged 0 9 ∷ damaged 2 1 ∷ damaged 8 2 ∷ damaged 8 0 ∷ []) (1 ∷ 2 ∷ 3 ∷ 4 ∷ 4 ∷ [])
    -- a false first count, offset and length; a byte less and one more
    ∷ M 0 (damaged 28 3 ∷ damaged 40 67 ∷ damaged 48 83 ∷ []) (5 ∷ 5 ∷ 5 ∷ [])
    ∷ M 0 (check_number (take 83 (file 2 0 0)) ∷ check_number (file 2 0 0 ++ (0 ∷ [])) ∷ []) (5 ∷ 5 ∷ [])
    -- N above cells is 5; N that the runs do not hold, and no runs for 4 words, is 6
    ∷ M 0 (claimed_runs sample_l 13 ∷ claimed_runs sample_l 12 ∷ claimed_runs [] 4 ∷ claimed_runs sample_l 4 ∷ []) (5 ∷ 6 ∷ 6 ∷ 0 ∷ [])
    -- a position twice; a stored word that is E
    ∷ M 0 (damaged 56 2 ∷ damaged 68 0 ∷ []) (6 ∷ 6 ∷ [])
    -- 11 and 13 words for 12 cells
    ∷ M 0 (make_number (setting 1 0 0) (row 12) 0 (replicate 11 0) 52 ∷ make_number (setting 1 0 0) (row 12) 0 (replicate 13 0) 52 ∷ []) (7 ∷ 7 ∷ [])
    -- a destination of 51 and of 52 bytes
    ∷ M 0 (make_number (setting 1 0 0) (row 12) 0 (replicate 12 0) 51 ∷ make_number (setting 1 0 0) (row 12) 0 (replicate 12 0) 52 ∷ []) (10 ∷ 0 ∷ [])
    -- a destination after an accepted and after a refused call
    ∷ M 0 (leaves 0 (1 ∷ 2 ∷ []) (7 ∷ 8 ∷ 9 ∷ [])) (1 ∷ 2 ∷ 9 ∷ [])
    ∷ M 0 (leaves 8 (1 ∷ 2 ∷ []) (7 ∷ 8 ∷ 9 ∷ [])) (7 ∷ 8 ∷ 9 ∷ [])
    -- a box; low above high; room for three words, and for four
    ∷ M 0 (box_words grid_file (at 1 1) (at 2 2)) (6 ∷ 7 ∷ 10 ∷ 11 ∷ [])
    ∷ M 0 (box_number grid_file (at 1 2) (at 2 1) 9 ∷ box_number grid_file (at 1 1) (at 2 2) 3 ∷ box_number grid_file (at 1 1) (at 2 2) 4 ∷ []) (8 ∷ 10 ∷ 0 ∷ [])
    -- the bytes of rank 1; the ranges 4 to 4, 4 to 5, 2 to 1
    ∷ M 0 (ranks_bytes (file 2 0 0) 1 2) (9 ∷ 0 ∷ 0 ∷ 0 ∷ [])
    ∷ M 0 (ranks_number (file 2 0 0) 4 4 ∷ ranks_number (file 2 0 0) 4 5 ∷ ranks_number (file 2 0 0) 2 1 ∷ []) (0 ∷ 8 ∷ 8 ∷ [])
    -- the shorter of two; two kinds of one picture; 12 and 12 by 1, another E, another word
    ∷ M 0 (shorter_of 92 76 1 2 ∷ shorter_of 76 92 1 2 ∷ shorter_of 76 76 1 2 ∷ []) (2 ∷ 1 ∷ 1 ∷ [])
    ∷ M 0 (one (shorter_number (file 1 0 0) (file 4 1 0))) (one 0)
    ∷ M 0 (shorter_number (file 2 0 0) (set (file 2 0 0) 1 2) ∷ shorter_number (file 2 0 0) (set (file 2 0 0) 20 1) ∷ shorter_number (file 2 0 0) (set (file 2 0 0) 68 8) ∷ []) (11 ∷ 11 ∷ 11 ∷ [])
    -- a lookup through a refused opening
    ∷ M 0 (shown (via_opening (check_number []) (rank_answer [] 0))) (one 8)
    -- five runs in pages of 2: levels of 5, 3 and 2 entries, top first; nine runs have ten upper entries
    ∷ M 0 (flat_spans (upper_levels 2 (level 2 (spans_in (2 ∷ 1 ∷ 2 ∷ 1 ∷ 2 ∷ 1 ∷ 2 ∷ 1 ∷ 2 ∷ 1 ∷ []))))) (8 ∷ 4 ∷ 10 ∷ 5 ∷ 4 ∷ 2 ∷ 8 ∷ 4 ∷ 2 ∷ 1 ∷ [])
    ∷ M 0 (one (upper_entries 2 9)) (one 10)
    -- the lister of a refused file: `refused 1`
    ∷ M 0 (listing []) (114 ∷ 101 ∷ 102 ∷ 117 ∷ 115 ∷ 101 ∷ 100 ∷ 32 ∷ 49 ∷ 10 ∷ [])
    ∷ []
