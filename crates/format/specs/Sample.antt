-- The sample picture (document 01): the cases M1 to M12, what follows them, and the lister's lines, as rows. Assumes nothing.
use Rattle.std.specs.Prelude.{ℕ, List, [], ◌∷◌, ◌++◌, length, replicate, set}
use Rattle.format.specs.declared.Dimensions.{Dimensions}
use Rattle.format.specs.declared.Setting.{Setting}
use Rattle.format.specs.Tools.{pick}
use Rattle.format.specs.Answers.{Answer, number_of, is_empty, values_of}
use Rattle.format.specs.Stored.{stored}
use Rattle.format.specs.Runs.{runs, spans, flat_runs, run_rank, run_position}
use Rattle.format.specs.BaseOffset.{bases, offsets}
use Rattle.format.specs.Jumps.{differences, jumps}
use Rattle.format.specs.PagedRuns.{level, upper_levels, flat_spans, descent, all_cells, stored_cells, rank_at_place, position_at_place}
use Rattle.format.specs.File.{layout}
use Rattle.format.specs.Calls.{make_number, change_number}
use Rattle.format.specs.Lookups.{rank_answer, position_answer}
use Rattle.format.specs.Coordinates.{coordinates_number}
use Rattle.format.specs.Lister.{listing}

abbrev pub setting : ℕ → ℕ → ℕ → Setting
setting k w l = record { kind = k; width = w; step = l }

-- one dimension of n cells
abbrev pub row : ℕ → Dimensions
row n = record { count = 1; extents = n ∷ 1 ∷ 1 ∷ 1 ∷ [] }

-- the sample picture's words, its stored positions, and its file in a setting
abbrev pub sample : List ℕ
sample = 0 ∷ 0 ∷ 7 ∷ 9 ∷ 0 ∷ 5 ∷ 0 ∷ 0 ∷ 0 ∷ 0 ∷ 300 ∷ 0 ∷ []

abbrev pub sample_l : List ℕ
sample_l = stored 0 sample

abbrev pub file : ℕ → ℕ → ℕ → List ℕ
file k w l = layout (setting k w l) (row 12) 0 sample

-- something of its files in the six kinds
abbrev pub in_each : (List ℕ → List ℕ) → List ℕ
in_each f = f (file 1 0 0) ++ f (file 2 0 0) ++ f (file 3 1 2) ++ f (file 4 1 0) ++ f (file 5 0 2) ++ f (file 6 1 2)

-- 300 cells, stored at 2 and q only
abbrev pub pair : ℕ → List ℕ
pair q = set (set (replicate 300 0) 2 7) q 9

-- an answer's number, or 255 for "empty", and its values
abbrev pub shown : Answer → List ℕ
shown a = pick (is_empty a) 255 (number_of a) ∷ values_of a

-- the same rank, or position, by kind 1's rule and by kind 5's descent, over the stored positions ls
abbrev pub by_runs : List ℕ → ℕ → List ℕ
by_runs ls p = shown (run_rank (runs ls) p) ++ shown (rank_at_place (descent all_cells 2 (spans (runs ls)) p))

abbrev pub by_runs_back : List ℕ → ℕ → List ℕ
by_runs_back ls r = shown (run_position (runs ls) r) ++ shown (position_at_place (descent stored_cells 2 (spans (runs ls)) r))

-- a row: the number of the case (3 for M3, 0 for what has no number), what the definitions give, and what the document says
pub record Row : Type 0 where
  pub case : ℕ
  pub given : List ℕ
  pub said : List ℕ

abbrev pub M : ℕ → List ℕ → List ℕ → Row
M n a b = record { case = n; given = a; said = b }

abbrev pub one : ℕ → List ℕ
one n = n ∷ []

abbrev pub rows : List Row
rows =
    -- M1 runs (3,2) (5,3) (10,7); file of 92 bytes
    M 1 (flat_runs (runs sample_l)) (3 ∷ 2 ∷ 5 ∷ 3 ∷ 10 ∷ 7 ∷ [])
    ∷ M 1 (one (length (file 1 0 0))) (one 92)
    -- M2 positions 2 3 5 10; 84 bytes
    ∷ M 2 sample_l (2 ∷ 3 ∷ 5 ∷ 10 ∷ [])
    ∷ M 2 (one (length (file 2 0 0))) (one 84)
    -- M3 bases 2 5, offsets 0 1 0 5; 80 bytes
    ∷ M 3 (bases 2 sample_l) (2 ∷ 5 ∷ [])
    ∷ M 3 (offsets 2 sample_l) (0 ∷ 1 ∷ 0 ∷ 5 ∷ [])
    ∷ M 3 (one (length (file 3 1 2))) (one 80)
    -- M4 jump 2, differences 0 1 2 5; 76 bytes
    ∷ M 4 (jumps 1 sample_l) (one 2)
    ∷ M 4 (differences 1 sample_l) (0 ∷ 1 ∷ 2 ∷ 5 ∷ [])
    ∷ M 4 (one (length (file 4 1 0))) (one 76)
    -- M5 level 0 (4,2) (6,3) | (5,4); above it (6,3) (11,7); 108 bytes
    ∷ M 5 (flat_spans (level 2 (spans (runs sample_l)))) (4 ∷ 2 ∷ 6 ∷ 3 ∷ 5 ∷ 4 ∷ [])
    ∷ M 5 (flat_spans (upper_levels 2 (level 2 (spans (runs sample_l))))) (6 ∷ 3 ∷ 11 ∷ 7 ∷ [])
    ∷ M 5 (one (length (file 5 0 2))) (one 108)
    -- M6 rank at 5 is 2; M7 at 6 and at 11: empty, with 3 and 4 (S-9); M8 rank 3 is at 10; rank 4: 8. In each kind's file, and by the runs
    ∷ M 6 (in_each (λ b. shown (rank_answer b 5))) (in_each (λ b. 0 ∷ 2 ∷ []))
    ∷ M 6 (by_runs sample_l 5) (0 ∷ 2 ∷ 0 ∷ 2 ∷ [])
    ∷ M 7 (in_each (λ b. shown (rank_answer b 6) ++ shown (rank_answer b 11))) (in_each (λ b. 255 ∷ 3 ∷ 255 ∷ 4 ∷ []))
    ∷ M 7 (by_runs sample_l 6 ++ by_runs sample_l 11) (255 ∷ 3 ∷ 255 ∷ 3 ∷ 255 ∷ 4 ∷ 255 ∷ 4 ∷ [])
    ∷ M 8 (in_each (λ b. shown (position_answer b 3) ++ shown (position_answer b 4))) (in_each (λ b. 0 ∷ 10 ∷ 8 ∷ []))
    ∷ M 8 (by_runs_back sample_l 3 ++ by_runs_back sample_l 4) (0 ∷ 10 ∷ 0 ∷ 10 ∷ 8 ∷ 8 ∷ [])
    -- M9 all twelve cells 0, kind 1: 52 bytes; M10 all twelve stored: one run (11,0)
    ∷ M 9 (one (length (layout (setting 1 0 0) (row 12) 0 (replicate 12 0)))) (one 52)
    ∷ M 10 (flat_runs (runs (stored 0 (replicate 12 1)))) (11 ∷ 0 ∷ [])
    -- M11 stored at 2 and 257 only, of 300 cells: differences 0 255; at 2 and 258: differences 0 0, jumps 2 258
    ∷ M 11 (differences 1 (stored 0 (pair 257))) (0 ∷ 255 ∷ [])
    ∷ M 11 (differences 1 (stored 0 (pair 258))) (0 ∷ 0 ∷ [])
    ∷ M 11 (jumps 1 (stored 0 (pair 258))) (2 ∷ 258 ∷ [])
    -- M12 the latter in kind 3, w 1, l 2: 9; with l 1 it is made
    ∷ M 12 (one (make_number (setting 3 1 2) (row 300) 0 (pair 258) 1000)) (one 9)
    ∷ M 12 (one (make_number (setting 3 1 1) (row 300) 0 (pair 258) 1000)) (one 0)
    -- also: b = 64 passes and 65 is 3; one extent of 16,777,216 passes and one more is 4
    ∷ M 0 (one (change_number (file 2 0 0) (setting 5 0 64) 1000)) (one 0)
    ∷ M 0 (one (change_number (file 2 0 0) (setting 5 0 65) 1000)) (one 3)
    ∷ M 0 (one (coordinates_number (row 16777216) 0)) (one 0)
    ∷ M 0 (one (coordinates_number (row 16777217) 0)) (one 4)
    -- the lister's five lines for the file of M2: 2 12 4, 0 2 7, 1 3 9, 2 5 5, 3 10 300
    ∷ M 0 (listing (file 2 0 0))
    (50 ∷ 32 ∷ 49 ∷ 50 ∷ 32 ∷ 52 ∷ 10 ∷ 48 ∷ 32 ∷ 50 ∷ 32 ∷ 55 ∷ 10 ∷ 49 ∷ 32 ∷ 51 ∷ 32 ∷ 57 ∷ 10
    ∷ 50 ∷ 32 ∷ 53 ∷ 32 ∷ 53 ∷ 10 ∷ 51 ∷ 32 ∷ 49 ∷ 48 ∷ 32 ∷ 51 ∷ 48 ∷ 48 ∷ 10 ∷ [])
    ∷ []
