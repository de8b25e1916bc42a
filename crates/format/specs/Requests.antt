-- Document 02's requests, in its order: their numbers, bounds and examples, as rows. Assumes nothing.
use Rattle.std.specs.Prelude.{ℕ, List, [], ◌∷◌, ◌++◌, length, drop, replicate, set}
use Rattle.format.specs.Bytes.{bytes_of, numbers_of}
use Rattle.format.specs.Stored.{stored}
use Rattle.format.specs.Jumps.{differences, jumps}
use Rattle.format.specs.PointedJumps.{pointers}
use Rattle.format.specs.File.{layout}
use Rattle.format.specs.Accepted.{positions_of, check_number}
use Rattle.format.specs.Calls.{written_file, changed_file}
use Rattle.format.specs.Shorter.{shorter_number}
use Rattle.format.specs.Lookups.{rank_in, rank_answer}
use Rattle.format.specs.Opened.{via_opening}
use Rattle.format.specs.Sample.{setting, row, sample_l, file, in_each, pair, shown, by_runs, Row, M, one}
use Rattle.format.specs.Examples.{claimed}
use Rattle.format.specs.Edges.{parts, changed}

-- 300 cells, stored at 0, 2 and 258 only
abbrev three : List ℕ
three = set (pair 258) 0 4

-- the pointers of 300 cells in width 1 and step n, and their file
abbrev pointers_of : ℕ → List ℕ → List ℕ
pointers_of n ws = pointers n (differences 1 (stored 0 ws))

abbrev pointed : ℕ → List ℕ → List ℕ
pointed n ws = layout (setting 6 1 n) (row 300) 0 ws

-- what check gives of a file in kind 6, step 1, of jumps, differences and pointers, with a word for each difference
abbrev claimed_pointers : List ℕ → List ℕ → List ℕ → ℕ
claimed_pointers js ds ps = claimed (setting 6 1 1) (parts (length js) (bytes_of 4 js) (length ds) (bytes_of 1 ds ++ bytes_of 4 ps)) (length ds)

abbrev pub requests : List Row
requests =
    -- S-7, the sample in kind 6: jump 2, differences 0 1 2 5, pointer 0, the words; counts 1 and 4, offsets 52, 56 and 64; 80 bytes; with step 2 the same
    M 0 (drop 52 (file 6 1 1))
    (2 ∷ 0 ∷ 0 ∷ 0 ∷ 0 ∷ 1 ∷ 2 ∷ 5 ∷ 0 ∷ 0 ∷ 0 ∷ 0 ∷ 7 ∷ 0 ∷ 0 ∷ 0 ∷ 9 ∷ 0 ∷ 0 ∷ 0 ∷ 5 ∷ 0 ∷ 0 ∷ 0 ∷ 44 ∷ 1 ∷ 0 ∷ 0 ∷ [])
    ∷ M 0 (numbers_of 4 6 (drop 28 (file 6 1 1))) (1 ∷ 4 ∷ 52 ∷ 56 ∷ 64 ∷ 80 ∷ [])
    ∷ M 0 (length (file 6 1 1) ∷ length (file 6 1 2) ∷ []) (80 ∷ 80 ∷ [])
    ∷ M 0 (drop 4 (file 6 1 2)) (drop 4 (file 6 1 1))
    -- stored at 2 and 258 of 300 cells, jumps both: a pointer for each with step 1, for the first alone with step 2
    ∷ M 0 (pointers_of 1 (pair 258)) (0 ∷ 1 ∷ [])
    ∷ M 0 (pointers_of 2 (pair 258)) (one 0)
    ∷ M 0 (length (pointed 1 (pair 258)) ∷ length (pointed 2 (pair 258)) ∷ []) (78 ∷ 74 ∷ [])
    ∷ M 0 (check_number (pointed 1 (pair 258)) ∷ check_number (pointed 2 (pair 258)) ∷ []) (0 ∷ 0 ∷ [])
    ∷ M 0 (positions_of (pointed 1 (pair 258)) ++ positions_of (pointed 2 (pair 258))) (2 ∷ 258 ∷ 2 ∷ 258 ∷ [])
    -- at 0 too: jumps 0 and 258, of ranks 0 and 2; a write and a change put out these pointers
    ∷ M 0 (jumps 1 (stored 0 three)) (0 ∷ 258 ∷ [])
    ∷ M 0 (pointers_of 1 three) (0 ∷ 2 ∷ [])
    ∷ M 0 (written_file (pointed 1 (pair 258)) 0 4) (pointed 1 three)
    ∷ M 0 (changed_file (pointed 2 three) (setting 6 1 1)) (pointed 1 three)
    -- all twelve cells empty: neither jumps nor pointers
    ∷ M 0 (one (length (layout (setting 6 1 1) (row 12) 0 (replicate 12 0)))) (one 52)
    -- one picture in kinds 6 and 4
    ∷ M 0 (one (shorter_number (file 6 1 1) (file 4 1 0))) (one 0)
    -- a false pointer: the only one; the second of two
    ∷ M 0 (check_number (set (file 6 1 1) 60 1) ∷ check_number (set (pointed 1 (pair 258)) 66 0) ∷ []) (6 ∷ 6 ∷ [])
    -- kind 4's file under kind 6 and step 1: a words' offset without the pointers
    ∷ M 0 (one (check_number (set (set (file 4 1 0) 0 6) 3 1))) (one 5)
    -- two jumps for one word, and for two, where the difference fits; one jump and none for one word; one jump with a false pointer
    ∷ M 0 (claimed_pointers (5 ∷ 7 ∷ []) (0 ∷ []) (0 ∷ 1 ∷ []) ∷ claimed_pointers (5 ∷ 7 ∷ []) (0 ∷ 0 ∷ []) (0 ∷ 1 ∷ []) ∷ []) (5 ∷ 6 ∷ [])
    ∷ M 0 (claimed_pointers (5 ∷ []) (0 ∷ []) (0 ∷ []) ∷ claimed_pointers [] (0 ∷ []) [] ∷ claimed_pointers (5 ∷ []) (0 ∷ []) (1 ∷ []) ∷ []) (0 ∷ 6 ∷ 6 ∷ [])
    -- 2 begins at kind 7; kind 6: width 1 or 2, step 1 to 255
    ∷ M 0 (changed 7 1 1 ∷ check_number (set (file 6 1 1) 0 7) ∷ []) (2 ∷ 2 ∷ [])
    ∷ M 0 (changed 6 1 1 ∷ changed 6 2 1 ∷ changed 6 1 255 ∷ []) (0 ∷ 0 ∷ 0 ∷ [])
    ∷ M 0 (changed 6 1 0 ∷ changed 6 1 256 ∷ changed 6 0 1 ∷ changed 6 3 1 ∷ changed 6 257 1 ∷ []) (3 ∷ 3 ∷ 3 ∷ 3 ∷ 3 ∷ [])
    -- S-9, the sample: 6 gives empty with 3, 11 empty with 4, 0 empty with 0; in each kind's file, through an opening, and by the runs
    ∷ M 0 (in_each (λ b. shown (rank_answer b 6) ++ shown (rank_answer b 11) ++ shown (rank_answer b 0))) (in_each (λ b. 255 ∷ 3 ∷ 255 ∷ 4 ∷ 255 ∷ 0 ∷ []))
    ∷ M 0 (in_each (λ b. shown (via_opening (check_number b) (rank_answer b 6)))) (in_each (λ b. 255 ∷ 3 ∷ []))
    ∷ M 0 (by_runs sample_l 6 ++ by_runs sample_l 11 ++ by_runs sample_l 0) (255 ∷ 3 ∷ 255 ∷ 3 ∷ 255 ∷ 4 ∷ 255 ∷ 4 ∷ 255 ∷ 0 ∷ 255 ∷ 0 ∷ [])
    -- between the runs at 3 and 5: 2; a rank and a refusal are told as before
    ∷ M 0 (shown (rank_answer (file 1 0 0) 4) ++ shown (rank_answer (file 1 0 0) 5) ++ shown (rank_answer (file 1 0 0) 12)) (255 ∷ 2 ∷ 0 ∷ 2 ∷ one 8)
    -- all twelve cells empty, by the runs too; all stored but the last
    ∷ M 0 (shown (rank_in 0 (replicate 12 0) 11) ++ by_runs [] 11) (255 ∷ 0 ∷ 255 ∷ 0 ∷ 255 ∷ 0 ∷ [])
    ∷ M 0 (shown (rank_in 0 (set (replicate 12 1) 11 0) 11)) (255 ∷ 11 ∷ [])
    ∷ []
