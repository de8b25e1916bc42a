-- The bounds of what is allowed, each from both sides, and the order of the numbers, as rows. Assumes nothing.
use Rattle.std.specs.Prelude.{ℕ, List, [], ◌∷◌, ◌++◌, length, replicate, set}
use Rattle.format.specs.declared.Setting.{Setting}
use Rattle.format.specs.Bytes.{bytes_of}
use Rattle.format.specs.Codec.{Parts}
use Rattle.format.specs.Runs.{runs, spans}
use Rattle.format.specs.PagedRuns.{paged_parts}
use Rattle.format.specs.Kinds.{codec}
use Rattle.format.specs.Calls.{make_number, write_number, change_number, expand_number}
use Rattle.format.specs.Box.{box_number}
use Rattle.format.specs.Shorter.{shorter_number}
use Rattle.format.specs.Sample.{setting, row, sample_l, file, pair, by_runs, by_runs_back, Row, M, one}
use Rattle.format.specs.Examples.{grid_file, at, damaged, claimed, claimed_runs}

-- what box gives in 3 by 4, with room for all words
abbrev boxed : List ℕ → List ℕ → ℕ
boxed low high = box_number grid_file low high 12

-- parts of c1 and c2 entries with these bytes
abbrev pub parts : ℕ → List ℕ → ℕ → List ℕ → Parts
parts c1 b1 c2 b2 = record { first_count = c1; first = b1; second_count = c2; second = b2 }

-- what check gives of a file without words that has c1 and c2 entries, all 0, and all else in agreement; and that for each kind
abbrev wordless : ℕ → ℕ → Setting → ℕ
wordless c1 c2 s = claimed s (parts c1 (replicate ((codec s).first_bytes c1 c2) 0) c2 (replicate ((codec s).second_bytes c1 c2) 0)) 0

abbrev wordless_each : ℕ → ℕ → List ℕ
wordless_each c1 c2 =
    wordless c1 c2 (setting 1 0 0) ∷ wordless c1 c2 (setting 2 0 0) ∷ wordless c1 c2 (setting 3 1 2) ∷ wordless c1 c2 (setting 4 1 0) ∷ wordless c1 c2 (setting 5 0 2)
    ∷ wordless c1 c2 (setting 6 1 2) ∷ []

-- the same in kind 1, of v pairs, with four words; in kind 4, of jumps and differences, with a word for each difference; in kind 5, of the runs of
-- positions, with n words
abbrev claimed_pairs : ℕ → List ℕ → ℕ
claimed_pairs v ns = claimed (setting 1 0 0) (parts v (bytes_of 4 ns) 0 []) 4

abbrev claimed_jumps : List ℕ → List ℕ → ℕ
claimed_jumps js ds = claimed (setting 4 1 0) (parts (length js) (bytes_of 4 js) (length ds) (bytes_of 1 ds)) (length ds)

abbrev claimed_pages : List ℕ → ℕ → ℕ
claimed_pages ls n = claimed (setting 5 0 2) (paged_parts 2 (spans (runs ls))) n

-- three cells, each a run of its own
abbrev alone : List ℕ
alone = 0 ∷ 2 ∷ 4 ∷ []

-- what a change of the file of M2 gives, with room enough
abbrev pub changed : ℕ → ℕ → ℕ → ℕ
changed k w l = change_number (file 2 0 0) (setting k w l) 1000

-- what make gives of n words for an extent of e
abbrev made : Setting → ℕ → ℕ → ℕ → ℕ
made s e n room = make_number s (row e) 0 (replicate n 0) room

-- the file of M2 with E among its words
abbrev forged : List ℕ
forged = set (file 2 0 0) 68 0

abbrev pub edges : List Row
edges =
    -- a box with its high corner outside an extent, low inside; with its low corner outside, high inside; the whole picture
    M 0 (boxed (at 1 1) (at 3 2) ∷ boxed (at 1 1) (at 2 4) ∷ []) (8 ∷ 8 ∷ [])
    ∷ M 0 (boxed (at 3 1) (at 2 2) ∷ boxed (at 1 4) (at 2 2) ∷ boxed (at 0 0) (at 2 3) ∷ []) (8 ∷ 8 ∷ 0 ∷ [])
    -- a coordinate past the dimension count that is not 0: in high, in both corners, in low
    ∷ M 0 (boxed (at 1 1) (2 ∷ 2 ∷ 1 ∷ 0 ∷ []) ∷ boxed (1 ∷ 1 ∷ 0 ∷ 1 ∷ []) (2 ∷ 2 ∷ 0 ∷ 1 ∷ []) ∷ boxed (1 ∷ 1 ∷ 1 ∷ 0 ∷ []) (at 2 2) ∷ []) (8 ∷ 8 ∷ 8 ∷ [])
    -- a false offset of the first part, and of the words
    ∷ M 0 (damaged 36 51 ∷ damaged 36 53 ∷ damaged 44 67 ∷ damaged 44 69 ∷ []) (5 ∷ 5 ∷ 5 ∷ 5 ∷ [])
    -- in each kind, for no words: no entries; one in the first part; one in the second
    ∷ M 0 (wordless_each 0 0) (0 ∷ 0 ∷ 0 ∷ 0 ∷ 0 ∷ 0 ∷ [])
    ∷ M 0 (wordless_each 1 0) (5 ∷ 5 ∷ 5 ∷ 5 ∷ 5 ∷ 5 ∷ [])
    ∷ M 0 (wordless_each 0 1) (5 ∷ 5 ∷ 5 ∷ 5 ∷ 5 ∷ 5 ∷ [])
    -- three runs for two words, and for three: that hold four cells, and three
    ∷ M 0 (claimed_runs sample_l 2 ∷ claimed_runs sample_l 3 ∷ claimed_runs alone 3 ∷ []) (5 ∷ 6 ∷ 0 ∷ [])
    ∷ M 0 (claimed_pages sample_l 2 ∷ claimed_pages sample_l 3 ∷ claimed_pages alone 3 ∷ []) (5 ∷ 6 ∷ 0 ∷ [])
    -- the runs of M1 with a pair for the trailing empty cell; with their first run in two
    ∷ M 0 (claimed_pairs 4 (3 ∷ 2 ∷ 5 ∷ 3 ∷ 10 ∷ 7 ∷ 11 ∷ 8 ∷ []) ∷ claimed_pairs 4 (2 ∷ 2 ∷ 3 ∷ 2 ∷ 5 ∷ 3 ∷ 10 ∷ 7 ∷ []) ∷ []) (6 ∷ 6 ∷ [])
    -- position 0 is the first cell of its run, and rank 0
    ∷ M 0 (by_runs alone 0 ++ by_runs_back alone 0) (0 ∷ 0 ∷ 0 ∷ 0 ∷ 0 ∷ 0 ∷ 0 ∷ 0 ∷ [])
    -- two jumps for one word, and for two, where the difference fits; one jump and none for one word
    ∷ M 0 (claimed_jumps (5 ∷ 7 ∷ []) (0 ∷ []) ∷ claimed_jumps (5 ∷ 7 ∷ []) (0 ∷ 0 ∷ []) ∷ []) (5 ∷ 6 ∷ [])
    ∷ M 0 (claimed_jumps (5 ∷ []) (0 ∷ []) ∷ claimed_jumps [] (0 ∷ []) ∷ []) (0 ∷ 6 ∷ [])
    -- the kinds are 1 to 6
    ∷ M 0 (changed 0 0 0 ∷ changed 7 0 0 ∷ changed 257 0 0 ∷ []) (2 ∷ 2 ∷ 2 ∷ [])
    -- kinds 1 and 2: width and step 0
    ∷ M 0 (changed 1 1 0 ∷ changed 1 0 1 ∷ changed 2 1 0 ∷ changed 2 0 1 ∷ []) (3 ∷ 3 ∷ 3 ∷ 3 ∷ [])
    -- kind 3: width 1 or 2, step 1 to 255
    ∷ M 0 (changed 3 1 255 ∷ changed 3 2 1 ∷ []) (0 ∷ 0 ∷ [])
    ∷ M 0 (changed 3 1 256 ∷ changed 3 1 0 ∷ changed 3 0 1 ∷ changed 3 3 1 ∷ changed 3 257 1 ∷ []) (3 ∷ 3 ∷ 3 ∷ 3 ∷ 3 ∷ [])
    -- kind 4: width 1 or 2, step 0
    ∷ M 0 (changed 4 1 0 ∷ changed 4 2 0 ∷ changed 4 0 0 ∷ changed 4 3 0 ∷ changed 4 1 1 ∷ []) (0 ∷ 0 ∷ 3 ∷ 3 ∷ 3 ∷ [])
    -- kind 5: width 0, step 2 to 64 (64 and 65 stand in the sample's rows)
    ∷ M 0 (changed 5 0 2 ∷ changed 5 0 1 ∷ changed 5 1 2 ∷ []) (0 ∷ 3 ∷ 3 ∷ [])
    -- make: kind, width, extent, number of words and room are false, then one after the other is right
    ∷ M 0 (made (setting 9 1 0) 0 1 0 ∷ made (setting 1 1 0) 0 1 0 ∷ made (setting 1 0 0) 0 1 0 ∷ []) (2 ∷ 3 ∷ 4 ∷ [])
    ∷ M 0 (made (setting 1 0 0) 1 2 0 ∷ made (setting 1 0 0) 1 1 0 ∷ made (setting 1 0 0) 1 1 52 ∷ []) (7 ∷ 10 ∷ 0 ∷ [])
    -- the unfit picture of M12, with a cell less in its dimensions
    ∷ M 0 (one (make_number (setting 3 1 2) (row 299) 0 (pair 258) 0)) (one 7)
    -- a destination as long as the result, and one shorter: expand, a write that stores one cell more, a change to kind 1
    ∷ M 0 (expand_number (file 2 0 0) 12 ∷ expand_number (file 2 0 0) 11 ∷ []) (0 ∷ 10 ∷ [])
    ∷ M 0 (write_number (file 2 0 0) 11 1 92 ∷ write_number (file 2 0 0) 11 1 91 ∷ write_number (file 2 0 0) 12 1 91 ∷ []) (0 ∷ 10 ∷ 8 ∷ [])
    ∷ M 0 (change_number (file 2 0 0) (setting 1 0 0) 92 ∷ change_number (file 2 0 0) (setting 1 0 0) 91 ∷ []) (0 ∷ 10 ∷ [])
    -- the file's number before kind 9; that of the first file before that of the second
    ∷ M 0 (one (change_number forged (setting 9 0 0) 0)) (one 6)
    ∷ M 0 (shorter_number forged [] ∷ shorter_number (file 2 0 0) [] ∷ []) (6 ∷ 1 ∷ [])
    -- the same twelve stored words: with another E, which none of them is; in 4 by 3
    ∷ M 0 (shorter_number grid_file (set grid_file 20 13) ∷ shorter_number grid_file (set (set grid_file 4 4) 8 3) ∷ []) (11 ∷ 11 ∷ [])
    ∷ []
