-- A short list of writes and changes on the sample's dimensions, by computing: what the table gives, and what a write and a change put out.
-- The claim about every list is demand 3, proved in the crate `laws`. Assumes nothing.
use Prim.Native.Nat.{ℕ}
use mathlib.Core.Path.{◌≡◌, refl}
use mathlib.Core.List.{List, [], ◌∷◌}
use lib.ListN.{set, replicate}
use Rattle.format.specs.Tools.{listed, range}
use Rattle.format.specs.Bytes.{bytes, number, bytes_of, field, numbers_of}
use Rattle.format.specs.Picture.{product, cells, dimensions_allowed}
use Rattle.format.specs.Stored.{stored_from, stored, kept, placed_from, placed}
use Rattle.format.specs.Runs.{run_at, runs_from, runs, flat_runs, run_parts, runs_kind}
use Rattle.format.specs.Positions.{position_parts, positions_kind}
use Rattle.format.specs.BaseOffset.{bases, offsets, offsets_fit, based_parts, based_kind}
use Rattle.format.specs.Jumps.{difference, differences_from, differences, jumps_of, jumps, jump_parts, jumps_kind}
use Rattle.format.specs.Kinds.{codec, kind_allowed, setting_allowed}
use Rattle.format.specs.File.{header, file_from, layout}
use Rattle.format.specs.Accepted.{setting_of, dimensions_of, empty_of, words_count, first_count, second_count, first_offset, second_offset, words_offset, length_field, second_at, words_at, positions_of, kept_of, words_of}
use Rattle.format.specs.Calls.{out_number, setting_number, make_number, write_signal, change_signal, written_file, changed_file}
use Rattle.format.specs.Table.{Request, write, change, Fed, new_table, table_file, table_number, table_next, table_run, table_numbers}
use Rattle.format.specs.Sample.{setting, row, sample, file, pair}

abbrev call : Request → ℕ → Fed
call q room = record { request = q; room = room }

-- made in kind 4: two writes, one past the cells, one of E, kind 9, kind 3, one without room, and one more write
abbrev calls : List Fed
calls =
    call (write 2 7) 100
    ∷ call (write 3 9) 100
    ∷ call (write 12 1) 100
    ∷ call (write 3 0) 100
    ∷ call (change (setting 9 0 0)) 100
    ∷ call (change (setting 3 1 2)) 100
    ∷ call (write 2 8) 10
    ∷ call (write 5 5) 100
    ∷ []

abbrev words : List ℕ
words = set (set (replicate 12 0) 2 7) 5 5

pub list_numbers : table_numbers (row 12) 0 (new_table (row 12) 0 (setting 4 1 0)) calls ≡ 0 ∷ 0 ∷ 8 ∷ 0 ∷ 2 ∷ 0 ∷ 10 ∷ 0 ∷ []
unfolding listed range bytes bytes_of product cells stored_from stored kept bases offsets offsets_fit based_parts based_kind difference differences_from differences jumps_of jumps jump_parts jumps_kind codec kind_allowed setting_allowed header file_from layout out_number setting_number write_signal change_signal new_table table_number table_next table_run table_numbers
list_numbers = refl

pub list_file : table_file (row 12) 0 (table_run (row 12) 0 (new_table (row 12) 0 (setting 4 1 0)) calls) ≡ layout (setting 3 1 2) (row 12) 0 words
unfolding listed range bytes bytes_of product cells stored_from stored kept bases offsets offsets_fit based_parts based_kind difference differences_from differences jumps_of jumps jump_parts jumps_kind codec kind_allowed setting_allowed header file_from layout out_number setting_number write_signal change_signal new_table table_file table_number table_next table_run
list_file = refl

-- the header's N is the number of stored cells
pub file-counts : words_count (file 2 0 0) ≡ 4
unfolding bytes number bytes_of field stored_from stored kept position_parts positions_kind codec header file_from layout words_count
file-counts = refl

-- a write in the file of M2 puts out the file of the words after it; writing E empties the cell
pub write_puts : written_file (file 2 0 0) 0 4 ≡ layout (setting 2 0 0) (row 12) 0 (set sample 0 4)
unfolding bytes number bytes_of field numbers_of product cells stored_from stored kept placed_from placed position_parts positions_kind codec header file_from layout setting_of dimensions_of empty_of words_count first_count second_count first_offset second_offset words_offset length_field second_at words_at positions_of kept_of words_of written_file
write_puts = refl

pub write_empties : positions_of (written_file (file 2 0 0) 3 0) ≡ 2 ∷ 5 ∷ 10 ∷ []
unfolding bytes number bytes_of field numbers_of product cells stored_from stored kept placed_from placed position_parts positions_kind codec header file_from layout setting_of dimensions_of empty_of words_count first_count second_count first_offset second_offset words_offset length_field second_at words_at positions_of kept_of words_of written_file
write_empties = refl

-- a change of the file of M2 to kind 1 puts out the file of M1
pub change_puts : changed_file (file 2 0 0) (setting 1 0 0) ≡ file 1 0 0
unfolding bytes number bytes_of field numbers_of product cells stored_from stored kept placed_from placed run_at runs_from runs flat_runs run_parts runs_kind position_parts positions_kind codec header file_from layout setting_of dimensions_of empty_of words_count first_count second_count first_offset second_offset words_offset length_field second_at words_at positions_of kept_of words_of changed_file
change_puts = refl

-- an unfit result has no length: 9 with any destination
pub unfit-before-small : make_number (setting 3 1 2) (row 300) 0 (pair 258) 0 ≡ 9
unfolding listed product cells dimensions_allowed stored_from stored bases offsets offsets_fit based_kind codec kind_allowed setting_allowed out_number setting_number make_number
unfit-before-small = refl
