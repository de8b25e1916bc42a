-- Each further example holds: one theorem on all of them, by computing. Assumes nothing.
use mathlib.Core.Path.{◌≡◌, refl}
use mathlib.Core.List.{map}
use Rattle.format.specs.Tools.{listed, range}
use Rattle.format.specs.Bytes.{bytes, number, bytes_of, field, numbers_of}
use Rattle.format.specs.Picture.{product, cells, dimensions_allowed, row_order, position_at, coordinates_from, coordinates_at, inside_extents, inside}
use Rattle.format.specs.Stored.{stored_from, stored, kept, rank_at, placed_from, placed}
use Rattle.format.specs.Runs.{run_at, runs_from, runs, spans_from, spans, positions_from, flat_runs, runs_in, run_parts, runs_kind}
use Rattle.format.specs.Positions.{position_parts, positions_kind}
use Rattle.format.specs.BaseOffset.{bases, offsets, offsets_fit, based_positions, based_parts, based_kind}
use Rattle.format.specs.Jumps.{difference, differences_from, differences, jumps_of, jumps, jumped_from, jumped_positions, jump_parts, jumps_kind}
use Rattle.format.specs.PagedRuns.{sums_from, level, lasts_from, lasts, levels_above, upper_levels, entries_above, upper_entries, pairs_from, pairs_of, flat_spans, spans_in, paged_parts, pages_kind}
use Rattle.format.specs.PointedJumps.{jump_ranks_from, pointers, pointed_parts, pointed_kind}
use Rattle.format.specs.Kinds.{codec, kind_allowed, setting_allowed}
use Rattle.format.specs.File.{header, file_from, layout}
use Rattle.format.specs.Accepted.{setting_of, dimensions_of, empty_of, words_count, first_count, second_count, first_offset, second_offset, words_offset, length_field, second_at, words_at, end_at, counts_right, positions_of, kept_of, words_of, body_right, header_number, check_number}
use Rattle.format.specs.Calls.{out_number, setting_number, make_number}
use Rattle.format.specs.Lookups.{cell_in, rank_in, cell_answer, rank_answer}
use Rattle.format.specs.Coordinates.{position_number, coordinates_number}
use Rattle.format.specs.Box.{ordered, box_allowed, box_from, box_positions, box_words, box_number}
use Rattle.format.specs.RankRange.{ranks_number, ranks_from, ranks_bytes}
use Rattle.format.specs.Shorter.{same_picture, shorter_number}
use Rattle.format.specs.Lister.{digits, decimal, line, rank_lines, file_lines, refused_line, listing}
use Rattle.format.specs.Sample.{Row}
use Rattle.format.specs.Examples.{examples}

pub examples_hold : map (λ (r : Row). r.given) examples ≡ map (λ (r : Row). r.said) examples
unfolding row_order position_at coordinates_from coordinates_at inside_extents inside cell_in cell_answer position_number ordered box_allowed box_from box_positions box_words box_number ranks_number ranks_from ranks_bytes same_picture shorter_number listed range bytes number bytes_of field numbers_of product cells dimensions_allowed stored_from stored kept rank_at placed_from placed run_at runs_from runs spans_from spans positions_from flat_runs runs_in run_parts runs_kind position_parts positions_kind bases offsets offsets_fit based_positions based_parts based_kind difference differences_from differences jumps_of jumps jumped_from jumped_positions jump_parts jumps_kind sums_from level lasts_from lasts levels_above upper_levels entries_above upper_entries pairs_from pairs_of flat_spans spans_in paged_parts pages_kind jump_ranks_from pointers pointed_parts pointed_kind codec kind_allowed setting_allowed header file_from layout setting_of dimensions_of empty_of words_count first_count second_count first_offset second_offset words_offset length_field second_at words_at end_at counts_right positions_of kept_of words_of body_right header_number check_number out_number setting_number make_number rank_in rank_answer coordinates_number digits decimal line rank_lines file_lines refused_line listing
examples_hold = refl
