-- One name to unfold all the definitions by, for tables that are computed. Assumes nothing.
use Prim.Native.Nat.{ℕ}
use Rattle.reg_matrix.specs.Lists.{filter, any, all, first, any_pair, insert_by, padded, concat_map, foldl, count, has, ascii, same}
use Rattle.reg_matrix.specs.Refusals.{refusal, short_buffer, range_refusal, ranges_refusal}
use Rattle.reg_matrix.specs.Table.{units_of, fixed_uses, insert, insert_all, fresh_table, on_unit}
use Rattle.reg_matrix.specs.Check.{uses_under, reports_of, check_on, check}
use Rattle.reg_matrix.specs.Assign.{first_use, fixed_index, assign_segment, assign, evict_segment, evict}
use Rattle.reg_matrix.specs.Questions.{check_refusal, ask_check, is_unit_free, spare_refusal, ask_spare}
use Rattle.reg_matrix.specs.Lines.{digits, reservation_text, entry_line, table_lines, report_line}
use Rattle.reg_matrix.specs.Layout.{end_words, rest_words, use_words}

unfoldable pub opened : ℕ
unfolding filter any all first any_pair insert_by padded concat_map foldl count has ascii same refusal short_buffer range_refusal ranges_refusal units_of fixed_uses insert insert_all fresh_table on_unit uses_under reports_of check_on check first_use fixed_index assign_segment assign evict_segment evict check_refusal ask_check is_unit_free spare_refusal ask_spare digits reservation_text entry_line table_lines report_line end_words rest_words use_words
opened = 0
