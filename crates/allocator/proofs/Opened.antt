-- One name that opens all the rules, so that computed tables are one line. Assumes nothing.
use Prim.Native.Nat.{ℕ}
use lib.Count.{ones_in}
use lib.Ieee.{add, lt, eq, of_bits, to_bits, nan_bits}
use Rattle.reg_matrix.specs.Lists.{filter, any, all, first, any_pair, insert_by, concat_map, foldl, count, has, ascii, same, padded}
use Rattle.reg_matrix.specs.Refusals.{refusal, short_buffer, range_refusal, ranges_refusal}
use Rattle.reg_matrix.specs.Table.{units_of, fixed_uses, insert, insert_all, fresh_table, on_unit}
use Rattle.reg_matrix.specs.Check.{uses_under, reports_of, check_on, check}
use Rattle.reg_matrix.specs.Assign.{first_use, fixed_index, assign_segment, assign, evict_segment, evict}
use Rattle.reg_matrix.specs.Questions.{check_refusal, ask_check, is_unit_free, spare_refusal, ask_spare}
use Rattle.reg_matrix.specs.Lines.{digits, reservation_text, entry_line, table_lines, report_line}
use Rattle.job.specs.Model.{virt_reg}
use Rattle.job.specs.Parser.{each, little}
use Rattle.job.specs.Load.{count_of, known, register, class, fixed_fields, last_end, fixed_range, fixed_tests, reservation, hint, range, past_of, segment, hints_in, segments_in, hint_count, segment_count, hints, segments, spill_bits, virt_reg_fields, virt_reg_at, virt_reg_after, job_fields, twin, mixed_set, cut_use, whole_job, load_with}
use Rattle.allocator.specs.State.{fresh_state, check_of, record_of, records, give, lose, evict_number, requeue, leave}
use Rattle.allocator.specs.Order.{add_hint, by_weight, has_reg, hinted_order, order}
use Rattle.allocator.specs.Queue.{encode, next_from}
use Rattle.allocator.specs.Evict.{ruled_out, holders, firsts, evictees, weights, greatest_spill, cost_of, better, try_evict, preferred}
use Rattle.allocator.specs.Dequeue.{is_clear, decide, evict_all, carry_out, dequeue}
use Rattle.allocator.specs.Run.{run_from, run}
use Rattle.allocator.specs.Calls.{load, named, refusal_of, carried_out, after, answer_of, answers, after_all}
use Rattle.allocator.specs.Holding.{by_run, by_call, by_calls, holds}
use Rattle.allocator.specs.Demand.{holders_after, placements}
use Rattle.allocator.specs.Sheet.{standing_line, register_units, spare_line, sheet, printed}
use Rattle.allocator.specs.Script.{script_call, insert_key, queue_keys, last_texts, state_lines, said_by, said_by_all, transcript_from, transcript}

unfoldable pub opened : ℕ
unfolding ones_in add lt eq of_bits to_bits nan_bits filter any all first any_pair insert_by concat_map foldl count has ascii same padded refusal short_buffer range_refusal ranges_refusal units_of fixed_uses insert insert_all fresh_table on_unit uses_under reports_of check_on check first_use fixed_index assign_segment assign evict_segment evict check_refusal ask_check is_unit_free spare_refusal ask_spare digits reservation_text entry_line table_lines report_line virt_reg each little count_of known register class fixed_fields last_end fixed_range fixed_tests reservation hint range past_of segment hints_in segments_in hint_count segment_count hints segments spill_bits virt_reg_fields virt_reg_at virt_reg_after job_fields twin mixed_set cut_use whole_job load_with fresh_state check_of record_of records give lose evict_number requeue leave add_hint by_weight has_reg hinted_order order encode next_from ruled_out holders firsts evictees weights greatest_spill cost_of better try_evict preferred is_clear decide evict_all carry_out dequeue run_from run load named refusal_of carried_out after answer_of answers after_all by_run by_call by_calls holds holders_after placements standing_line register_units spare_line sheet printed script_call insert_key queue_keys last_texts state_lines said_by said_by_all transcript_from transcript
opened = 0
