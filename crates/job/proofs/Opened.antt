-- One name that opens all that loading computes by, so that computed tables are one line. Assumes nothing.
use Prim.Native.Nat.{ℕ}
use lib.Count.{ones_in}
use lib.Ieee.{of_bits, to_bits, nan_bits}
use Rattle.reg_matrix.specs.Lists.{filter, any, all, any_pair, concat_map, foldl, count, same}
use Rattle.reg_matrix.specs.Refusals.{short_buffer}
use Rattle.reg_matrix.specs.Table.{units_of}
use Rattle.job.specs.Model.{virt_reg}
use Rattle.job.specs.Parser.{each, little}
use Rattle.job.specs.Load.{count_of, known, register, class, fixed_fields, last_end, fixed_range, fixed_tests, reservation, hint, range, past_of, segment, hints_in, segments_in, hint_count, segment_count, hints, segments, spill_bits, virt_reg_fields, virt_reg_at, virt_reg_after, job_fields, twin, mixed_set, cut_use, whole_job, load_with}
use Rattle.job.proofs.Hex.{hex, hex_from, is_hex, is_hex_from}

unfoldable pub opened : ℕ
unfolding ones_in of_bits to_bits nan_bits filter any all any_pair concat_map foldl count same short_buffer units_of virt_reg each little count_of known register class fixed_fields last_end fixed_range fixed_tests reservation hint range past_of segment hints_in segments_in hint_count segment_count hints segments spill_bits virt_reg_fields virt_reg_at virt_reg_after job_fields twin mixed_set cut_use whole_job load_with hex hex_from is_hex is_hex_from
opened = 0
