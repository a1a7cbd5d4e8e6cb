-- The printed sheet, as bytes (document 01, "The printed sheet"). Assumes nothing.
use Rattle.std.specs.Prelude.{ℕ, List, [], ◌++◌, length}
use Rattle.std.proofs.Math.Option.{Option, none, some}
use Rattle.reg_matrix.specs.Lists.{ascii, concat_map, filter, any, bit, count}
use Rattle.reg_matrix.specs.Lines.{number, sp, line, refused_line, table_lines}
use Rattle.reg_matrix.specs.Table.{Table}
use Rattle.reg_matrix.specs.Questions.{is_unit_free}
use Rattle.reg_matrix.specs.declared.ValueSegment.{ValueSegment}
use Rattle.job.specs.Model.{Job}
use Rattle.job.specs.Load.{Loaded, not_loaded, loaded}
use Rattle.allocator.specs.State.{State, Assignment, Assigned, Unassigned, Dead, record_of, fresh_state}
use Rattle.allocator.specs.Run.{Ending, Done, Spent, TooMany, Ran, run}
use Rattle.allocator.specs.Layout.{stage_limits}
use Rattle.allocator.specs.Calls.{load}

-- 01, "What the stage answers": the run's word
abbrev pub end_word : Ending → List ℕ
end_word Done = ascii "done"
end_word Spent = ascii "spent"
end_word TooMany = ascii "toomany"

-- 01, "The printed sheet": `end WORD DEQUEUES`
abbrev pub end_line : Ending → ℕ → List ℕ
end_line w n = line (ascii "end " ++ end_word w ++ sp (number n))

-- 01, "The printed sheet": `v N reg R`, `v N left` or, unassigned, `v N wait`
abbrev pub standing : Assignment → List ℕ
standing (Assigned f r w) = ascii " reg " ++ number r
standing (Unassigned f) = ascii " wait"
standing Dead = ascii " left"

-- 01, "The printed sheet": the line of the virtual register v
unfoldable pub standing_line : State → ℕ → List ℕ
standing_line s v = line (ascii "v " ++ number v ++ standing (record_of s v))

-- 01, "The printed sheet": the registers' units, ascending
unfoldable pub register_units : Job → List ℕ
register_units j = filter (λ u. any (bit u) j.regs) (count 0 64)

-- 01, "The printed sheet": "with a probe range, `spare` and, ascending, the spare ones of the registers' units"
unfoldable pub spare_line : Job → Table → Option ValueSegment → List ℕ
spare_line j t none = []
spare_line j t (some p) = line (ascii "spare" ++ concat_map (λ u. sp (number u)) (filter (λ u. is_unit_free t u p) (register_units j)))

-- 01, "The printed sheet": all lines, in order
unfoldable pub sheet : Job → Ran → List ℕ
sheet j r =
    end_line r.ending r.dequeues
    ++ concat_map (standing_line r.state) (count 0 (length j.virt_regs))
    ++ table_lines r.state.table
    ++ spare_line j r.state.table j.probe

-- 01, "The printed sheet": "A refusal prints `refused N` alone."
abbrev pub sheet_of : Loaded → List ℕ
sheet_of (not_loaded n) = refused_line n
sheet_of (loaded j) = sheet j (run j j.budget (fresh_state j))

-- 01, "The printed sheet": what the program prints for a job's bytes
unfoldable pub printed : List ℕ → List ℕ
printed bytes = sheet_of (load stage_limits bytes)
