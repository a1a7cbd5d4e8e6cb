-- How a virtual register stands, as a line of the sheet (document 01, "The printed sheet"), and how a run ended, by its word's number.
-- Assumes nothing.
use Rattle.std.specs.Prelude.{ℕ, List, ◌++◌, cond, eqb}
use Rattle.reg_matrix.specs.Lists.{ascii}
use Rattle.reg_matrix.specs.Lines.{number, line}
use Rattle.allocator.specs.declared.Assignment.{Assignment}
use Rattle.allocator.specs.declared.Ending.{Ending}
use Rattle.allocator.specs.declared.Ending.TheVariants.{Done, Spent, TooMany}
use Rattle.allocator.specs.Sheet.{standing}

-- the line of the virtual register v that stands so
unfoldable pub standing_text : ℕ → Assignment → List ℕ
standing_text v a = line (ascii "v " ++ number v ++ standing a)

-- the ending of a word's number, as `ending_number` of run_loop has it: 1 done, 2 spent, 3 toomany
unfoldable pub ending_in : ℕ → Ending
ending_in n = cond (eqb n 1) Done (cond (eqb n 2) Spent TooMany)
