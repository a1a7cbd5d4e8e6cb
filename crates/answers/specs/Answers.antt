-- What calls and spare questions answer, by what the code is given. Assumes nothing.
use Rattle.std.specs.Prelude.{ℕ, List, Bool, true, false, cond, eqb, Result, Ok, Err}
use Rattle.reg_matrix.specs.Lists.{ascii}
use Rattle.reg_matrix.specs.Lines.{line, refused_line}
use Rattle.allocator.specs.Sheet.{end_line}
use Rattle.result_lines.specs.ResultTexts.{ending_in}

-- what a call answers, by its refusal's number or 0, its word's number or 0, and its value
unfoldable pub answer_text : ℕ → ℕ → ℕ → List ℕ
answer_text n w x = cond (eqb n 0) (cond (eqb w 0) (line (ascii "ok")) (end_line (ending_in w) x)) (refused_line n)

-- what a spare question answers
unfoldable pub spared_text : Result Bool ℕ → List ℕ
spared_text (Ok true) = line (ascii "spare")
spared_text (Ok false) = line (ascii "busy")
spared_text (Err n) = refused_line n
