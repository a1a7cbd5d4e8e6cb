-- The answers of the questions that a caller asks by themselves of a loaded stage, as those of Questions.antt. Assumes nothing.
use Rattle.std.specs.Prelude.{ℕ, List, [], ◌∷◌, Bool, length, Result, Ok, Err}
use Rattle.reg_matrix.specs.Questions.{Checked, not_checked, checked, Spared, not_asked, is_spare}
use Rattle.matrix.specs.Walk.{Lent, remaining}
use Rattle.matrix.specs.declared.Cursor.{Cursor}

-- the answer of a check over W: its refusal's number, or what the walk reports from its start
abbrev pub checked_of : Lent → Result Cursor ℕ → Checked
checked_of W (Err n) = not_checked n
checked_of W (Ok c) = checked (remaining W c)

-- the answer of the spare question
abbrev pub spared_of : Result Bool ℕ → Spared
spared_of (Err n) = not_asked n
spared_of (Ok b) = is_spare b

-- the sizes of what a check is lent: the registers' maps, and W
abbrev pub check_sizes : List ℕ → Lent → List ℕ
check_sizes maps W =
    length maps ∷ length W.uses ∷ length W.ends ∷ length W.rests ∷ length W.froms ∷ length W.tos ∷ length W.values ∷ []
