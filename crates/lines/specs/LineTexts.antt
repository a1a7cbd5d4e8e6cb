-- The texts of the sheet's lines, in the shape of the code, from any lent numbers. Assumes nothing.
use Rattle.std.specs.Prelude.{ℕ, ◌-◌, List, [], ◌∷◌, ◌++◌, Bool, false, ◌&&◌, length, get_or}
use Rattle.std.specs.Result.{result_unwrap_or}
use Rattle.reg_matrix.specs.Lists.{ascii, concat_map, filter, any, bit, count}
use Rattle.reg_matrix.specs.Lines.{number, sp, line}
use Rattle.reg_matrix.specs.Questions.{spare_refusal}
use Rattle.reg_matrix.specs.Refused.{or_refused}
use Rattle.entries.specs.Moves.{words}
use Rattle.unit_free.specs.Spare.{free_at, range}
use Rattle.lines.specs.declared.LentSheet.{LentSheet}

-- what is lent: the registers' maps of units, and the table's two slices
pub record Lent : Type 0 where
  pub maps : List ℕ
  pub ends : List ℕ
  pub rests : List ℕ

abbrev pub lent : List ℕ → List ℕ → List ℕ → Lent
lent maps ends rests = record { maps = maps; ends = ends; rests = rests }

abbrev pub sheet_of : LentSheet → Lent
sheet_of s = lent s.maps.now s.table.ends.now s.table.rests.now

-- ---- the lines

-- a unit of one of the first n registers
unfoldable pub is_register_unit : List ℕ → ℕ → ℕ → Bool
is_register_unit maps n u = any (λ r. bit u (get_or maps r 0)) (count 0 n)

unfoldable pub is_spare : Lent → ℕ → ℕ → ℕ → ℕ → Bool
is_spare l n from to u =
    is_register_unit l.maps n u
    && result_unwrap_or
    (or_refused (spare_refusal (length l.ends ∷ length l.rests ∷ []) u (range from to)) (free_at u from to (words l.ends l.rests))) false

-- the spare units from u on
unfoldable pub units_text : (ℕ → Bool) → ℕ → List ℕ
units_text p u = concat_map (λ u. sp (number u)) (filter p (count u (64 - u)))

unfoldable pub spare_text : Lent → ℕ → ℕ → ℕ → List ℕ
spare_text l n from to = line (ascii "spare" ++ units_text (is_spare l n from to) 0)
