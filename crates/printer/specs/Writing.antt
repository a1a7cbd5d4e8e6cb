-- How much of a sheet was written. Which bytes they were no contract says, as that of the kit's `write` does not. Assumes nothing.
use Rattle.std.specs.Prelude.{ℕ, ◌≤◌, ◌≡◌, List, true, length}
use Rattle.reg_matrix.specs.Lists.{concat_map}
use Rattle.listing.specs.declared.Listing.{Listing}
use Rattle.listing.specs.Walk.{lines_from}
use Rattle.lines.specs.LineTexts.{Lent}
use Rattle.record_words.specs.Words.{records_in}
use Rattle.printer.specs.declared.Written.{Written}

-- n bytes were to be written: the writes that succeeded were of all of them where the answer says so, and never of more
pub record WrittenOf (n : ℕ) (r : Written) : Type 0 where
  pub all : r.whole ≡ true → r.bytes ≡ n
  pub never_more : r.bytes ≤ n

-- how many bytes the lines from a position on have
abbrev pub lines_size : Listing → Lent → List ℕ → ℕ
lines_size c l words = length (concat_map (λ x. x) (lines_from c (records_in words) l))
