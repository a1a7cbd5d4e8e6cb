-- The whole printed sheet in one buffer (document 01, "The printed sheet"). Assumes nothing.
use Rattle.std.specs.Prelude.{ℕ, ◌+◌, ◌≡◌, List, false, length, Result}
use Rattle.std.proofs.lemmas.List.Edits.{sets}
use Rattle.reg_matrix.specs.Lists.{concat_map}
use Rattle.reg_matrix.specs.Refusals.{short_buffer}
use Rattle.job.specs.Layout.{JobSlices}
use Rattle.allocator.specs.Layout.{StateBuffers}
use Rattle.allocator.specs.Sheet.{sheet_of, printed}
use Rattle.listing.specs.declared.Listing.{Listing}
use Rattle.lines.specs.LineTexts.{Lent}
use Rattle.listing.specs.Walk.{lines_from}
use Rattle.record_words.specs.Words.{records_in}
use Rattle.sheets.specs.Printing.{sheet_limits, sheet_sizes, loaded_with, shown, Begun}

-- of a buffer as it was, a place and a text: how it is afterwards, with as much of the text from that place on as it has room for, and which place
-- comes behind the whole text
pub record Appended (s : List ℕ) (at : ℕ) (text : List ℕ) (t : List ℕ) (next : ℕ) : Type 0 where
  pub line : t ≡ sets s at text
  pub place : next ≡ at + length text

-- the lines from a position on, one after another
abbrev pub lines_text : Listing → Lent → List ℕ → List ℕ
lines_text c l words = concat_map (λ x. x) (lines_from c (records_in words) l)

-- they stand in the buffer, which was out and is out' afterwards, and have n bytes
pub record LinesPrinted (c : Listing) (l : Lent) (words out out' : List ℕ) (n : ℕ) : Type 0 where
  pub size : n ≡ length (lines_text c l words)
  pub stored : out' ≡ sets out 0 (lines_text c l words)

-- what is to be printed stands in the buffer, and has n bytes
pub record ShownPrinted (p : Result Listing ℕ) (l : Lent) (words out out' : List ℕ) (n : ℕ) : Type 0 where
  pub size : n ≡ length (shown p l words)
  pub stored : out' ≡ sets out 0 (shown p l words)

-- Of any bytes, with B, S and the words W lent: what is printed, and what stands in the buffers afterwards
pub record Printed (bytes : List ℕ) (B : JobSlices) (S : StateBuffers) (W : List ℕ) (B' : JobSlices) (S' : StateBuffers) (W' out out' : List ℕ) (n : ℕ) : Type 0 where
  pub answer : Result Listing ℕ
  pub begun : Begun bytes B S W B' S' W' answer
  -- with the buffers that were lent
  pub size : n ≡ length (sheet_of (loaded_with B S W bytes))
  pub stored : out' ≡ sets out 0 (sheet_of (loaded_with B S W bytes))
  -- and with no short buffer
  pub printed_size : short_buffer sheet_limits (sheet_sizes B S W) ≡ false → n ≡ length (printed bytes)
  pub printed_stored : short_buffer sheet_limits (sheet_sizes B S W) ≡ false → out' ≡ sets out 0 (printed bytes)
