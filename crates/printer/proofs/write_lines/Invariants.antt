-- What was written so far and the lines left are together the whole. The measure is how many lines are left. Assumes nothing.
use lib.ListN.{length}
use Rattle.lines.specs.LineTexts.{sheet_of}
use Rattle.listing.specs.Walk.{lines_from}
use Rattle.record_words.specs.Words.{records_in}
use Rattle.sheets.proofs.CountLaws.{Counted}
use Rattle.printer.proofs.write_lines.Given as goal

abbrev pub invariant-loop-n : goal.invariant-loop-n
invariant-loop-n l = Counted (sheet_of l.sheet) l.words l.initial.c l.c l.bytes

abbrev pub decreases-loop-n : goal.decreases-loop-n
decreases-loop-n l = length (lines_from l.c (records_in l.words) (sheet_of l.sheet))
