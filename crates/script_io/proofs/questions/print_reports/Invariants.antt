-- The reports still to come become fewer.
use lib.ListN.{length, take}
use Rattle.matrix.specs.Walk.{remaining}
use Rattle.thin.specs.Answers.{lent_to}
use Rattle.script_io.proofs.questions.print_reports.Given as goal

abbrev pub decreases-loop-report : goal.decreases-loop-report
decreases-loop-report l = length (remaining (lent_to l.matrix (take l.n l.list)) l.here)
