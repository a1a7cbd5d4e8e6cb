-- A number calls itself at a tenth of it: the measure is the number.
use Rattle.texts.proofs.Line.+number.Given as goal

abbrev pub decreases-number : goal.decreases-number
decreases-number l = l.n
