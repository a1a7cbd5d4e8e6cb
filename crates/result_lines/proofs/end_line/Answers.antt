use Rattle.std.proofs.Common.{rules}
use Rattle.reg_matrix.specs.Lists.{ascii}
use Rattle.texts.proofs.StoreLaws as laws
use Rattle.result_lines.proofs.end_line.Goals as goal

pub returns : goal.returns
unfolding ascii
returns c =
    laws.line_named (search rules)
    (laws.then (laws.then (laws.then c.text.ensures.stored c.end_word.ensures.stored) c.spaced.ensures.stored) c.byte.ensures.stored)
