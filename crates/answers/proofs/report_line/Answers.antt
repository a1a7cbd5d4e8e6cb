use Rattle.std.proofs.Common.{rules}
use Rattle.reg_matrix.specs.Lists.{ascii}
use Rattle.reg_matrix.specs.Lines.{report_line}
use Rattle.texts.proofs.StoreLaws as laws
use Rattle.answers.proofs.report_line.Goals as goal

pub returns : goal.returns
unfolding ascii report_line
returns c =
    laws.line_named (search rules)
    (laws.then (laws.then (laws.then (laws.then (laws.then (laws.then c.text.ensures.stored c.number.ensures.stored) c.spaced.ensures.stored) c.spaced-2.ensures.stored) c.spaced-3.ensures.stored) c.met.ensures.stored) c.byte.ensures.stored)
