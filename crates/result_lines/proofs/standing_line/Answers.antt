use Rattle.std.proofs.Common.{rules}
use Rattle.reg_matrix.specs.Lists.{ascii}
use Rattle.result_lines.specs.ResultTexts.{standing_text}
use Rattle.texts.proofs.StoreLaws as laws
use Rattle.result_lines.proofs.standing_line.Goals as goal

pub returns : goal.returns
unfolding ascii standing_text
returns c =
    laws.line_named (search rules)
    (laws.then (laws.then (laws.then c.text.ensures.stored c.number.ensures.stored) c.standing.ensures.stored) c.byte.ensures.stored)
