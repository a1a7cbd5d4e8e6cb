use Rattle.std.proofs.Common.{rules}
use mathlib.Core.Path.{sym, ◌∙◌}
use Rattle.reg_matrix.specs.Lists.{ascii}
use Rattle.lines.specs.LineTexts.{spare_text}
use Rattle.texts.proofs.StoreLaws as laws
use Rattle.lines.proofs.SpareLaws as spares
use Rattle.lines.proofs.free_units_line.Goals as goal

pub loop-unit-preserved : goal.loop-unit-preserved
loop-unit-preserved c =
    let step = spares.units_step _ c.loop-unit.unit c.loop-unit-test.true in (
      c.free_unit.ensures.same ∙ c.loop-unit.invariant.0,
      λ t k b. c.loop-unit.invariant.1 t k (laws.named (sym step) (laws.then (rw c.is_free_register_unit-spare.ensures at c.free_unit.ensures.stored) b)),
    )

pub returns : goal.returns
unfolding spare_text ascii
returns c =
    let last = spares.units_end _ c.loop-unit.unit c.loop-unit-test.false in
    laws.line_named (search rules)
    (laws.then (laws.then c.text.ensures.stored (c.loop-unit.invariant.1 _ _ (laws.named (sym last) (laws.nothing _ _)))) c.byte.ensures.stored)
