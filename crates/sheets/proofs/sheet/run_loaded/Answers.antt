use native.Mathlib.Omega.{arith}
use mathlib.Core.Path.{refl, ◌∙◌}
use lib.Seq.{length-take-le}
use Rattle.sheets.proofs.BeginLaws.{run_stored}
use Rattle.sheets.proofs.sheet.run_loaded.Goals as goal

pub returns-clause-stored : goal.returns-clause-stored
returns-clause-stored c = run_stored _ _ _ _ _ _ _ _ _ _ _ _ refl c.store_first_records.ensures.words_after (λ p. c.store_first_records.ensures.read_back) (λ l. omega (arith, c.min-n.ensures, c.store_first_records.auto.words, l)) c.run_on-end.ensures.after (c.run_on-end.auto.words ∙ length-take-le _ c.store_first_records.new.words (omega (arith, c.min-n.ensures))) refl c.start.ensures
