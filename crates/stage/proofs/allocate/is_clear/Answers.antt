use mathlib.Core.Path.{sym}
use Rattle.stage.proofs.AllocateLaws.{clear_is_none}
use Rattle.stage.proofs.allocate.is_clear.Goals as goal

pub returns : goal.returns
returns c = clear_is_none _ _ _ _ _ c.enter-c.ensures c.next.ensures.told (sym c.is_none.ensures)
