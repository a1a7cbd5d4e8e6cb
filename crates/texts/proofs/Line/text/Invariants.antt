-- The invariant: the bytes in front of this one are stored, and the line is the same slice.
use Rattle.std.proofs.Common.{◌≡◌, take}
use Rattle.texts.specs.Texts.{StoredIn}
use Rattle.texts.proofs.Line.text.Given as goal

abbrev pub invariant-loop-b : goal.invariant-loop-b
invariant-loop-b l = (l.self.bytes.ghost_name ≡ l.initial.self.bytes.ghost_name) × StoredIn l.initial.self (take l.b-index l.bytes) l.self
