-- The invariant: storing the bytes from place i on completes the whole text, and the output keeps its length.
use Rattle.std.proofs.Common.{◌≡◌, ◌+◌, length, drop}
use Rattle.std.proofs.lemmas.List.Edits.{sets}
use Rattle.printout.proofs.text.Given as goal

abbrev pub invariant-loop-i : goal.invariant-loop-i
invariant-loop-i l = (length l.out ≡ length l.initial.out) × (sets l.out (l.at + l.i) (drop l.i l.bytes) ≡ sets l.initial.out l.at l.bytes)
