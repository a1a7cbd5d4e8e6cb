-- The rest from here is the whole.
use Rattle.std.proofs.Common.{◌≡◌, ◌-◌, replicate}
use Rattle.std.proofs.lemmas.List.Edits.{sets}
use Rattle.lent.proofs.fill.Given as goal

abbrev pub invariant-loop-i : goal.invariant-loop-i
invariant-loop-i g l = sets l.initial.s l.from (replicate (l.to - l.from) l.v) ≡ sets l.s l.i (replicate (l.to - l.i) l.v)
