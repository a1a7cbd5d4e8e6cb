-- The fixed uses from number j on make the rest of the whole; the table is lent in the same slices.
use Prim.Native.Nat.{◌-◌}
use mathlib.Core.Path.{◌≡◌}
use Rattle.table_words.specs.Buffers.{SameTable}
use Rattle.entries.specs.Moves.{words_of}
use Rattle.entries.specs.Placing.{inserting_uses}
use Rattle.segment_moves.proofs.insert_uses.Given as goal

abbrev pub invariant-loop-j : goal.invariant-loop-j
invariant-loop-j l = SameTable l.initial.table l.table × (inserting_uses (l.last - l.j) l.j l.uses (words_of l.table) ≡ inserting_uses (l.last - l.first) l.first l.uses (words_of l.initial.table))
