-- After each call the rest of the list from here is the rest of the whole, and the state is lent in the same slices.
use Prim.Native.Nat.{◌*◌}
use mathlib.Core.Path.{◌≡◌}
use lib.ListN.{length}
use Rattle.table_words.specs.Buffers.{SameState}
use Rattle.job_parts.specs.Lent.{slices_of}
use Rattle.run_loop.specs.Running.{state_in}
use Rattle.call_lists.proofs.ListLaws as laws
use Rattle.call_lists.proofs.lists.carry_out_calls.Given as goal

abbrev pub invariant-loop-i : goal.invariant-loop-i
invariant-loop-i l =
    SameState l.initial.state l.state
    × laws.ListTo l.loaded.header (slices_of l.loaded.job) l.list (4 * l.i) (3 * l.i) l.i (state_in l.initial.state l.initial.last) l.initial.all l.initial.out (state_in l.state l.last) l.all l.out
    × (length l.last ≡ length l.initial.last)
    × (length l.out ≡ length l.initial.out)
    × (length l.all ≡ 512)
