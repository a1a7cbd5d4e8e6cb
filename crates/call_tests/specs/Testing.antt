-- The tests of a direct call in the shape of the code of src/lib.rt, over what is lent. Laws in proofs/ tie them to Calls.antt. Assumes nothing.
use Rattle.std.specs.Prelude.{ℕ, List, [], ◌∷◌, Bool, true, false, not, ◌&&◌, ◌||◌, leb, eqb, get_or}
use Rattle.reg_matrix.specs.Lists.{any, has, count, is_nil}
use Rattle.reg_matrix.specs.Refusals.{Test, ◌if◌}
use Rattle.job.specs.Layout.{JobSlices, lists_in}
use Rattle.matrix.specs.Walk.{lent}
use Rattle.allocator.specs.declared.Assignment.{Assignment}
use Rattle.allocator.specs.declared.Assignment.TheVariants.{Assigned, Unassigned, Dead}
use Rattle.stage.specs.AllocateWalk.{reports_on}
use Rattle.job_parts.specs.Shares.{share_of}
use Rattle.records.specs.Fields.{is_held}

-- whether a record waits for a register
abbrev pub is_free : Assignment → Bool
is_free (Assigned f r w) = false
is_free (Unassigned f) = true
is_free Dead = false

-- the number k is in the set t, and a hint of it names r
abbrev pub hinted_at : List ℕ → List ℕ → List ℕ → ℕ → ℕ → ℕ → Bool
hinted_at sets starts hints t r k = eqb (get_or sets k 0) t && has r (share_of starts k hints)

-- the class of v names r, or a hint of a member of its set, of n numbers
unfoldable pub named_in : List ℕ → List ℕ → List ℕ → List ℕ → List ℕ → List ℕ → ℕ → ℕ → ℕ → Bool
named_in class_starts class_regs classes sets starts hints n v r =
    has r (share_of class_starts (get_or classes v 0) class_regs) || any (hinted_at sets starts hints (get_or sets v 0) r) (count 0 n)

-- the same of a job's slices
abbrev pub named_to : JobSlices → ℕ → ℕ → ℕ → Bool
named_to B n v r =
    named_in (lists_in B).class_starts (lists_in B).class_regs (lists_in B).classes (lists_in B).value_sets (lists_in B).hint_starts (lists_in B).hint_regs n v r

-- test 8 of a placement, of n numbers and m registers
abbrev pub unknown_in : ℕ → ℕ → ℕ → ℕ → Bool → Bool
unknown_in n m v r names = leb n v || (leb m r || not names)

-- the check of the segments of v on the units of r reports nothing
unfoldable pub clear_at : List ℕ → List ℕ → List ℕ → List ℕ → List ℕ → List ℕ → List ℕ → List ℕ → ℕ → ℕ → Bool
clear_at maps uses starts froms tos values ends rests v r =
    is_nil (reports_on (lent ends rests uses (share_of starts v froms) (share_of starts v tos) (share_of starts v values)) (get_or maps r 0))

-- the same of a job's slices and the table's
abbrev pub clear_to : JobSlices → List ℕ → List ℕ → ℕ → ℕ → Bool
clear_to B ends rests v r =
    clear_at (lists_in B).regs (lists_in B).fixed_uses (lists_in B).segment_starts (lists_in B).froms (lists_in B).tos (lists_in B).values ends rests v r

-- the tests of a placement, of what was found; infinity and all bits above it are no weight
abbrev pub place_tests : Bool → Bool → ℕ → Assignment → Bool → List Test
place_tests short unknown bits a clear = 15 if short ∷ 8 if unknown ∷ 9 if leb 0x7F80_0000 bits ∷ 13 if not (is_free a) ∷ 14 if not clear ∷ []

-- those of an eviction
abbrev pub evict_tests : Bool → Bool → Assignment → List Test
evict_tests short unknown a = 15 if short ∷ 8 if unknown ∷ 13 if not (is_held a) ∷ []
