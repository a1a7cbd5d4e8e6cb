-- The parts of a loaded job's lists that are a number's own. Laws in moves/proofs/Shares.antt tie them to the job. Assumes nothing.
use Rattle.std.specs.Prelude.{ℕ, ◌+◌, List, get_or}
use Rattle.lent.specs.Parts.{part}
use Rattle.job.specs.Layout.{JobBuffers}

-- the part of a list that is n's own, by where it begins and where it ends
module _ {A : Type 0} where
  unfoldable pub share_of : List ℕ → ℕ → List A → List A
  share_of starts n xs = part (get_or starts n 0) (get_or starts (n + 1) 0) xs

-- where the segments of v start and end, and their values
abbrev pub froms_in : JobBuffers → ℕ → List ℕ
froms_in B v = share_of B.segment_starts v B.froms

abbrev pub tos_in : JobBuffers → ℕ → List ℕ
tos_in B v = share_of B.segment_starts v B.tos

abbrev pub values_in : JobBuffers → ℕ → List ℕ
values_in B v = share_of B.segment_starts v B.values

-- the registers of the class of v
abbrev pub class_in : JobBuffers → ℕ → List ℕ
class_in B v = share_of B.class_starts (get_or B.classes v 0) B.class_regs
