-- The marks of registers: a bit for each below 64. Assumes nothing.
use Rattle.std.specs.Prelude.{ℕ, ◌<◌, ◌≡◌, List}
use Rattle.reg_matrix.specs.Lists.{bit}
use Rattle.allocator.specs.declared.CandidateReg.{CandidateReg}
use Rattle.allocator.specs.Order.{has_reg}

-- bit r of the marks says whether the register r is among the candidates
abbrev pub Marked : ℕ → List CandidateReg → Type 0
Marked m hs = (r : ℕ) → r < 64 → bit r m ≡ has_reg r hs
