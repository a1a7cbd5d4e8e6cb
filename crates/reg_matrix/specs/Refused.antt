-- What the code's answers say in 01's terms ("What the stage answers": "A refusal returns its number alone"). Assumes nothing.
use Rattle.std.specs.Prelude.{ℕ, Result, Ok, Err}
use Rattle.std.proofs.Math.Option.{Option, none, some}
use Rattle.reg_matrix.specs.declared.Refusal.{Refusal}
use Rattle.reg_matrix.specs.declared.Refusal.TheVariants.{ShortJob, Tail, UnfitMap, OverLimit, Empty, BadPoint, Unsorted, UnknownNumber, BadWeight, Twin, MixedSet, CutUse, WrongStanding, Interference, ShortBuffer}

-- 01, "What the stage answers": the number of each trade's word
abbrev pub number_of : Refusal → ℕ
number_of ShortJob = 1
number_of Tail = 2
number_of UnfitMap = 3
number_of OverLimit = 4
number_of Empty = 5
number_of BadPoint = 6
number_of Unsorted = 7
number_of UnknownNumber = 8
number_of BadWeight = 9
number_of Twin = 10
number_of MixedSet = 11
number_of CutUse = 12
number_of WrongStanding = 13
number_of Interference = 14
number_of ShortBuffer = 15

module _ {A : Type 0} where
  -- an answer of the code, with a refusal's number in the place of its word
  abbrev pub numbered : Result A Refusal → Result A ℕ
  numbered (Ok a) = Ok a
  numbered (Err r) = Err (number_of r)

  -- the number of a refusal, if the answer is one
  abbrev pub refusal_in : Result A Refusal → Option ℕ
  refusal_in (Ok a) = none
  refusal_in (Err r) = some (number_of r)

  -- the number of a refusal, or 0 if the answer is none
  abbrev pub number_in : Result A Refusal → ℕ
  number_in (Ok a) = 0
  number_in (Err r) = number_of r

  -- what is answered where no test refuses, and else the number
  abbrev pub or_refused : Option ℕ → A → Result A ℕ
  or_refused none a = Ok a
  or_refused (some n) a = Err n
