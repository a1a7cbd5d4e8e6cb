-- What is printed by the three numbers of an answer is the line of the answer. Assumes nothing.
use mathlib.Core.Path.{◌≡◌, refl}
use borrow.Author.Tests.{ne_eqb}
use Rattle.allocator.specs.declared.Ending.TheVariants.{Done, Spent, TooMany}
use Rattle.allocator.specs.Calls.{Answer, refused, placed, evicted, ended}
use Rattle.allocator.specs.Script.{answer_line}
use Rattle.calls.specs.Calling.{refusal_number, value_number}
use Rattle.call_lists.specs.Listed.{word_number}
use Rattle.answers.specs.Answers.{answer_text}
use Rattle.result_lines.specs.ResultTexts.{ending_in}

-- a refusal has a number
abbrev pub Numbered : Answer → Type 0
Numbered (refused n) = n ≡ 0 → ⊥
Numbered (placed r) = Unit {0}
Numbered (evicted r) = Unit {0}
Numbered (ended e n) = Unit {0}

pub answer_is : (a : Answer) → Numbered a → answer_text (refusal_number a) (word_number a) (value_number a) ≡ answer_line a
unfolding answer_text ending_in
answer_is (refused n) f = rw (ne_eqb n 0 f) refl
answer_is (placed r) f = refl
answer_is (evicted r) f = refl
answer_is (ended Done n) f = refl
answer_is (ended Spent n) f = refl
answer_is (ended TooMany n) f = refl
