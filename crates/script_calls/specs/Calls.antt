-- How much of a script the next call takes. Assumes nothing.
use Rattle.std.specs.Prelude.{ℕ, ◌≤◌, ◌<◌, ◌≡◌, Bool, true, false, Option, Some, None, Result, Ok, Err}
use Rattle.script_calls.specs.declared.Call.{Call}
use Rattle.script_calls.specs.declared.Bad.{Bad}

-- a call was there
abbrev pub is_call : Result (Option Call) Bad → Bool
is_call (Ok (Some c)) = true
is_call (Ok None) = false
is_call (Err b) = false

-- a script had `left` bytes, and left' after the next call was read: never more, and fewer where there was a call
pub record CallTook (left left' : ℕ) (r : Result (Option Call) Bad) : Type 0 where
  pub never_more : left' ≤ left
  pub fewer : is_call r ≡ true → left' < left
