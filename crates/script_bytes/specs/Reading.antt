-- How much of a script was read: `left` is how many bytes it still had before, left' how many afterwards. What the bytes are no contract says, as
-- that of the kit's `read` does not. Assumes nothing.
use Rattle.std.specs.Prelude.{ℕ, ◌+◌, ◌^◌, ◌≤◌, ◌<◌, ◌≡◌, List, Bool, true, false, Option, is_some, IfSome, length, drop, get_or}

-- at most n bytes were asked for, and r came into the front of a buffer: the script, which had at least as many, has r fewer; and the buffer is as it
-- was behind the first n; what it holds are bytes
pub record SomeRead (n left left' : ℕ) (buf buf' : List ℕ) (r : ℕ) : Type 0 where
  pub asked : r ≤ n
  pub room : r ≤ length buf
  pub taken : left' + r ≡ left
  pub behind : drop n buf' ≡ drop n buf
  pub bytes : (k : ℕ) → get_or buf' k 0 < 256

-- n bytes were asked for: all were there, and the script has n fewer; or fewer came
pub record Took (n left left' : ℕ) (all : Bool) : Type 0 where
  pub never_more : left' ≤ left
  pub all_there : all ≡ true → left' + n ≡ left
  pub cut_short : all ≡ false → left < left' + n

-- the same of a number, which was all there or not, and which fits n bytes: the others of its four are 0, and they are the highest
pub record NumberRead (n left left' : ℕ) (number : Option ℕ) : Type 0 where
  pub took : Took n left left' (is_some number)
  pub fits : IfSome number (λ x. x < 256 ^ n)
