-- Numbers that fit, and numbers that do not. Assumes nothing.
use Prim.Native.Nat.{ℕ, ◌<◌, ◌≤◌}
use mathlib.Core.Path.{◌≡◌, refl}
use borrow.Author.Tests.{lt-ltb, le-ltb}
use Rattle.narrow.specs.Cut.{cut}

pub uncut : (top n : ℕ) → n < top → n ≡ cut top n
unfolding cut
uncut top n h = rw (lt-ltb _ _ h) refl

pub cut_off : (top n : ℕ) → top ≤ n → top ≡ cut top n
unfolding cut
cut_off top n h = rw (le-ltb _ _ h) refl
