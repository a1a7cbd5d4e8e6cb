-- A part of a list, where it lies inside; what a list begins with; and a list with one value at its first places. Assumes nothing.
use Rattle.std.specs.Prelude.{ℕ, ◌-◌, ◌≡◌, List, [], ◌++◌, cond, ◌&&◌, leb, length, take, drop, replicate}
use Rattle.std.proofs.lemmas.List.Edits.{sets}

module _ {A : Type 0} where
  -- from place a up to place b, or nothing
  unfoldable pub part : ℕ → ℕ → List A → List A
  part a b xs = cond (leb a b && leb b (length xs)) (take (b - a) (drop a xs)) []

  -- ys begins with xs
  abbrev pub Begins : List A → List A → Type 0
  Begins xs ys = (t : List A) × (ys ≡ xs ++ t)

  -- xs with d at its first n places
  unfoldable pub filled : ℕ → A → List A → List A
  filled n d xs = sets xs 0 (replicate n d)
