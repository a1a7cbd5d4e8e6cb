-- Lists, by tests that compute. Assumes nothing.
use Rattle.std.specs.Prelude.{ℕ, zero, suc, ◌-◌, ◌/◌, ◌%◌, ◌^◌, Bool, true, false, ◌&&◌, ◌||◌, eqb, length, replicate}
use Prim.Native.String.{String, [] as []ˢ, ◌∷◌ as ◌∷ˢ◌}
use Prim.Native.Char.{code}
use mathlib.Core.List.{List, [], ◌∷◌, ◌++◌, Memᴰ}
use Rattle.std.proofs.Math.Option.{Option, none, some}

module _ {ℓ} {A : Type ℓ} where
  -- for `filter` and for `firsts` of 01's "Costs"
  abbrev pub keep : Bool → A → List A → List A
  keep true x xs = x ∷ xs
  keep false x xs = xs

  -- the elements that pass the test, in order; for 01's "Check", "Placing", "Evicting", "Spare", "Candidates"
  unfoldable pub filter : (A → Bool) → List A → List A
  filter p [] = []
  filter p (x ∷ xs) = keep (p x) x (filter p xs)

  -- one passes; for 01's "Check" and refusals 8, 10, 12
  unfoldable pub any : (A → Bool) → List A → Bool
  any p [] = false
  any p (x ∷ xs) = p x || any p xs

  -- each passes; for the computed tables
  unfoldable pub all : (A → Bool) → List A → Bool
  all p [] = true
  all p (x ∷ xs) = p x && all p xs

  -- for `first`
  abbrev pub or_else : Bool → A → Option A → Option A
  or_else true x r = some x
  or_else false x r = r

  -- the first element that passes the test; for 01's "Spare", "Evicting", "A dequeue"
  unfoldable pub first : (A → Bool) → List A → Option A
  first p [] = none
  first p (x ∷ xs) = or_else (p x) x (first p xs)

  -- for 01's refusals 2, 5, 14
  abbrev pub is_nil : List A → Bool
  is_nil [] = true
  is_nil (x ∷ xs) = false

  -- for 01's refusal 13
  abbrev pub is_some : Option A → Bool
  is_some none = false
  is_some (some x) = true

  -- some two places of the list, the earlier first, pass the test; for 01's refusals 10 and 11
  unfoldable pub any_pair : (A → A → Bool) → List A → Bool
  any_pair p [] = false
  any_pair p (x ∷ xs) = any (p x) xs || any_pair p xs

  -- for `insert_by`
  abbrev pub put_before : Bool → A → A → List A → List A → List A
  put_before true e x xs r = e ∷ x ∷ xs
  put_before false e x xs r = x ∷ r

  -- e put before the first element that it goes before, so after all its equals; for the table's order, 01's "Candidates" and printed keys
  unfoldable pub insert_by : (A → A → Bool) → A → List A → List A
  insert_by before e [] = e ∷ []
  insert_by before e (x ∷ xs) = put_before (before e x) e x xs (insert_by before e xs)

  -- the list, and d after it up to n places; for the layouts
  unfoldable pub padded : ℕ → A → List A → List A
  padded n d xs = xs ++ replicate (n - length xs) d

module _ {A : Type 0} where
  -- e is among them; for statements
  infix 50 ◌∈◌
  abbrev pub ◌∈◌ : A → List A → Type 0
  e ∈ xs = Memᴰ e xs

module _ {ℓ κ} {A : Type ℓ} {B : Type κ} where
  -- the lists of all elements, one after another; for 01's "Check" and "The printed sheet"
  unfoldable pub concat_map : (A → List B) → List A → List B
  concat_map f [] = []
  concat_map f (x ∷ xs) = f x ++ concat_map f xs

  -- from the front; for everything that goes element by element
  unfoldable pub foldl : (B → A → B) → B → List A → B
  foldl f b [] = b
  foldl f b (x ∷ xs) = foldl f (f b x) xs

-- i, i + 1, .., n of them; for units and numbers, ascending
unfoldable pub count : ℕ → ℕ → List ℕ
count i zero = []
count i (suc n) = i ∷ count (suc i) n

-- for 01's "The job" (map bytes) and "Where the Rust's forms give way" (`reg_units`)
abbrev pub bit : ℕ → ℕ → Bool
bit i m = eqb (m / 2 ^ i % 2) 1

-- n is among them; for 01's "Costs" and refusal 8
unfoldable pub has : ℕ → List ℕ → Bool
has n [] = false
has n (x ∷ xs) = eqb n x || has n xs

-- for 01's "The printed sheet"
unfoldable pub ascii : String → List ℕ
ascii []ˢ = []
ascii (c ∷ˢ s) = code c ∷ ascii s

-- two lists of numbers are the same; for 01's refusal 10 and the computed tables
unfoldable pub same : List ℕ → List ℕ → Bool
same [] [] = true
same [] (y ∷ ys) = false
same (x ∷ xs) [] = false
same (x ∷ xs) (y ∷ ys) = eqb x y && same xs ys
