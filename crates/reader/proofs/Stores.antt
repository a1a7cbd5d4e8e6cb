-- Stores of a list, one by one. Assumes nothing.
use Prim.Native.Nat.{ℕ, ◌+◌}
use mathlib.Core.Path.{◌≡◌, refl, ◌∙◌}
use mathlib.Core.List.{List, [], ◌∷◌, ◌++◌, map, map-append}
use lib.ListN.{length, set, length-map}
use lib.Seq.{length-sets}
use Rattle.lent.proofs.Laws.{sets_append}
use Rattle.reader.specs.Read.{Stored}

module _ {A B : Type 0} {f : A → B} where
  pub none_stored : {b : List B} {g : ℕ} → Stored f b g [] b
  none_stored = record { is = refl }

  module _ {b b' : List B} {g : ℕ} {xs : List A} (h : Stored f b g xs b') where
    pub stored_length : length b' ≡ length b
    stored_length = rw h.is (length-sets b g (map f xs))

    -- a field of x stored after those of xs
    pub more_stored : (x : A) {b'' : List B} {k : ℕ} → g + length xs ≡ k → b'' ≡ set b' k (f x) → Stored f b g (xs ++ (x ∷ [])) b''
    more_stored x n e = record { is = e ∙ rw (h.is, map-append f xs (x ∷ []), sets_append, length-map, n) }

    -- those of ys stored after those of xs
    pub stored_append : {ys : List A} {b'' : List B} {k : ℕ} → g + length xs ≡ k → Stored f b' k ys b'' → Stored f b g (xs ++ ys) b''
    stored_append {ys} n e = record { is = e.is ∙ rw (h.is, map-append f xs ys, sets_append, length-map, n) }
