-- The words of the records as they start out. Assumes nothing.
use Prim.Native.Nat.{ℕ, zero, suc, ◌+◌, ◌-◌, ◌≤◌, ◌<◌}
use native.Mathlib.Omega.{arith}
use mathlib.Core.Path.{◌≡◌, refl, sym, ap, ◌∙◌}
use mathlib.Core.Bool.{false}
use mathlib.Core.List.{List, ◌∷◌, ◌++◌, map}
use lib.ListN.{length, get_or, replicate, drop, get_or-append}
use lib.Seq.{sets, sets-eq}
use Rattle.std.proofs.lemmas.List.{get_or-replicate, length-replicate, ext_get_or}
use Rattle.allocator.specs.declared.Assignment.{Assignment}
use Rattle.allocator.specs.declared.Assignment.TheVariants.{Unassigned, Dead}
use Rattle.records.specs.Fields.{first_records}
use Rattle.record_words.specs.Words.{record_word, record_in, records_in}
use Rattle.record_words.proofs.WordLaws.{record_in_lem, in_length}

map_same : {A B : Type 0} (f : A → B) (a : A) (n : ℕ) → map f (replicate n a) ≡ replicate n (f a)
map_same f a zero = refl
map_same {B = B} f a (suc n) = ap (λ (l : List B). f a ∷ l) (map_same f a n)

module _ (ws ws' : List ℕ) (w : ℕ) (e : ws' ≡ sets ws 0 (replicate (512 - 0) w)) where
  pub first_stored : w ≡ record_word (Unassigned false) → ws' ≡ sets ws 0 (map record_word first_records)
  first_stored q = e ∙ ap (λ (x : ℕ). sets ws 0 (replicate 512 x)) q ∙ ap (sets ws 0) (sym (map_same record_word (Unassigned false) 512))

  pub first_read : 512 ≤ length ws → record_in w ≡ Unassigned false → records_in ws' ≡ first_records
  first_read m q =
      ext_get_or Dead (records_in ws') first_records (in_length ws' ∙ sym (length-replicate 512 (Unassigned false)))
      (λ v h.
      let k : v < 512 = omega (arith, in_length ws') in
      record_in_lem ws' v k ∙ ap record_in (word v k) ∙ q ∙ sym (get_or-replicate 512 v (Unassigned false) Dead k))
    where
      word : (v : ℕ) → v < 512 → get_or ws' v 0 ≡ w
      word v k =
          let n = length-replicate 512 w in
          ap (λ (l : List ℕ). get_or l v 0) (e ∙ sets-eq (replicate 512 w) ws 0 (omega (arith, n)))
          ∙ get_or-append (replicate 512 w) (drop (0 + length (replicate 512 w)) ws) 0 v (omega (arith, n))
          ∙ get_or-replicate 512 v w 0 k
