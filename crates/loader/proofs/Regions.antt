-- Lists stored over zeros, one behind the other: each in a region of a slice. Assumes nothing.
use Prim.Native.Nat.{ℕ, zero, suc, ◌+◌, ◌-◌, ◌≤◌}
use native.Mathlib.Omega.{arith}
use mathlib.Core.Path.{◌≡◌, refl, ap, sym, ◌∙◌}
use mathlib.Core.List.{List, [], ◌∷◌, ◌++◌, append_assoc}
use lib.ListN.{length, drop, replicate, length-append, length-replicate, replicate-append-replicate}
use lib.Seq.{sets, sets-eq, drop-append-le}
use Rattle.reg_matrix.specs.Lists.{padded}
use Rattle.lent.specs.Parts.{filled}
use Rattle.lent.proofs.Laws.{sets_behind}

-- a region of so many places, and the list that is stored in it, from a place of it on
pub record Region (A : Type 0) : Type 0 where
  pub size : ℕ
  pub offset : ℕ
  pub list : List A

module _ {A : Type 0} where
  abbrev pub region : ℕ → ℕ → List A → Region A
  region n o xs = record { size = n; offset = o; list = xs }

  abbrev pub total : List (Region A) → ℕ
  total [] = 0
  total (r ∷ rs) = r.size + total rs

  -- each list has room in its region
  abbrev pub Fit : List (Region A) → Type 0
  Fit [] = Unit {0}
  Fit (r ∷ rs) = (r.offset + length r.list ≤ r.size) × Fit rs

  -- the lists stored in regions that begin at place k
  abbrev pub stored_from : ℕ → List (Region A) → List A → List A
  stored_from k [] l = l
  stored_from k (r ∷ rs) l = stored_from (k + r.size) rs (sets l (k + r.offset) r.list)

  module _ (d : A) where
    -- what then stands in a region, and in all of them before t
    abbrev pub content : Region A → List A
    content r = replicate r.offset d ++ padded (r.size - r.offset) d r.list

    abbrev pub contents : List (Region A) → List A → List A
    contents [] t = t
    contents (r ∷ rs) t = content r ++ contents rs t

    drop_replicate : (m n : ℕ) → m ≤ n → drop m (replicate n d) ≡ replicate (n - m) d
    drop_replicate zero n h = let e : n - 0 ≡ n = omega arith in rw e
    drop_replicate (suc m) zero h = absurd (omega arith)
    drop_replicate (suc m) (suc n) h = let e : suc n - suc m ≡ n - m = omega arith in rw e (drop_replicate m n (omega arith))

    -- a list over zeros, from the first on
    over : (n : ℕ) (xs t : List A) → length xs ≤ n → sets (replicate n d ++ t) 0 xs ≡ padded n d xs ++ t
    unfolding padded
    over n xs t h =
        let z : 0 + length xs ≡ length xs = omega arith in
        let k : length xs ≤ length (replicate n d) = rw (length-replicate n d) h in
        let m : 0 + length xs ≤ length (replicate n d ++ t) = omega (arith, length-append (replicate n d) t) in
        sets-eq xs (replicate n d ++ t) 0 m
        ∙ rw (z, drop-append-le (length xs) (replicate n d) t k, drop_replicate (length xs) n h) (sym (append_assoc xs (replicate (n - length xs) d) t))

    -- and from a place of the region on
    in_region : (r : Region A) (t : List A) → r.offset + length r.list ≤ r.size → sets (replicate r.size d ++ t) r.offset r.list ≡ content r ++ t
    in_region r t h =
        let o = r.offset in
        let n : o + (r.size - o) ≡ r.size = omega arith in
        let z : length (replicate o d) + 0 ≡ o = omega (arith, length-replicate o d) in
        ap (λ (l : List A). sets (l ++ t) o r.list) (ap (λ (k : ℕ). replicate k d) (sym n) ∙ sym (replicate-append-replicate o (r.size - o) d))
        ∙ ap (λ (l : List A). sets l o r.list) (append_assoc (replicate o d) (replicate (r.size - o) d) t)
        ∙ rw z at (sets_behind (replicate o d) (replicate (r.size - o) d ++ t) 0 r.list)
        ∙ ap (λ (l : List A). replicate o d ++ l) (over (r.size - o) r.list t (omega arith))
        ∙ sym (append_assoc (replicate o d) (padded (r.size - o) d r.list) t)

    abbrev blank : List (Region A) → List A → List A
    blank [] t = t
    blank (r ∷ rs) t = replicate r.size d ++ blank rs t

    blank_is : (rs : List (Region A)) (t : List A) → blank rs t ≡ replicate (total rs) d ++ t
    blank_is [] t = refl
    blank_is (r ∷ rs) t =
        ap (λ (l : List A). replicate r.size d ++ l) (blank_is rs t)
        ∙ sym (append_assoc (replicate r.size d) (replicate (total rs) d) t)
        ∙ ap (λ (l : List A). l ++ t) (replicate-append-replicate r.size (total rs) d)

    content_length : (r : Region A) → r.offset + length r.list ≤ r.size → length (content r) ≡ r.size
    unfolding padded
    content_length r h =
        let o = r.offset in
        let xs = r.list in
        let zs : List A = replicate (r.size - o - length xs) d in
        omega (arith, length-append (replicate o d) (xs ++ zs), length-replicate o d, length-append xs zs, length-replicate (r.size - o - length xs) d)

    -- all of them, behind p
    behind : (p : List A) {k : ℕ} (rs : List (Region A)) (t : List A) → length p ≡ k → Fit rs → stored_from k rs (p ++ blank rs t) ≡ p ++ contents rs t
    behind p [] t e f = refl
    behind p {k} (r ∷ rs) t e f =
        let z : length p + r.offset ≡ k + r.offset = omega arith in
        let n : length (p ++ content r) ≡ k + r.size = omega (arith, length-append p (content r), content_length r f.0) in
        ap (λ (l : List A). stored_from (k + r.size) rs l)
        (rw z at (sets_behind p (replicate r.size d ++ blank rs t) r.offset r.list)
        ∙ ap (λ (l : List A). p ++ l) (in_region r (blank rs t) f.0)
        ∙ sym (append_assoc p (content r) (blank rs t)))
        ∙ behind (p ++ content r) rs t n f.1
        ∙ append_assoc p (content r) (contents rs t)

    -- over zeros, in a slice that has room
    pub laid_out : (l : List A) (rs : List (Region A)) → Fit rs → {n : ℕ} → total rs ≡ n → n ≤ length l → stored_from 0 rs (filled n d l) ≡ contents rs (drop n l)
    unfolding filled
    laid_out l rs f {n} e h =
        let z : 0 + length (replicate n d) ≡ n = omega (arith, length-replicate n d) in
        let m : 0 + length (replicate n d) ≤ length l = omega arith in
        ap (λ (x : List A). stored_from 0 rs x) (sets-eq (replicate n d) l 0 m ∙ rw (z, ← e) (sym (blank_is rs (drop (total rs) l))))
        ∙ ap (λ (k : ℕ). stored_from 0 rs (blank rs (drop k l))) e
        ∙ behind [] rs (drop n l) refl f
