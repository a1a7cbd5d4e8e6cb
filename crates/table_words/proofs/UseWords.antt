-- The fixed uses of all units as numbers: they rise, and the search for a unit's first finds the place where its uses stand. Assumes nothing.
use Prim.Native.Nat.{ℕ, zero, suc, ◌+◌, ◌-◌, ◌*◌, ◌^◌, ◌<◌, ◌≤◌}
use native.Mathlib.Omega.{arith}
use mathlib.Core.Path.{◌≡◌, refl, sym, ap, ◌∙◌}
use mathlib.Core.Logic.{◌⊎◌, inl, inr}
use mathlib.Core.List.Memᴰ
use mathlib.Core.List.{List, [], ◌∷◌, ◌++◌, map, map-append, append_assoc}
use mathlib.Core.Bool.{Bool, true, false}
use lib.Dec.{ltb}
use lib.ListN.{length, take, drop, replicate, length-map, length-take}
use lib.Seq.{drop-append-add, drop-append-le}
use borrow.Author.Tests.{lt-ltb, le-ltb}
use Rattle.reg_matrix.specs.Lists.{filter, concat_map, count, padded}
use Rattle.reg_matrix.specs.Table.{fixed_uses}
use Rattle.reg_matrix.specs.Layout.{max_fixed, greatest, use_word, use_words}
use Rattle.table_words.specs.Search.{place_of, Rises, below}
use Rattle.reg_matrix.specs.declared.Entry.{Entry}
use Rattle.reg_matrix.proofs.Members.{◌∈◌, concat_out, count_out, fixed_uses_out}
use Rattle.reg_matrix.proofs.Chains.{Chain}
use Rattle.table_words.proofs.Halves.{none_below, below_cons, place_searched}
use Rattle.reg_matrix.proofs.Places.{concat_append, padded_length}
use Rattle.table_words.proofs.Decode.{SmallUse, rises_append, replicate_in, replicate_rises, map_out, uses_below}

-- ---- lists

concat_cons : {A B : Type 0} (f : A → List B) (x : A) (xs : List A) → concat_map f (x ∷ xs) ≡ f x ++ concat_map f xs
unfolding concat_map
concat_cons f x xs = refl

pub count_split : (i k j : ℕ) → count i (k + suc j) ≡ count i k ++ (i + k) ∷ count (suc (i + k)) j
unfolding count
count_split i zero j =
    let a : zero + suc j ≡ suc j = omega arith in
    let b : i + zero ≡ i = omega arith in
    rw (a, b)
count_split i (suc k) j =
    let a : suc k + suc j ≡ suc (k + suc j) = omega arith in
    let b : i + suc k ≡ suc i + k = omega arith in
    rw (a, b) (ap (λ l. i ∷ l) (count_split (suc i) k j))

-- numbers below the key, then numbers that are not
pub below_split : (key : ℕ) (xs ys : List ℕ) → ((x : ℕ) → x ∈ xs → x < key) → ((y : ℕ) → y ∈ ys → key ≤ y) → below key (xs ++ ys) ≡ length xs
unfolding below filter
below_split key [] [] h k = refl
below_split key [] (y ∷ ys) h k = rw (le-ltb y key (k y (Memᴰ.head refl))) (below_split key [] ys h (λ x m. k x (Memᴰ.tail m)))
below_split key (x ∷ xs) ys h k = rw (lt-ltb x key (h x (Memᴰ.head refl))) (ap suc (below_split key xs ys (λ y m. h y (Memᴰ.tail m)) k))

-- numbers that are not below the key, after some
pub below_front : (key : ℕ) (xs ys : List ℕ) → ((y : ℕ) → y ∈ ys → key ≤ y) → below key (xs ++ ys) ≡ below key xs
below_front key [] ys k = none_below key ys k ∙ sym (none_below key [] (λ y m. elim m [ ]))
below_front key (x ∷ xs) ys k = go (ltb x key) refl (below_front key xs ys k)
  where
    go : (b : Bool) → ltb x key ≡ b → below key (xs ++ ys) ≡ below key xs → below key (x ∷ (xs ++ ys)) ≡ below key (x ∷ xs)
    go true q ih = below_cons key x (xs ++ ys) true q ∙ (ap suc ih ∙ sym (below_cons key x xs true q))
    go false q ih = below_cons key x (xs ++ ys) false q ∙ (ih ∙ sym (below_cons key x xs false q))

pub taken_length : (n : ℕ) (ws xs : List ℕ) → take n ws ≡ xs → length xs ≡ n → n ≤ length ws
taken_length n ws xs q h = omega (arith, simp length-take at (ap length q))

-- ---- the uses of all units

module _ (fixed : List Entry) (small : (u : ℕ) (f : Entry) → f ∈ fixed_uses fixed u → SmallUse f) (chain : (u : ℕ) → Chain (fixed_uses fixed u)) where
  pub uses_out : (i k : ℕ) (f : Entry) → f ∈ concat_map (fixed_uses fixed) (count i k) → (i ≤ f.unit) × (f.unit < i + k) × SmallUse f
  uses_out i k f m =
      let c = concat_out (fixed_uses fixed) (count i k) m in
      let b = count_out i k c.0 c.1 in
      let q = (fixed_uses_out fixed c.0 f c.2).1 in
      (omega (arith, b.0, q), omega (arith, b.1, q), small c.0 f c.2)

  words_out : (i k y : ℕ) → y ∈ map use_word (concat_map (fixed_uses fixed) (count i k)) → (i * 2 ^ 48 ≤ y) × (y < (i + k) * 2 ^ 48) × (y ≤ greatest)
  words_out i k y m =
      let c = map_out use_word (concat_map (fixed_uses fixed) (count i k)) y m in
      let b = uses_out i k c.0 c.1 in
      let s = b.2 in (
        omega (arith, b.0, c.2),
        omega (arith, b.1, c.2, s.to, s.two, s.value),
        omega (arith, c.2, uses_below c.0 s),
      )

  unit_rises : (u : ℕ) (fs : List Entry) → ((f : Entry) → f ∈ fs → SmallUse f × (f.unit ≡ u)) → Chain fs → Rises (map use_word fs)
  unit_rises u [] h c = tt
  unit_rises u (f ∷ fs) h c = (first, unit_rises u fs (λ g m. h g (Memᴰ.tail m)) c.1)
    where
      first : (y : ℕ) → y ∈ map use_word fs → use_word f ≤ y
      first y m =
          let k = map_out use_word fs y m in
          let a = h f (Memᴰ.head refl) in
          let b = h k.0 (Memᴰ.tail k.1) in
          omega (arith, k.2, a.1, b.1, a.0.two, a.0.value, c.0 k.0 k.1)

  pub units_rise : (i k : ℕ) → Rises (map use_word (concat_map (fixed_uses fixed) (count i k)))
  unfolding concat_map count
  units_rise i zero = tt
  units_rise i (suc k) =
      rw (map-append use_word (fixed_uses fixed i) (concat_map (fixed_uses fixed) (count (suc i) k)))
      (rises_append (map use_word (fixed_uses fixed i)) (map use_word (concat_map (fixed_uses fixed) (count (suc i) k)))
      (unit_rises i (fixed_uses fixed i) (λ f m. (small i f m, (fixed_uses_out fixed i f m).1)) (chain i))
      (units_rise (suc i) k)
      (λ x y m n.
      let c = map_out use_word (fixed_uses fixed i) x m in
      let s = small i c.0 c.1 in
      let q = (fixed_uses_out fixed i c.0 c.1).1 in
      omega (arith, c.2, q, s.to, s.two, s.value, (words_out (suc i) k y n).0)))

  -- ---- a unit's uses among them

  module _ (u : ℕ) (h : u < 64) where
    front : List Entry
    front = concat_map (fixed_uses fixed) (count 0 u)

    pub back : List Entry
    back = concat_map (fixed_uses fixed) (count (suc u) (63 - u))

    uses_split : concat_map (fixed_uses fixed) (count 0 64) ≡ front ++ (fixed_uses fixed u ++ back)
    unfolding front back
    uses_split =
        let a : 64 ≡ u + suc (63 - u) = omega arith in
        let b : 0 + u ≡ u = omega arith in
        ap (λ k. concat_map (fixed_uses fixed) (count 0 k)) a
        ∙ (ap (concat_map (fixed_uses fixed)) (count_split 0 u (63 - u) ∙ ap (λ v. count 0 u ++ v ∷ count (suc v) (63 - u)) b)
        ∙ (concat_append (fixed_uses fixed) (count 0 u) (u ∷ count (suc u) (63 - u))
        ∙ ap (λ l. concat_map (fixed_uses fixed) (count 0 u) ++ l) (concat_cons (fixed_uses fixed) u (count (suc u) (63 - u)))))

    pub back_other : (f : Entry) → f ∈ back → SmallUse f × (f.unit ≡ u → ⊥)
    unfolding back
    back_other f m = let b = uses_out (suc u) (63 - u) f m in (b.2, λ q. omega (arith, b.0, q))

    module _ (ws : List ℕ) (w : take max_fixed ws ≡ use_words fixed) (few : length (concat_map (fixed_uses fixed) (count 0 64)) ≤ max_fixed) where
      all_words : List ℕ
      all_words = map use_word (concat_map (fixed_uses fixed) (count 0 64))

      padding : List ℕ
      padding = replicate (max_fixed - length all_words) greatest

      words_are : take max_fixed ws ≡ all_words ++ padding
      unfolding all_words padding use_words padded
      words_are = w

      words_rise : Rises (take max_fixed ws)
      unfolding all_words padding
      words_rise =
          rw words_are
          (rises_append all_words padding (units_rise 0 64) (replicate_rises (max_fixed - length all_words) greatest)
          (λ x y m n. omega (arith, (words_out 0 64 x m).2, replicate_in (max_fixed - length all_words) greatest y n)))

      long : max_fixed ≤ length ws
      unfolding use_words
      long = taken_length max_fixed ws (use_words fixed) w (padded_length max_fixed greatest _ (simp length-map few))

      counted : below (u * 2 ^ 48) (take max_fixed ws) ≡ length front
      unfolding all_words padding front back
      counted =
          let a : all_words ≡ map use_word front ++ map use_word (fixed_uses fixed u ++ back) = ap (map use_word) uses_split ∙ map-append use_word front (fixed_uses fixed u ++ back) in
          ap (below (u * 2 ^ 48)) (words_are ∙ (ap (λ l. l ++ padding) a ∙ append_assoc (map use_word front) (map use_word (fixed_uses fixed u ++ back)) padding))
          ∙ (below_split (u * 2 ^ 48) (map use_word front) (map use_word (fixed_uses fixed u ++ back) ++ padding)
          (λ x m. omega (arith, (words_out 0 u x m).1))
          above
          ∙ length-map front use_word)
        where
          above : (y : ℕ) → y ∈ map use_word (fixed_uses fixed u ++ back) ++ padding → u * 2 ^ 48 ≤ y
          above y m = go (Memᴰ.append_cases (map use_word (fixed_uses fixed u ++ back)) m)
            where
              go : (y ∈ map use_word (fixed_uses fixed u ++ back)) ⊎ (y ∈ padding) → u * 2 ^ 48 ≤ y
              go (inl n) = let c = map_out use_word (fixed_uses fixed u ++ back) y n in from_entry c.0 c.2 (Memᴰ.append_cases (fixed_uses fixed u) c.1)
                where
                  from_entry : (f : Entry) → y ≡ use_word f → (f ∈ fixed_uses fixed u) ⊎ (f ∈ back) → u * 2 ^ 48 ≤ y
                  from_entry f q (inl k) = omega (arith, q, (fixed_uses_out fixed u f k).1)
                  from_entry f q (inr k) = omega (arith, q, (uses_out (suc u) (63 - u) f k).0)
              go (inr n) = omega (arith, replicate_in (max_fixed - length all_words) greatest y n, h)

      -- the unit's fixed use number i stands i places past the unit's first
      pub uses_at : (i : ℕ) → i ≤ length (fixed_uses fixed u) → drop (place_of max_fixed ws (u * 2 ^ 48) + i) (concat_map (fixed_uses fixed) (count 0 64)) ≡ drop i (fixed_uses fixed u) ++ back
      uses_at i k =
          let p : place_of max_fixed ws (u * 2 ^ 48) ≡ length front = (place_searched max_fixed ws (u * 2 ^ 48)).counted long words_rise ∙ counted in
          ap (λ x. drop (x + i) (concat_map (fixed_uses fixed) (count 0 64))) p
          ∙ (ap (drop (length front + i)) uses_split ∙ (drop-append-add front (fixed_uses fixed u ++ back) i ∙ drop-append-le i (fixed_uses fixed u) back k))
