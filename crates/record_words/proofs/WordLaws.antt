-- What a record's word says when it is read again. Assumes nothing.
use Prim.Native.Nat.{ℕ, zero, suc, ◌+◌, ◌*◌, ◌%◌, ◌/◌, ◌≤◌, ◌<◌, min}
use native.Mathlib.Decide.{dec_lt}
use native.Mathlib.Omega.{arith}
use native.Mathlib.Numerals.{add-one}
use mathlib.Core.Path.{◌≡◌, refl, sym, ap, subst, ◌∙◌}
use mathlib.Core.List.{List, [], ◌∷◌, ◌++◌, map}
use mathlib.Core.Bool.{Bool, true, false, not, cond}
use lib.Dec.{T, eqb}
use lib.ListN.{length, get_or, set, take, drop, take-append-drop, drop_of_length-le, length-map, length-set, get_or-map, get_or-append, get_or-eq_default}
use lib.Seq.{sets, sets-eq, length-sets, take_at, take_all, drop_at, drop-cons, drop-set-lt, set_out, get_or-set_same, get_or-set_other, ext_get_or}
use lib.Ieee.{Float, nan, inf, fin, binary32, of_bits, to_bits, is_nan, fits, ne, eq}
use lib.Ieee.Compare.{differs_from_itself}
use lib.Ieee.Bits.{of_bits-to_bits, to_bits-lt, nan_bits_is}
use borrow.Author.Tests.{ltb-false, le-leb, eqb-true, eqb-false}
use Rattle.lent.proofs.Laws.{any_default}
use Rattle.reg_matrix.specs.Lists.{count}
use Rattle.reg_matrix.proofs.Places.{count_length, from_zero}
use Rattle.job.specs.Model.{Plain, zero_weight}
use Rattle.job.proofs.WeightBits.{nan_bits_lem}
use Rattle.allocator.specs.declared.Assignment.{Assignment}
use Rattle.allocator.specs.declared.Assignment.TheVariants.{Assigned, Unassigned, Dead}
use Rattle.records.specs.Fields.{reg_in, record_weight, kind_of, weight_in}
use Rattle.record_words.specs.Words.{weight_bits, record_word, record_in, records_in, held_in, PlainRecord, AllPlain, WordsOf}
use Rattle.records.proofs.FieldLaws.{record_back}

-- ---- bits

-- the sign is the highest bit
below_sign : (w : Float) → Plain w → T (fits binary32 w) → to_bits binary32 w < 2147483648
unfolding to_bits fits
below_sign nan p h = absurd p
below_sign (inf n) p h = rw p (omega arith)
below_sign (fin n m x) p h = rw p (omega (arith, to_bits-lt binary32 (fin true m x) h))

plain_number : (w : Float) → Plain w → is_nan w ≡ false
unfolding is_nan
plain_number nan p = absurd p
plain_number (inf n) p = refl
plain_number (fin n m x) p = refl

-- the bits of a weight are at most infinity's
pub plain_bits : (w : Float) → Plain w → T (fits binary32 w) → to_bits binary32 w ≤ 0x7F80_0000
plain_bits w p h =
    ltb-false 0x7F80_0000 (to_bits binary32 w)
    (sym (nan_bits_lem (to_bits binary32 w) (below_sign w p h)) ∙ nan_bits_is binary32 (to_bits binary32 w) ∙ ap is_nan (of_bits-to_bits binary32 w h) ∙ plain_number w p)

-- what is read from a weight's bits is the weight
pub weight_back : (w : Float) → fits binary32 w ≡ true → (b : ℕ) → b ≡ to_bits binary32 w → Plain w → weight_in b ≡ w
weight_back w f b e p =
    let h : T (fits binary32 w) = subst T (sym f) tt in rw (e, le-leb (to_bits binary32 w) 0x7F80_0000 (plain_bits w p h)) (of_bits-to_bits binary32 w h)

-- what is no number has the bits of 0, and is no weight
pub bits_of_nan : (w : Float) → is_nan w ≡ true → (0 ≡ weight_bits w) × (Plain w → weight_in 0 ≡ w)
unfolding is_nan ne eq
bits_of_nan nan e = (refl, λ p. absurd p)
bits_of_nan (inf n) e = absurd (subst (λ (t : Bool). T (not t)) e tt)
bits_of_nan (fin n m x) e = absurd (subst (λ (t : Bool). T (not t)) e tt)

pub bits_of_number : (w : Float) → is_nan w ≡ false → to_bits binary32 w ≡ weight_bits w
unfolding is_nan
bits_of_number w e = go (ne w w) refl
  where
    go : (b : Bool) → ne w w ≡ b → to_bits binary32 w ≡ cond b 0 (to_bits binary32 w)
    go false q = refl
    go true q = absurd (subst (λ (t : Bool). T (not t)) (sym e ∙ ap is_nan (differs_from_itself w (subst T (sym q) tt))) tt)

-- ---- words

-- the parts of a word
word_parts : (b r k x : ℕ) → b < 4294967296 → r < 256 → k ≤ 5 → x ≡ b * 65536 + r * 256 + k → (x % 256 ≡ k) × (x / 256 % 256 ≡ r) × (x / 65536 % 4294967296 ≡ b)
word_parts b r k x hb hr hk e = (omega arith, omega arith, omega arith)

kind_small : (a : Assignment) → kind_of a ≤ 5
kind_small (Assigned true r w) = omega arith
kind_small (Assigned false r w) = omega arith
kind_small (Unassigned true) = omega arith
kind_small (Unassigned false) = omega arith
kind_small Dead = omega arith

-- the word of a record's parts is its word, and what is read from it is the record
pub word_told :
    (a : Assignment) (w : Float) (b r k : ℕ) → w ≡ record_weight a → (b ≡ weight_bits w) × (Plain w → weight_in b ≡ w) → b < 4294967296 → r ≡ reg_in a → r < 256 → k ≡ kind_of a
    → (b * 65536 + r * 256 + k ≡ record_word a) × (PlainRecord a → record_in (b * 65536 + r * 256 + k) ≡ a)
unfolding record_in
word_told a w b r k ew eb hb er hr ek = (rw (← ew, ← eb.0, ← er, ← ek), back)
  where
    parts : (x : ℕ) → x ≡ b * 65536 + r * 256 + k → (x % 256 ≡ k) × (x / 256 % 256 ≡ r) × (x / 65536 % 4294967296 ≡ b)
    parts x e = word_parts b r k x hb hr (rw ek (kind_small a)) e

    back : PlainRecord a → record_in (b * 65536 + r * 256 + k) ≡ a
    back p = let q = parts (b * 65536 + r * 256 + k) refl in rw (q.0, q.1, q.2, eb.1 (rw ew p), ek, er, ew) (record_back a)

-- that of a record without register and weight is what it is alone
pub kind_told :
    (a : Assignment) (k : ℕ) → reg_in a ≡ 0 → record_weight a ≡ zero_weight → k ≡ kind_of a
    → (k ≡ record_word a) × (PlainRecord a → record_in k ≡ a)
unfolding ne eq to_bits of_bits
kind_told a k er ew ek =
    let e : 0 * 65536 + 0 * 256 + k ≡ k = omega arith in
    subst (λ (x : ℕ). (x ≡ record_word a) × (PlainRecord a → record_in x ≡ a)) e
    (word_told a zero_weight 0 0 k (sym ew) (refl, λ p. refl) (omega arith) (sym er) (omega arith) ek)

-- the word of a record that nothing happened to
pub first_word_lem : record_word (Unassigned false) ≡ 0
unfolding ne eq to_bits of_bits
first_word_lem = refl

-- what is read of a dead record's word
pub dead_word : record_in (record_word Dead) ≡ Dead
unfolding record_in ne eq to_bits of_bits
dead_word = refl

-- ---- all records, one after another

pub record_in_lem : (ws : List ℕ) (v : ℕ) → v < 512 → get_or (records_in ws) v Dead ≡ record_in (get_or ws v 0)
unfolding records_in
record_in_lem ws v h = from_zero (λ v. record_in (get_or ws v 0)) Dead 512 v h

pub in_length : (ws : List ℕ) → length (records_in ws) ≡ 512
unfolding records_in
in_length ws = length-map (count 0 512) (λ v. record_in (get_or ws v 0)) ∙ count_length 0 512

-- one record more is stored
pub records_set : (ws : List ℕ) → 512 ≤ length ws → (v x : ℕ) (a : Assignment) → record_in x ≡ a → records_in (set ws v x) ≡ set (records_in ws) v a
records_set ws m v x a b =
    ext_get_or Dead (records_in (set ws v x)) (set (records_in ws) v a) (in_length (set ws v x) ∙ sym (simp length-set (in_length ws)))
    (λ i h. let k : i < 512 = omega (arith, in_length (set ws v x)) in record_in_lem (set ws v x) i k ∙ at_place i k (eqb i v) refl)
  where
    at_place : (i : ℕ) → i < 512 → (t : Bool) → eqb i v ≡ t → record_in (get_or (set ws v x) i 0) ≡ get_or (set (records_in ws) v a) i Dead
    at_place i h true q =
        let k : i ≡ v = eqb-true i v q in
        rw (k, get_or-set_same ws v x 0 (omega arith), get_or-set_same (records_in ws) v a Dead (omega (arith, in_length ws))) b
    at_place i h false q =
        let k = eqb-false i v q in
        rw (get_or-set_other ws v i x 0 k, get_or-set_other (records_in ws) v i a Dead k) (sym (record_in_lem ws i h))

-- a place past the records, and one inside
pub record_past : (ws : List ℕ) (v : ℕ) → 512 ≤ v → Dead ≡ get_or (records_in ws) v Dead
record_past ws v h = let m : length (records_in ws) ≤ v = omega (arith, in_length ws) in sym (get_or-eq_default (records_in ws) Dead {n = v} m)

-- stored in its place, or past the records nowhere
module _ (ws : List ℕ) (v : ℕ) (a : Assignment) where
  pub put_inside :
      (ws' : List ℕ) (x : ℕ) → v < 512 → (PlainRecord a → record_in x ≡ a) → ws' ≡ set ws v x
      → (drop 512 ws' ≡ drop 512 ws) × (AllPlain (set (records_in ws) v a) → 512 ≤ length ws → records_in ws' ≡ set (records_in ws) v a)
  put_inside ws' x h b e = (
    rw e (drop-set-lt 512 ws v x h),
    λ p m. rw e (records_set ws m v x a (b (subst PlainRecord (get_or-set_same (records_in ws) v a Dead (omega (arith, in_length ws))) (p v)))),
  )

  pub put_past : 512 ≤ v → (drop 512 ws ≡ drop 512 ws) × (AllPlain (set (records_in ws) v a) → 512 ≤ length ws → records_in ws ≡ set (records_in ws) v a)
  put_past h = (refl, λ p m. sym (set_out (records_in ws) v a (omega (arith, in_length ws))))

-- the words of the records before i are stored: those from i on are the rest of the whole
pub record Storing (rs : List Assignment) (ws₀ ws : List ℕ) (i : ℕ) : Type 0 where
  pub rest : sets ws₀ 0 (map record_word rs) ≡ sets ws i (map record_word (drop i rs))
  pub size : length rs ≡ 512
  pub bound : i ≤ 512
  pub kept : length ws ≡ length ws₀
  pub back : AllPlain rs → 512 ≤ length ws₀ → (v : ℕ) → v < i → record_in (get_or ws v 0) ≡ get_or rs v Dead

pub store_start : (rs : List Assignment) (ws : List ℕ) → length rs ≡ 512 → Storing rs ws ws 0
store_start rs ws n = record { rest = refl; size = n; bound = omega arith; kept = refl; back = λ p l v h. absurd (omega arith) }

module _ {rs : List Assignment} {ws₀ ws : List ℕ} {i : ℕ} (h : Storing rs ws₀ ws i) where
  -- one more word stored
  pub store_more :
      (ws' : List ℕ) (x : ℕ) (d : Assignment) → i < 512 → (x ≡ record_word (get_or rs i d)) × (PlainRecord (get_or rs i d) → record_in x ≡ get_or rs i d)
      → ws' ≡ set ws i x → Storing rs ws₀ ws' (i + 1)
  store_more ws' x d l e e' =
      record {
        rest = h.rest ∙ rw (drop-cons rs i d (omega (arith, h.size)), e', e.0, add-one i);
        size = h.size;
        bound = omega arith;
        kept = rw (e', length-set) h.kept;
        back = λ p m v b. rw e' (one p m v (eqb v i) refl b);
      }
    where
      same : get_or rs i d ≡ get_or rs i Dead
      same = any_default rs i d Dead (omega (arith, h.size))

      one : AllPlain rs → 512 ≤ length ws₀ → (v : ℕ) (t : Bool) → eqb v i ≡ t → v < i + 1 → record_in (get_or (set ws i x) v 0) ≡ get_or rs v Dead
      one p m v true q b =
          let k : v ≡ i = eqb-true v i q in
          rw (k, get_or-set_same ws i x 0 (omega (arith, h.kept))) (e.1 (subst PlainRecord (sym same) (p i)) ∙ same)
      one p m v false q b = let k = eqb-false v i q in rw (get_or-set_other ws i v x 0 k) (h.back p m v (omega arith))

  -- all are stored, and read again
  pub store_back : 512 ≤ i → AllPlain rs → 512 ≤ length ws₀ → records_in ws ≡ rs
  store_back l p m =
      ext_get_or Dead (records_in ws) rs (in_length ws ∙ sym h.size)
      (λ v b. let k : v < 512 = omega (arith, in_length ws) in record_in_lem ws v k ∙ h.back p m v (omega arith))

-- past the end nothing is stored
sets_past : {A : Type 0} (l : List A) (i : ℕ) (vs : List A) → length l ≤ i → sets l i vs ≡ l
sets_past l i [] h = refl
sets_past l i (a ∷ vs) h = rw (set_out l i a h) (sets_past l (suc i) vs (omega arith))

-- ---- words stored anew as the words of their records

-- those before i are, and the others are as they were
pub record Renewing (ws₀ ws : List ℕ) (i : ℕ) : Type 0 where
  pub stored : Storing (records_in ws₀) ws₀ ws i
  pub others : (v : ℕ) → i ≤ v → get_or ws v 0 ≡ get_or ws₀ v 0

pub renew_start : (ws : List ℕ) → Renewing ws ws 0
renew_start ws = record { stored = store_start (records_in ws) ws (in_length ws); others = λ v h. refl }

module _ {ws₀ ws : List ℕ} {i : ℕ} (h : Renewing ws₀ ws i) where
  pub renew_more :
      (ws' : List ℕ) (x : ℕ) → i < 512 → (x ≡ record_word (record_in (get_or ws i 0))) × (PlainRecord (record_in (get_or ws i 0)) → record_in x ≡ record_in (get_or ws i 0))
      → ws' ≡ set ws i x → Renewing ws₀ ws' (i + 1)
  renew_more ws' x l e e' =
      let same : record_in (get_or ws i 0) ≡ get_or (records_in ws₀) i Dead = ap record_in (h.others i (omega arith)) ∙ sym (record_in_lem ws₀ i l) in
      record {
        stored = store_more h.stored ws' x Dead l (rw (← same) e) e';
        others = λ v b. rw (e', get_or-set_other ws i v x 0 (λ q. omega (arith, q))) (h.others v (omega arith));
      }

  -- all words that are there
  pub renew_end : min (length ws₀) 512 ≤ i → ws ≡ sets ws₀ 0 (map record_word (records_in ws₀))
  renew_end l = sym (h.stored.rest ∙ go (dec_lt i 512))
    where
      go : Dec (i < 512) → sets ws i (map record_word (drop i (records_in ws₀))) ≡ ws
      go (yes b) = sets_past ws i (map record_word (drop i (records_in ws₀))) (omega (arith, h.stored.kept))
      go (no b) = let k : length (records_in ws₀) ≤ i = omega (arith, h.stored.size) in rw (drop_of_length-le (records_in ws₀) k)

-- ---- the words of records

map_set : {A B : Type 0} (f : A → B) (l : List A) (i : ℕ) (x : A) → set (map f l) i (f x) ≡ map f (set l i x)
map_set f [] i x = refl
map_set f (y ∷ l) zero x = refl
map_set {B = B} f (y ∷ l) (suc i) x = ap (λ (t : List B). f y ∷ t) (map_set f l i x)

-- the weight that is read of a number's word
pub held_read : (ws : List ℕ) (v : ℕ) → v < 512 → get_or (held_in ws) v zero_weight ≡ record_weight (record_in (get_or ws v 0))
unfolding held_in
held_read ws v h = get_or-map record_weight (records_in ws) v Dead ∙ ap record_weight (record_in_lem ws v h)

-- what is stored in front leaves the tail
pub tail_kept : (rs : List Assignment) (ws : List ℕ) → length rs ≡ 512 → 512 ≤ length ws → drop 512 (sets ws 0 (map record_word rs)) ≡ drop 512 ws
tail_kept rs ws n l =
    let size : length (map record_word rs) ≡ 512 = length-map rs record_word ∙ n in
    let size' : 0 + length (map record_word rs) ≡ 512 = omega (arith, size) in
    ap (drop 512) (sets-eq (map record_word rs) ws 0 (omega (arith, size)))
    ∙ drop_at (map record_word rs) (drop (0 + length (map record_word rs)) ws) 512 size
    ∙ ap (λ (k : ℕ). drop k ws) size'

-- the first 512 words are all that is read
pub in_front : (ws behind : List ℕ) → length ws ≡ 512 → records_in (ws ++ behind) ≡ records_in ws
in_front ws behind n =
    ext_get_or Dead (records_in (ws ++ behind)) (records_in ws) (in_length (ws ++ behind) ∙ sym (in_length ws))
    (λ i h.
    let k : i < 512 = omega (arith, in_length (ws ++ behind)) in
    record_in_lem (ws ++ behind) i k ∙ ap record_in (get_or-append ws behind 0 i (omega (arith, n))) ∙ sym (record_in_lem ws i k))

-- records that were stored in front, and are read again: their words
module _ (rs : List Assignment) (ws₀ ws : List ℕ) (n : length rs ≡ 512) (m : 512 ≤ length ws₀) (e : ws ≡ sets ws₀ 0 (map record_word rs))
    (back : AllPlain rs → 512 ≤ length ws₀ → records_in ws ≡ rs) (p : AllPlain rs) where
  front_are : take 512 ws ≡ map record_word rs
  front_are =
      let k : length (map record_word rs) ≡ 512 = length-map rs record_word ∙ n in
      ap (take 512) (e ∙ sets-eq (map record_word rs) ws₀ 0 (omega (arith, k))) ∙ take_at (map record_word rs) _ 512 k

  pub front_words : WordsOf rs (take 512 ws)
  front_words =
      record {
        words_are = front_are;
        read_so =
            sym (in_front (take 512 ws) (drop 512 ws) (ap length front_are ∙ length-map rs record_word ∙ n)) ∙ ap records_in (take-append-drop 512 ws) ∙ back p m;
      }

  -- where they take all words
  pub stored_words : length ws₀ ≡ 512 → WordsOf rs ws
  stored_words k = subst (WordsOf rs) (take_all 512 ws (omega (arith, k, ap length e, length-sets ws₀ 0 (map record_word rs)))) front_words

module _ {rs : List Assignment} {ws : List ℕ} (w : WordsOf rs ws) where
  pub word_read : (v : ℕ) → v < 512 → record_in (get_or ws v 0) ≡ get_or rs v Dead
  word_read v h = sym (record_in_lem ws v h) ∙ ap (λ (l : List Assignment). get_or l v Dead) w.read_so

  pub held_are : held_in ws ≡ map record_weight rs
  unfolding held_in
  held_are = ap (λ (l : List Assignment). map record_weight l) w.read_so

  -- one record more is stored
  pub word_set : length rs ≡ 512 → (v x : ℕ) (a : Assignment) → x ≡ record_word a → record_in x ≡ a → WordsOf (set rs v a) (set ws v x)
  word_set n v x a e b =
      let long : length ws ≡ 512 = ap length w.words_are ∙ length-map rs record_word ∙ n in
      record {
        words_are = rw (w.words_are, e) (map_set record_word rs v a);
        read_so = records_set ws (omega (arith, long)) v x a b ∙ ap (λ (l : List Assignment). set l v a) w.read_so;
      }
