-- Laws of the queue: the tournament's words are decided by its matches; storing a word and playing the matches above it is the tournament of the
-- changed keys; word 1 names who is next. Assumes nothing.
use Prim.Native.Nat.{ℕ, zero, suc, ◌+◌, ◌*◌, ◌^◌, ◌-◌, ◌/◌, ◌%◌, ◌≤◌, ◌<◌, min, max}
use native.Mathlib.Decide.{dec_lt, ℕ_discrete}
use native.Mathlib.Omega.{arith}
use native.Mathlib.Nat.{add-zero}
use native.Mathlib.Numerals.{add-one}
use mathlib.Core.Path.{◌≡◌, refl, ap, sym, ◌∙◌}
use mathlib.Core.Logic.{◌⊎◌, inl, inr, ⊎_elim}
use mathlib.Core.List.{List, [], ◌∷◌, ◌++◌, map}
use mathlib.Core.Option.{Option, none, some}
use mathlib.Core.Bool.{Bool, true, false, not, cond}
use lib.Dec.{ltb}
use lib.ListN.{length, take, drop, get_or, set, length-append, length-take, length-drop, length-set, length-map, take-append-drop, drop_of_length-le, get_or-append, get_or-map, replicate, length-replicate, get_or-replicate}
use lib.Seq.{get_or-set_same, get_or-set_other, set-append_left, drop-set-lt, drop-set-add, get_or-take, get_or-drop, get_or-append-add, drop_at, drop-cons, ext_get_or}
use borrow.Author.Tests.{lt-ltb, le-ltb, ne_eqb, ltb-true, ltb-false}
use Rattle.reg_matrix.specs.Lists.{count, is_nil, padded}
use Rattle.reg_matrix.proofs.Places.{replicate_default, from_zero, count_length}
use Rattle.allocator.proofs.Records.{set_numbers}
use Rattle.job.specs.declared.Hint.{Hint}
use Rattle.job.specs.Model.{Job, VirtReg, no_virt_reg, virt_reg}
use Rattle.job.specs.Layout.{starts_from, job_buffers}
use Rattle.job.proofs.Lists.{starts_length}
use Rattle.allocator.specs.State.{State, fresh_state}
use Rattle.allocator.specs.declared.Stage.{Stage}
use Rattle.allocator.specs.declared.Stage.TheVariants.{Evict, Split}
use Rattle.allocator.specs.Queue.{encode, Queued, ahead, next_from}
use Rattle.allocator.specs.Layout.{pair_max, rounds, key_word, queue_words}
use Rattle.queue.proofs.Turns.{play_length}
use Rattle.std.proofs.Common.{Some}
use Rattle.queue.specs.QueueWalk.{key_of, decoded, play_at, climb, set_word, first_word, leaves_from, play_from, filled, next_number}

-- ---- rounds

-- how many keys n rounds are played over
unfoldable pub width : ℕ → ℕ
width zero = 1
width (suc n) = width n + width n

pub width_pos : (n : ℕ) → 0 < width n
unfolding width
width_pos zero = omega arith
width_pos (suc n) = omega (arith, width_pos n)

pair_length : (m : ℕ) (ks : List ℕ) → length ks ≡ m + m → length (pair_max ks) ≡ m
unfolding pair_max
pair_length zero [] h = refl
pair_length (suc m) [] h = absurd (omega arith)
pair_length m (a ∷ []) h = absurd (omega arith)
pair_length zero (a ∷ b ∷ ks) h = absurd (omega arith)
pair_length (suc m) (a ∷ b ∷ ks) h = ap suc (pair_length m ks (omega arith))

pair_at : (ks : List ℕ) (k : ℕ) → 2 * k + 1 < length ks → get_or (pair_max ks) k 0 ≡ max (get_or ks (2 * k) 0) (get_or ks (2 * k + 1) 0)
unfolding pair_max
pair_at [] k h = absurd (omega arith)
pair_at (a ∷ []) k h = absurd (omega arith)
pair_at (a ∷ b ∷ ks) zero h = refl
pair_at (a ∷ b ∷ ks) (suc k) h =
    let d : 2 * suc k ≡ suc (suc (2 * k)) = omega arith in
    let e : 2 * suc k + 1 ≡ suc (suc (2 * k + 1)) = omega arith in
    rw (e, d) (pair_at ks k (omega arith))

rounds_length : (n : ℕ) (ks : List ℕ) → length ks ≡ width n → length (0 ∷ rounds n ks) ≡ width n + width n
unfolding rounds width
rounds_length zero ks h = ap suc h
rounds_length (suc n) ks h =
    simp length-append (omega (arith, rounds_length n (pair_max ks) (pair_length (width n) ks h)))

rounds_leaves : (n : ℕ) (ks : List ℕ) → length ks ≡ width n → drop (width n) (0 ∷ rounds n ks) ≡ ks
unfolding rounds width
rounds_leaves zero ks h = refl
rounds_leaves (suc n) ks h = drop_at (0 ∷ rounds n (pair_max ks)) ks (width n + width n) (rounds_length n (pair_max ks) (pair_length (width n) ks h))

-- word i is the greater of the two below it
abbrev pub Match : List ℕ → ℕ → Type 0
Match q i = get_or q i 0 ≡ max (get_or q (2 * i) 0) (get_or q (2 * i + 1) 0)

rounds_match : (n : ℕ) (ks : List ℕ) → length ks ≡ width n → (i : ℕ) → 0 < i → i < width n → Match (0 ∷ rounds n ks) i
unfolding rounds width
rounds_match zero ks h i p l = absurd (omega arith)
rounds_match (suc n) ks h i p l =
    let g = pair_length (width n) ks h in
    let e = rounds_length n (pair_max ks) g in
    elim (dec_lt i (width n)) as (λ _. Match ((0 ∷ rounds n (pair_max ks)) ++ ks) i) [
      | yes a ↦ low (0 ∷ rounds n (pair_max ks)) e a (rounds_match n (pair_max ks) g i p a)
      | no a ↦ high (0 ∷ rounds n (pair_max ks)) e (rounds_leaves n (pair_max ks) g) a
    ]
  where
    low : (q : List ℕ) → length q ≡ width n + width n → i < width n → Match q i → Match (q ++ ks) i
    low q e a m =
        get_or-append q ks 0 i (omega arith) ∙ m
        ∙ sym (rw (get_or-append q ks 0 (2 * i) (omega arith), get_or-append q ks 0 (2 * i + 1) (omega arith)))

    high : (q : List ℕ) → length q ≡ width n + width n → drop (width n) q ≡ pair_max ks → (i < width n → ⊥) → Match (q ++ ks) i
    high q e d a =
        let x : width n + (i - width n) ≡ i = omega arith in
        let y : length q + 2 * (i - width n) ≡ 2 * i = omega arith in
        let z : length q + (2 * (i - width n) + 1) ≡ 2 * i + 1 = omega arith in
        let u : get_or q i 0 ≡ get_or (pair_max ks) (i - width n) 0 = rw (← d, get_or-drop, x) in
        let f = get_or-append-add q ks (2 * (i - width n)) 0 in
        let g = get_or-append-add q ks (2 * (i - width n) + 1) 0 in
        get_or-append q ks 0 i (omega arith) ∙ u ∙ pair_at ks (i - width n) (omega arith)
        ∙ rw (← f, ← g, y, z)

join_rounds : (n : ℕ) (p ks : List ℕ) → p ≡ 0 ∷ rounds n (drop (width n) p) → drop (width n) p ≡ pair_max ks → p ++ ks ≡ 0 ∷ rounds (suc n) ks
unfolding rounds
join_rounds n p ks s t = ap (λ x. x ++ ks) (s ∙ ap (λ x. 0 ∷ rounds n x) t)

-- words whose matches are all played are the rounds of their last half
match_rounds : (n : ℕ) (q : List ℕ) → length q ≡ width n + width n → get_or q 0 0 ≡ 0 → ((i : ℕ) → 0 < i → i < width n → Match q i) → q ≡ 0 ∷ rounds n (drop (width n) q)
unfolding rounds width
match_rounds zero [] h z m = absurd (omega arith)
match_rounds zero (a ∷ []) h z m = absurd (omega arith)
match_rounds zero (a ∷ b ∷ []) h z m = ap (λ x. x ∷ b ∷ []) z
match_rounds zero (a ∷ b ∷ c ∷ q) h z m = absurd (omega arith)
match_rounds (suc n) q h z m =
    let w = width n in
    let p = take (w + w) q in
    let ks = drop (w + w) q in
    let lp : length p ≡ w + w = simp length-take (omega arith) in
    let lk : length ks ≡ w + w = simp length-drop (omega arith) in
    let wp : 0 < w = width_pos n in
    let s = match_rounds n p lp (get_or-take (w + w) q 0 0 (omega arith) ∙ z) (λ i a b. part i a b) in
    let t : drop w p ≡ pair_max ks = ext_get_or 0 (drop w p) (pair_max ks) (simp length-drop (rw (pair_length w ks lk) (omega arith))) (λ i b. half i (omega (arith, length-drop w p))) in
    sym (take-append-drop (w + w) q) ∙ join_rounds n p ks s t
  where
    part : (i : ℕ) → 0 < i → i < width n → Match (take (width n + width n) q) i
    part i a b =
        get_or-take (width n + width n) q i 0 (omega arith) ∙ m i a (omega arith)
        ∙ sym (rw (get_or-take (width n + width n) q (2 * i) 0 (omega arith), get_or-take (width n + width n) q (2 * i + 1) 0 (omega arith)))

    half : (i : ℕ) → i < width n → get_or (drop (width n) (take (width n + width n) q)) i 0 ≡ get_or (pair_max (drop (width n + width n) q)) i 0
    half i b =
        let x : 2 * (width n + i) ≡ width n + width n + 2 * i = omega arith in
        let y : 2 * (width n + i) + 1 ≡ width n + width n + (2 * i + 1) = omega arith in
        let l : 2 * i + 1 < length (drop (width n + width n) q) = simp length-drop (omega arith) in
        get_or-drop (width n) (take (width n + width n) q) i 0
        ∙ get_or-take (width n + width n) q (width n + i) 0 (omega arith)
        ∙ m (width n + i) (omega (arith, width_pos n)) (omega arith)
        ∙ rw (y, x, ← get_or-drop (width n + width n) q (2 * i) 0, ← get_or-drop (width n + width n) q (2 * i + 1) 0)
        (sym (pair_at (drop (width n + width n) q) i l))

-- ---- a word stored, and the matches above it

-- all matches but the one at j are played
abbrev But : ℕ → List ℕ → Type 0
But j q = (i : ℕ) → 0 < i → i < 512 → (i ≡ j → ⊥) → Match q i

-- a match that a store at k has nothing to do with
match_other : (q : List ℕ) (k w i : ℕ) → (i ≡ k → ⊥) → (2 * i ≡ k → ⊥) → (2 * i + 1 ≡ k → ⊥) → Match q i → Match (set q k w) i
match_other q k w i a b c m =
    get_or-set_other q k i w 0 a ∙ m ∙ sym (rw (get_or-set_other q k (2 * i) w 0 b, get_or-set_other q k (2 * i + 1) w 0 c))

play_match : (q : List ℕ) (i : ℕ) → 0 < i → i < length q → Match (play_at q i) i
unfolding play_at
play_match q i p l =
    get_or-set_same q i (max (get_or q (2 * i) 0) (get_or q (2 * i + 1) 0)) 0 l
    ∙ sym (rw (get_or-set_other q i (2 * i) (max (get_or q (2 * i) 0) (get_or q (2 * i + 1) 0)) 0 (λ e. omega arith), get_or-set_other q i (2 * i + 1) (max (get_or q (2 * i) 0) (get_or q (2 * i + 1) 0)) 0 (λ e. omega arith)))

play_other : (q : List ℕ) (k i : ℕ) → (i ≡ k → ⊥) → (2 * i ≡ k → ⊥) → (2 * i + 1 ≡ k → ⊥) → Match q i → Match (play_at q k) i
unfolding play_at
play_other q k i a b c m = match_other q k (max (get_or q (2 * k) 0) (get_or q (2 * k + 1) 0)) i a b c m

play_but : (q : List ℕ) (i : ℕ) → length q ≡ 1024 → 0 < i → i < 512 → But i q → But (i / 2) (play_at q i)
play_but q i l p h b k s t d =
    elim (ℕ_discrete k i) as (λ _. Match (play_at q i) k) [
      | yes e ↦ rw e (play_match q i p (omega arith))
      | no e ↦ play_other q i k e (λ x. d (omega arith)) (λ x. d (omega arith)) (b k s t e)
    ]

climb_match : (n : ℕ) (q : List ℕ) (i : ℕ) → length q ≡ 1024 → width n ≤ i → i < width n + width n → i < 1024 → But (i / 2) q → (k : ℕ) → 0 < k → k < 512 → Match (climb n q i) k
unfolding climb width
climb_match zero q i l a b h m k s t = m k s t (λ e. omega arith)
climb_match (suc n) q i l a b h m k s t =
    climb_match n (play_at q (i / 2)) (i / 2) (play_length q (i / 2) ∙ l) (omega arith) (omega arith) (omega arith)
    (play_but q (i / 2) l (omega (arith, width_pos n)) (omega arith) m) k s t

play_leaves : (q : List ℕ) (i : ℕ) → i < 512 → drop 512 (play_at q i) ≡ drop 512 q
unfolding play_at
play_leaves q i h = drop-set-lt 512 q i (max (get_or q (2 * i) 0) (get_or q (2 * i + 1) 0)) h

play_zero : (q : List ℕ) (i : ℕ) → 0 < i → get_or (play_at q i) 0 0 ≡ get_or q 0 0
unfolding play_at
play_zero q i h = get_or-set_other q i 0 (max (get_or q (2 * i) 0) (get_or q (2 * i + 1) 0)) 0 (λ e. omega arith)

climb_leaves : (n : ℕ) (q : List ℕ) (i : ℕ) → i < 1024 → drop 512 (climb n q i) ≡ drop 512 q
unfolding climb
climb_leaves zero q i h = refl
climb_leaves (suc n) q i h = climb_leaves n (play_at q (i / 2)) (i / 2) (omega arith) ∙ play_leaves q (i / 2) (omega arith)

climb_zero : (n : ℕ) (q : List ℕ) (i : ℕ) → width n ≤ i → get_or (climb n q i) 0 0 ≡ get_or q 0 0
unfolding climb width
climb_zero zero q i h = refl
climb_zero (suc n) q i h = climb_zero n (play_at q (i / 2)) (i / 2) (omega arith) ∙ play_zero q (i / 2) (omega (arith, width_pos n))

climb_length : (n : ℕ) (q : List ℕ) (i : ℕ) → length (climb n q i) ≡ length q
unfolding climb
climb_length zero q i = refl
climb_length (suc n) q i = climb_length n (play_at q (i / 2)) (i / 2) ∙ play_length q (i / 2)

-- what stands past the words stays
play_front : (q t : List ℕ) (i : ℕ) → length q ≡ 1024 → i < 512 → play_at (q ++ t) i ≡ play_at q i ++ t
unfolding play_at
play_front q t i l h =
    rw (get_or-append q t 0 (2 * i) (omega arith), get_or-append q t 0 (2 * i + 1) (omega arith))
    (set-append_left q t i (max (get_or q (2 * i) 0) (get_or q (2 * i + 1) 0)) (omega arith))

climb_front : (n : ℕ) (q t : List ℕ) (i : ℕ) → length q ≡ 1024 → i < 1024 → climb n (q ++ t) i ≡ climb n q i ++ t
unfolding climb
climb_front zero q t i l h = refl
climb_front (suc n) q t i l h =
    ap (λ x. climb n x (i / 2)) (play_front q t (i / 2) l (omega arith))
    ∙ climb_front n (play_at q (i / 2)) t (i / 2) (play_length q (i / 2) ∙ l) (omega arith)

width_nine : width 9 ≡ 512
unfolding width
width_nine = refl

nine : (ks : List ℕ) → length ks ≡ 512 → length (0 ∷ rounds 9 ks) ≡ 1024
nine ks l = rw width_nine at (rounds_length 9 ks (l ∙ sym width_nine))

nine_leaves : (ks : List ℕ) → length ks ≡ 512 → drop 512 (0 ∷ rounds 9 ks) ≡ ks
nine_leaves ks l = rw width_nine at (rounds_leaves 9 ks (l ∙ sym width_nine))

nine_match : (ks : List ℕ) → length ks ≡ 512 → (i : ℕ) → 0 < i → i < 512 → Match (0 ∷ rounds 9 ks) i
nine_match ks l i p h = rounds_match 9 ks (l ∙ sym width_nine) i p (rw width_nine h)

match_nine : (q : List ℕ) → length q ≡ 1024 → get_or q 0 0 ≡ 0 → ((i : ℕ) → 0 < i → i < 512 → Match q i) → q ≡ 0 ∷ rounds 9 (drop 512 q)
match_nine q l z m = rw width_nine at (match_rounds 9 q (rw width_nine l) z (λ i p h. m i p (rw width_nine at h)))

-- a word stored in the tournament of the keys ks gives the tournament of the changed keys, and what stands past it stays
pub set_words : (ks : List ℕ) (v w : ℕ) (t : List ℕ) → length ks ≡ 512 → v < 512 → set_word v w ((0 ∷ rounds 9 ks) ++ t) ≡ (0 ∷ rounds 9 (set ks v w)) ++ t
unfolding set_word
set_words ks v w t l h =
    let q : List ℕ = 0 ∷ rounds 9 ks in
    let lq = nine ks l in
    let p = set q (512 + v) w in
    let lp : length p ≡ 1024 = length-set q (512 + v) w ∙ lq in
    let r = climb 9 p (512 + v) in
    let m : (k : ℕ) → 0 < k → k < 512 → Match r k =
    climb_match 9 p (512 + v) lp (rw width_nine (omega arith)) (rw width_nine (omega arith)) (omega arith)
    (λ k s g d. match_other q (512 + v) w k (λ e. omega arith) (λ e. d (omega arith)) (λ e. d (omega arith)) (nine_match ks l k s g)) in
    let z : get_or r 0 0 ≡ 0 = climb_zero 9 p (512 + v) (rw width_nine (omega arith)) ∙ get_or-set_other q (512 + v) 0 w 0 (λ e. omega arith) in
    let d : drop 512 r ≡ set ks v w = climb_leaves 9 p (512 + v) (omega arith) ∙ drop-set-add 512 q v w ∙ ap (λ x. set x v w) (nine_leaves ks l) in
    let e : r ≡ 0 ∷ rounds 9 (set ks v w) = match_nine r (climb_length 9 p (512 + v) ∙ lp) z m ∙ ap (λ x. 0 ∷ rounds 9 x) d in
    rw (lt-ltb v 512 h) (ap (λ x. climb 9 x (512 + v)) (set-append_left q t (512 + v) w (omega arith)) ∙ climb_front 9 p t (512 + v) lp (omega arith) ∙ ap (λ x. x ++ t) e)

-- ---- the whole tournament written

leaves_length : (f : ℕ → ℕ) (n v : ℕ) (q : List ℕ) → length (leaves_from f n v q) ≡ length q
unfolding leaves_from
leaves_length f zero v q = refl
leaves_length f (suc n) v q = leaves_length f n (suc v) (set q (512 + v) (f v)) ∙ length-set q (512 + v) (f v)

leaves_before : (f : ℕ → ℕ) (n v : ℕ) (q : List ℕ) (i : ℕ) → i < 512 + v → get_or (leaves_from f n v q) i 0 ≡ get_or q i 0
unfolding leaves_from
leaves_before f zero v q i h = refl
leaves_before f (suc n) v q i h = leaves_before f n (suc v) (set q (512 + v) (f v)) i (omega arith) ∙ get_or-set_other q (512 + v) i (f v) 0 (λ e. omega arith)

leaves_are : (f : ℕ → ℕ) (n v : ℕ) (q : List ℕ) → length q ≡ 512 + v + n → drop (512 + v) (leaves_from f n v q) ≡ map f (count v n)
unfolding leaves_from count
leaves_are f zero v q l = let h : length q ≤ 512 + v = omega arith in drop_of_length-le q h
leaves_are f (suc n) v q l =
    let p = set q (512 + v) (f v) in
    let r = leaves_from f n (suc v) p in
    let lp : length p ≡ length q = length-set q (512 + v) (f v) in
    let lr : length r ≡ length p = leaves_length f n (suc v) p in
    let a : get_or r (512 + v) 0 ≡ f v = leaves_before f n (suc v) p (512 + v) (omega arith) ∙ get_or-set_same q (512 + v) (f v) 0 (omega arith) in
    let e : suc (512 + v) ≡ 512 + suc v = omega arith in
    drop-cons r (512 + v) 0 (omega arith) ∙ rw (a, e) (ap (λ x. f v ∷ x) (leaves_are f n (suc v) p (omega arith)))

leaves_front : (f : ℕ → ℕ) (n v : ℕ) (q t : List ℕ) → length q ≡ 512 + v + n → leaves_from f n v (q ++ t) ≡ leaves_from f n v q ++ t
unfolding leaves_from
leaves_front f zero v q t l = refl
leaves_front f (suc n) v q t l =
    ap (λ x. leaves_from f n (suc v) x) (set-append_left q t (512 + v) (f v) (omega arith))
    ∙ leaves_front f n (suc v) (set q (512 + v) (f v)) t (length-set q (512 + v) (f v) ∙ l ∙ omega arith)

plays_match : (n : ℕ) (q : List ℕ) → length q ≡ 1024 → n < 512 → ((k : ℕ) → n < k → k < 512 → Match q k) → (k : ℕ) → 0 < k → k < 512 → Match (play_from n q) k
unfolding play_from
plays_match zero q l h m k s t = m k s t
plays_match (suc n) q l h m k s t =
    plays_match n (play_at q (suc n)) (play_length q (suc n) ∙ l) (omega arith) (λ i a b. go i a b (ℕ_discrete i (suc n))) k s t
  where
    go : (i : ℕ) → n < i → i < 512 → Dec (i ≡ suc n) → Match (play_at q (suc n)) i
    go i a b (yes e) = rw e (play_match q (suc n) (omega arith) (omega arith))
    go i a b (no e) = play_other q (suc n) i e (λ x. omega arith) (λ x. omega arith) (m i (omega arith) b)

plays_leaves : (n : ℕ) (q : List ℕ) → n < 512 → drop 512 (play_from n q) ≡ drop 512 q
unfolding play_from
plays_leaves zero q h = refl
plays_leaves (suc n) q h = plays_leaves n (play_at q (suc n)) (omega arith) ∙ play_leaves q (suc n) h

plays_length : (n : ℕ) (q : List ℕ) → length (play_from n q) ≡ length q
unfolding play_from
plays_length zero q = refl
plays_length (suc n) q = plays_length n (play_at q (suc n)) ∙ play_length q (suc n)

plays_front : (n : ℕ) (q t : List ℕ) → length q ≡ 1024 → n < 512 → play_from n (q ++ t) ≡ play_from n q ++ t
unfolding play_from
plays_front zero q t l h = refl
plays_front (suc n) q t l h = ap (play_from n) (play_front q t (suc n) l h) ∙ plays_front n (play_at q (suc n)) t (play_length q (suc n) ∙ l) (omega arith)

-- whatever stood there
pub filled_words : (f : ℕ → ℕ) (q t : List ℕ) → length q ≡ 1024 → filled f (q ++ t) ≡ (0 ∷ rounds 9 (map f (count 0 512))) ++ t
unfolding filled
filled_words f q t l =
    let a = leaves_from f 512 0 q in
    let la : length a ≡ 1024 = leaves_length f 512 0 q ∙ l in
    let b = play_from 511 a in
    let lb : length b ≡ 1024 = plays_length 511 a ∙ la in
    let r = set b 0 0 in
    let m : (k : ℕ) → 0 < k → k < 512 → Match r k =
    λ k s g. match_other b 0 0 k (λ e. omega arith) (λ e. omega arith) (λ e. omega arith) (plays_match 511 a la (omega arith) (λ i x y. absurd (omega arith)) k s g) in
    let d : drop 512 r ≡ map f (count 0 512) = drop-set-lt 512 b 0 0 (omega arith) ∙ plays_leaves 511 a (omega arith) ∙ leaves_are f 512 0 q l in
    let e : r ≡ 0 ∷ rounds 9 (map f (count 0 512)) = match_nine r (length-set b 0 0 ∙ lb) (get_or-set_same b 0 0 0 (omega arith)) m ∙ ap (λ x. 0 ∷ rounds 9 x) d in
    ap (λ x. set (play_from 511 x) 0 0) (leaves_front f 512 0 q t l) ∙ ap (λ x. set x 0 0) (plays_front 511 a t la (omega arith)) ∙ set-append_left b t 0 0 (omega arith) ∙ ap (λ x. x ++ t) e

-- ---- the greatest

unfoldable max_of : List ℕ → ℕ
max_of [] = 0
max_of (k ∷ ks) = max k (max_of ks)

pair_max_lem : (ks : List ℕ) → max_of (pair_max ks) ≡ max_of ks
unfolding pair_max max_of
pair_max_lem [] = refl
pair_max_lem (a ∷ []) = refl
pair_max_lem (a ∷ b ∷ ks) = rw (pair_max_lem ks) (omega arith)

rounds_first : (n : ℕ) (ks : List ℕ) → length ks ≡ width n → get_or (rounds n ks) 0 0 ≡ max_of ks
unfolding rounds width max_of
rounds_first zero [] h = absurd (omega arith)
rounds_first zero (k ∷ []) h = omega arith
rounds_first zero (k ∷ l ∷ ks) h = absurd (omega arith)
rounds_first (suc n) ks h =
    let g = pair_length (width n) ks h in
    get_or-append (rounds n (pair_max ks)) ks 0 0 (omega (arith, rounds_length n (pair_max ks) g, width_pos n))
    ∙ rounds_first n (pair_max ks) g ∙ pair_max_lem ks

-- the words of numbers from v on that wait so
unfoldable words_from : Job → ℕ → List (Option Stage) → List ℕ
words_from j v [] = []
words_from j v (q ∷ qs) = key_word j v q ∷ words_from j (suc v) qs

words_are : (j : Job) (v : ℕ) (qs : List (Option Stage)) (g : ℕ → Option Stage) → ((k : ℕ) → k < length qs → g (v + k) ≡ get_or qs k none)
    → map (λ u. key_word j u (g u)) (count v (length qs)) ≡ words_from j v qs
unfolding words_from count
words_are j v [] g h = refl
words_are j v (q ∷ qs) g h =
    let a : g v ≡ q = rw add-zero at (h 0 (omega arith)) in
    rw a (ap (λ x. key_word j v q ∷ x) (words_are j (suc v) qs g (λ k b. let e : suc v + k ≡ v + suc k = omega arith in rw e (h (suc k) (omega arith)))))

-- the word of who is next
abbrev mark_of : Option Queued → ℕ
mark_of none = 0
mark_of (some q) = q.key + 1

max_ahead : (q : Queued) (r : Option Queued) → max (q.key + 1) (mark_of r) ≡ mark_of (ahead q r)
max_ahead q none = omega arith
max_ahead q (some r) = go (ltb r.key q.key) refl
  where
    go : (b : Bool) → ltb r.key q.key ≡ b → max (q.key + 1) (r.key + 1) ≡ mark_of (cond b (some q) (some r))
    go true e = let h : r.key < q.key = ltb-true _ _ e in omega arith
    go false e = let h : q.key ≤ r.key = ltb-false _ _ e in omega arith

words_max : (j : Job) (v : ℕ) (qs : List (Option Stage)) → max_of (words_from j v qs) ≡ mark_of (next_from j v qs)
unfolding words_from max_of next_from
words_max j v [] = refl
words_max j v (none ∷ qs) = rw (words_max j (suc v) qs) (omega arith)
words_max j v (some q ∷ qs) = rw (words_max j (suc v) qs) (max_ahead (record { number = v; stage = q; key = encode j v q }) (next_from j (suc v) qs))

-- who is next has its own key, and a number of the queue
abbrev Own : Job → ℕ → Option Queued → Type 0
Own j n none = Unit {0}
Own j n (some q) = (q.key ≡ encode j q.number q.stage) × (q.number < n)

ahead_own : (j : Job) (n : ℕ) (q : Queued) (r : Option Queued) → Own j n (some q) → Own j n r → Own j n (ahead q r)
ahead_own j n q none a b = a
ahead_own j n q (some r) a b = go (ltb r.key q.key)
  where
    go : (c : Bool) → Own j n (cond c (some q) (some r))
    go true = a
    go false = b

next_own : (j : Job) (n v : ℕ) (qs : List (Option Stage)) → v + length qs ≤ n → Own j n (next_from j v qs)
unfolding next_from
next_own j n v [] h = tt
next_own j n v (none ∷ qs) h = next_own j n (suc v) qs (omega arith)
next_own j n v (some q ∷ qs) h = ahead_own j n (record { number = v; stage = q; key = encode j v q }) (next_from j (suc v) qs) (refl, omega arith) (next_own j n (suc v) qs (omega arith))

two : (b : Bool) → (cond b 0 (2 ^ 62) ≡ 0) ⊎ (cond b 0 (2 ^ 62) ≡ 2 ^ 62)
two true = inl refl
two false = inr refl

-- a key names its number and its stage
key_decoded : (j : Job) (v : ℕ) (q : Stage) → v < 512 → decoded (encode j v q + 1) ≡ Some (record { number = v; stage = q })
unfolding encode decoded
key_decoded j v Evict h =
    let z = cond (is_nil (virt_reg j v).hints) 0 (2 ^ 62) in
    let s = min (virt_reg j v).size (2 ^ 27 - 1) in
    let k = 2 ^ 63 + z + s * 2 ^ 32 + v in
    let e : (k + 1 - 1) % 2 ^ 16 ≡ v = ⊎_elim (λ x. omega arith) (λ x. omega arith) (two (is_nil (virt_reg j v).hints)) in
    rw (ne_eqb (k + 1) 0 (λ x. omega arith), lt-ltb (2 ^ 63) (k + 1) (omega arith), e)
key_decoded j v Split h =
    let z = cond (is_nil (virt_reg j v).hints) 0 (2 ^ 62) in
    let s = min (virt_reg j v).size (2 ^ 27 - 1) in
    let k = 0 + z + s * 2 ^ 32 + v in
    let e : (k + 1 - 1) % 2 ^ 16 ≡ v = ⊎_elim (λ x. omega arith) (λ x. omega arith) (two (is_nil (virt_reg j v).hints)) in
    let l : k + 1 ≤ 2 ^ 63 = ⊎_elim (λ x. omega arith) (λ x. omega arith) (two (is_nil (virt_reg j v).hints)) in
    rw (ne_eqb (k + 1) 0 (λ x. omega arith), le-ltb (2 ^ 63) (k + 1) l, e)

mark_decoded : (j : Job) (r : Option Queued) → Own j 512 r → decoded (mark_of r) ≡ next_number r
unfolding decoded
mark_decoded j none o = refl
mark_decoded j (some q) o = ap (λ x. decoded (x + 1)) o.0 ∙ key_decoded j q.number q.stage o.1

-- ---- the queue of a state

-- a function of the numbers, as a list, read at a place
key_at : (g : ℕ → ℕ) (n i : ℕ) → i < n → get_or (map g (count 0 n)) i 0 ≡ g i
key_at g n i h = from_zero g 0 n i h

numbers_length : (g : ℕ → ℕ) → length (map g (count 0 512)) ≡ 512
numbers_length g = length-map (count 0 512) g ∙ count_length 0 512

-- two functions that agree on the numbers
same_numbers : (f g : ℕ → ℕ) (n : ℕ) → ((v : ℕ) → v < n → f v ≡ g v) → map f (count 0 n) ≡ map g (count 0 n)
same_numbers f g n h =
    ext_get_or 0 (map f (count 0 n)) (map g (count 0 n)) (length-map (count 0 n) f ∙ sym (length-map (count 0 n) g))
    (λ i b. let l : i < n = omega (arith, length-map (count 0 n) f, count_length 0 n) in key_at f n i l ∙ h i l ∙ sym (key_at g n i l))

pub tournament_length : (j : Job) (s : State) → length (queue_words j s) ≡ 1024
unfolding queue_words
tournament_length j s = nine (map (λ v. key_word j v (get_or s.queued v none)) (count 0 512)) (numbers_length (λ v. key_word j v (get_or s.queued v none)))

module _ (j : Job) (s : State) (b : List ℕ) (size : length s.queued ≡ 512) (here : take 1024 b ≡ queue_words j s) where
  -- word 1 names who is next
  pub greatest_next : decoded (get_or b 1 0) ≡ next_number (next_from j 0 s.queued)
  unfolding queue_words
  greatest_next =
      let g : ℕ → ℕ = λ v. key_word j v (get_or s.queued v none) in
      let a : get_or b 1 0 ≡ get_or (0 ∷ rounds 9 (map g (count 0 512))) 1 0 = sym (get_or-take 1024 b 1 0 (omega arith)) ∙ ap (λ x. get_or x 1 0) here in
      let m = rounds_first 9 (map g (count 0 512)) (numbers_length g ∙ sym width_nine) in
      let w : map g (count 0 512) ≡ words_from j 0 s.queued = rw size at (words_are j 0 s.queued (λ v. get_or s.queued v none) (λ k h. ap (λ x. get_or s.queued x none) (omega arith))) in
      ap decoded (a ∙ m ∙ ap max_of w ∙ words_max j 0 s.queued) ∙ mark_decoded j (next_from j 0 s.queued) (next_own j 512 0 s.queued (omega arith))

  -- v's stage changed in the state, and its word in the queue
  pub set_tournament : (t : State) (v : ℕ) (q : Option Stage) → v < 512 → t.queued ≡ set s.queued v q → set_word v (key_word j v q) b ≡ queue_words j t ++ drop 1024 b
  unfolding queue_words
  set_tournament t v q h e =
      let f : ℕ → ℕ = λ u. key_word j u (get_or s.queued u none) in
      let g : ℕ → ℕ = λ u. key_word j u (get_or t.queued u none) in
      let ks = map f (count 0 512) in
      let here-now : g v ≡ key_word j v q = ap (key_word j v) (ap (λ l. get_or l v none) e ∙ get_or-set_same s.queued v q none (omega arith)) in
      let k : set ks v (key_word j v q) ≡ map g (count 0 512) =
      ap (set ks v) (sym here-now)
      ∙ sym (set_numbers f g 0 512 v h (λ u d. ap (key_word j u) (ap (λ l. get_or l u none) e ∙ get_or-set_other s.queued v u q none d))) in
      ap (set_word v (key_word j v q)) (sym (take-append-drop 1024 b) ∙ ap (λ x. x ++ drop 1024 b) here)
      ∙ set_words ks v (key_word j v q) (drop 1024 b) (numbers_length f) h
      ∙ ap (λ x. (0 ∷ rounds 9 x) ++ drop 1024 b) k

-- the queue written from words that agree with the state's
pub filled_tournament : (j : Job) (s : State) (f : ℕ → ℕ) (b : List ℕ) → 1024 ≤ length b → ((v : ℕ) → v < 512 → f v ≡ key_word j v (get_or s.queued v none)) → filled f b ≡ queue_words j s ++ drop 1024 b
unfolding queue_words
filled_tournament j s f b l h =
    ap (filled f) (sym (take-append-drop 1024 b))
    ∙ filled_words f (take 1024 b) (drop 1024 b) (length-take 1024 b ∙ omega arith)
    ∙ ap (λ x. (0 ∷ rounds 9 x) ++ drop 1024 b) (same_numbers f (λ v. key_word j v (get_or s.queued v none)) 512 h)

-- the key by its parts is the key of the job's virtual register
pub key_is : (j : Job) (v : ℕ) (q : Stage) (hints : Bool) → hints ≡ not (is_nil (virt_reg j v).hints) → key_of v hints (virt_reg j v).size q ≡ encode j v q
unfolding key_of encode
key_is j v q hints e = rw (e, cond_not (is_nil (virt_reg j v).hints) (2 ^ 62) 0)
  where
    cond_not : (b : Bool) (x y : ℕ) → cond (not b) x y ≡ cond b y x
    cond_not true x y = refl
    cond_not false x y = refl

-- ---- the queue as loading leaves it

module _ {A : Type 0} where
  starts_next : (f : A → ℕ) (a : ℕ) (xs : List A) (d : A) (i : ℕ) → i < length xs → get_or (starts_from f a xs) (suc i) 0 ≡ get_or (starts_from f a xs) i 0 + f (get_or xs i d)
  unfolding starts_from
  starts_next f a [] d i h = absurd (omega arith)
  starts_next f a (x ∷ []) d zero h = refl
  starts_next f a (x ∷ y ∷ ys) d zero h = refl
  starts_next f a (x ∷ xs) d (suc i) h = starts_next f (a + f x) xs d i (omega arith)

  padded_at : (n : ℕ) (d e : A) (xs : List A) (i : ℕ) → i < length xs → get_or (padded n d xs) i e ≡ get_or xs i e
  unfolding padded
  padded_at n d e xs i h = get_or-append xs (replicate (n - length xs) d) e i h

  padded_past : (n : ℕ) (d : A) (xs : List A) (i : ℕ) → length xs ≤ i → get_or (padded n d xs) i d ≡ d
  unfolding padded
  padded_past n d xs i h =
      let e : length xs + (i - length xs) ≡ i = omega arith in
      rw e at (get_or-append-add xs (replicate (n - length xs) d) (i - length xs) d) ∙ replicate_default (n - length xs) (i - length xs) d

-- a virtual register has hints where the next one's start is greater
more_starts : (hs : List Hint) (a : ℕ) → ltb a (a + length hs) ≡ not (is_nil hs)
more_starts [] a = le-ltb a (a + 0) (omega arith)
more_starts (h ∷ hs) a = lt-ltb a (a + suc (length hs)) (omega arith)

module _ (j : Job) (few : length j.virt_regs ≤ 512) (starts sizes : List ℕ) (here : take 513 starts ≡ (job_buffers j).hint_starts) (there : take 512 sizes ≡ (job_buffers j).sizes) where
  start_at : (v : ℕ) → v ≤ length j.virt_regs → get_or starts v 0 ≡ get_or (starts_from (λ (x : VirtReg). length x.hints) 0 j.virt_regs) v 0
  unfolding job_buffers
  start_at v h =
      sym (get_or-take 513 starts v 0 (omega arith)) ∙ ap (λ l. get_or l v 0) here
      ∙ padded_at 513 0 0 (starts_from (λ (x : VirtReg). length x.hints) 0 j.virt_regs) v (omega (arith, starts_length (λ (x : VirtReg). length x.hints) 0 j.virt_regs))

  pub size_at : (v : ℕ) → v < length j.virt_regs → get_or sizes v 0 ≡ (virt_reg j v).size
  unfolding job_buffers virt_reg
  size_at v h =
      sym (get_or-take 512 sizes v 0 (omega arith)) ∙ ap (λ l. get_or l v 0) there
      ∙ padded_at 512 0 0 (map (λ (x : VirtReg). x.size) j.virt_regs) v (omega (arith, length-map j.virt_regs (λ (x : VirtReg). x.size)))
      ∙ get_or-map (λ (x : VirtReg). x.size) j.virt_regs v no_virt_reg

  pub has_hints : (v : ℕ) → v < length j.virt_regs → ltb (get_or starts v 0) (get_or starts (v + 1) 0) ≡ not (is_nil (virt_reg j v).hints)
  unfolding virt_reg
  has_hints v h =
      let s = starts_from (λ (x : VirtReg). length x.hints) 0 j.virt_regs in
      rw (start_at v (omega arith), start_at (v + 1) (omega arith), add-one, starts_next (λ (x : VirtReg). length x.hints) 0 j.virt_regs no_virt_reg v h)
      (more_starts (get_or j.virt_regs v no_virt_reg).hints (get_or s v 0))

  first_word_lem : (v : ℕ) → v < 512 → first_word (length j.virt_regs) starts sizes v ≡ key_word j v (get_or (fresh_state j).queued v none)
  unfolding first_word fresh_state
  first_word_lem v b = go (ltb v (length j.virt_regs)) refl
    where
      go : (t : Bool) → ltb v (length j.virt_regs) ≡ t
          → cond t (key_of v (ltb (get_or starts v 0) (get_or starts (v + 1) 0)) (get_or sizes v 0) Evict + 1) 0 ≡ key_word j v (get_or (padded 512 none (replicate (length j.virt_regs) (some Evict))) v none)
      go true e =
          let h : v < length j.virt_regs = ltb-true _ _ e in
          let q : get_or (padded 512 none (replicate (length j.virt_regs) (some Evict))) v none ≡ some Evict =
          padded_at 512 none none (replicate (length j.virt_regs) (some Evict)) v (omega (arith, length-replicate (length j.virt_regs) (some Evict)))
          ∙ get_or-replicate (length j.virt_regs) v (some Evict) none h in
          rw (q, size_at v h) (ap (λ x. x + 1) (key_is j v Evict (ltb (get_or starts v 0) (get_or starts (v + 1) 0)) (has_hints v h)))
      go false e =
          let h : length j.virt_regs ≤ v = ltb-false _ _ e in
          rw (padded_past 512 none (replicate (length j.virt_regs) (some Evict)) v (omega (arith, length-replicate (length j.virt_regs) (some Evict))))

  pub fresh_tournament : (b : List ℕ) → 1024 ≤ length b → filled (first_word (length j.virt_regs) starts sizes) b ≡ queue_words j (fresh_state j) ++ drop 1024 b
  fresh_tournament b l = filled_tournament j (fresh_state j) (first_word (length j.virt_regs) starts sizes) b l first_word_lem
