-- Lists of calls: the words of one call, and a loop over them, in which the rest of the list from here is the rest of the whole. Assumes nothing.
use Prim.Native.Nat.{ℕ, zero, suc, ◌+◌, ◌*◌, ◌/◌, ◌≤◌, ◌<◌}
use native.Mathlib.Omega.{arith}
use mathlib.Core.Path.{◌≡◌, refl, sym, ap, ◌∙◌, subst}
use mathlib.Core.Logic.{inl, ⊎_elim}
use mathlib.Core.List.{List, [], ◌∷◌}
use mathlib.Core.Bool.{Bool, true, false, cond, ◌||◌}
use lib.Dec.{T, leb, eqb, leb→le, le→leb, eqb→eq}
use lib.Ieee.{binary32, of_bits}
use lib.ListN.{length, get_or, set, drop, length-drop}
use Rattle.std.specs.Simd.{first_chunks}
use Rattle.std.proofs.lemmas.List.{get_or-take, get_or-drop}
use lib.Seq.{sets, drop-cons}
use borrow.Author.Tests.{lt-ltb, le-ltb}
use Rattle.std.specs.Prelude.{Option, Some, None}
use Rattle.std.proofs.lemmas.Option.{none-some}
use Rattle.reg_matrix.specs.Lists.{concat_map, foldl}
use Rattle.reg_matrix.proofs.Tests.{both, both_in, either, or_left, or_right, same_test, eqb_in, lt_or_le}
use Rattle.job.specs.Model.{Job}
use Rattle.job.specs.Layout.{JobSlices, header_of, lists_in}
use Rattle.job.specs.declared.JobHeader.{JobHeader}
use Rattle.allocator.specs.declared.Assignment.{Assignment}
use Rattle.allocator.specs.State.{State}
use Rattle.allocator.specs.Layout.{StateBuffers}
use Rattle.allocator.specs.Calls.{Call, placing, evicting, running, answer_of, after, answers}
use Rattle.allocator.specs.Reached.{Reached}
use Rattle.allocator.proofs.Good.{reached_after}
use Rattle.moves.specs.Standing.{JobStands}
use Rattle.calls.specs.Calling.{refusal_number, sizes_of, StateStands}
use Rattle.calls.specs.Trace.{lent_to, WholeCall, Trace}
use Rattle.narrow.specs.Cut.{cut}
use Rattle.call_lists.specs.declared.lists.ListedCall.{ListedCall}
use Rattle.call_lists.specs.declared.lists.ListedCall.TheVariants.{Place, Evict, Run}
use Rattle.call_lists.specs.Listed.{call_of, is_kind, calls_in, listed_by, listed, call_in, word_number, numbers_of, CallAnswered, CallStored, ListDone, ListCarriedOut}

-- ---- the words of one call

module _ (l : List ℕ) (i : ℕ) where
  pub four_words : i + 4 ≤ length l → drop i l ≡ get_or l i 0 ∷ get_or l (i + 1) 0 ∷ get_or l (i + 2) 0 ∷ get_or l (i + 3) 0 ∷ drop (i + 4) l
  four_words h =
      let a : i + 1 ≡ suc i = omega arith in
      let b : i + 2 ≡ suc (suc i) = omega arith in
      let c : i + 3 ≡ suc (suc (suc i)) = omega arith in
      let d : i + 4 ≡ suc (suc (suc (suc i))) = omega arith in
      rw (a, b, c, d)
      (drop-cons l i 0 (omega (arith, h))
      ∙ ap (λ (m : List ℕ). get_or l i 0 ∷ m)
      (drop-cons l (suc i) 0 (omega (arith, h))
      ∙ ap (λ (m : List ℕ). get_or l (suc i) 0 ∷ m)
      (drop-cons l (suc (suc i)) 0 (omega (arith, h))
      ∙ ap (λ (m : List ℕ). get_or l (suc (suc i)) 0 ∷ m) (drop-cons l (suc (suc (suc i))) 0 (omega (arith, h))))))

not_both : false ≡ true → ⊥
not_both q = subst (λ (b : Bool). elim b as (λ x. Type 0) [ true ↦ ⊥ | false ↦ ℕ ]) q 0

-- a kind is one of three numbers
kind_is : (k : ℕ) → is_kind k ≡ (eqb k 1 || (eqb k 2 || eqb k 3))
kind_is k = same_test (is_kind k) (eqb k 1 || (eqb k 2 || eqb k 3)) one in_range
  where
    one : T (is_kind k) → T (eqb k 1 || (eqb k 2 || eqb k 3))
    one t = let p = both (leb 1 k) (leb k 3) t in go (leb→le 1 k p.0) (leb→le k 3 p.1)
      where
        go : 1 ≤ k → k ≤ 3 → T (eqb k 1 || (eqb k 2 || eqb k 3))
        go l m =
            ⊎_elim (λ (h : k < 2). let q : k ≡ 1 = omega arith in or_left (eqb k 1) (eqb k 2 || eqb k 3) (eqb_in q))
            (λ (h : 2 ≤ k). or_right (eqb k 1) (eqb k 2 || eqb k 3)
            (⊎_elim (λ (g : k < 3). let q : k ≡ 2 = omega arith in or_left (eqb k 2) (eqb k 3) (eqb_in q))
            (λ (g : 3 ≤ k). let q : k ≡ 3 = omega arith in or_right (eqb k 2) (eqb k 3) (eqb_in q))
            (lt_or_le k 3)))
            (lt_or_le k 2)

    in_range : T (eqb k 1 || (eqb k 2 || eqb k 3)) → T (is_kind k)
    in_range t =
        ⊎_elim (λ (h : T (eqb k 1)). let q = eqb→eq k 1 h in both_in (leb 1 k) (leb k 3) (le→leb 1 k (omega (arith, q))) (le→leb k 3 (omega (arith, q))))
        (λ (h : T (eqb k 2 || eqb k 3)).
        ⊎_elim (λ (g : T (eqb k 2)). let q = eqb→eq k 2 g in both_in (leb 1 k) (leb k 3) (le→leb 1 k (omega (arith, q))) (le→leb k 3 (omega (arith, q))))
        (λ (g : T (eqb k 3)). let q = eqb→eq k 3 g in both_in (leb 1 k) (leb k 3) (le→leb 1 k (omega (arith, q))) (le→leb k 3 (omega (arith, q))))
        (either (eqb k 2) (eqb k 3) h))
        (either (eqb k 1) (eqb k 2 || eqb k 3) t)

-- ---- the call at the front of a list, and the calls behind it

abbrev calls_by : List ℕ → Option ListedCall → List Call → List Call
calls_by L None cs = []
calls_by L (Some c) cs = call_in L c ∷ cs

by_kind : (L : List ℕ) (k n r w : ℕ) (cs : List Call) → cond (is_kind k) (call_of L k n r w ∷ cs) [] ≡ calls_by L (listed_by k n r w) cs
unfolding call_of listed_by
by_kind L k n r w cs = rw kind_is (go (eqb k 1) (eqb k 2) (eqb k 3))
  where
    go :
        (a b c : Bool)
        → cond (a || (b || c))
        (cond a (placing L (cut 65535 n) (cut 255 r) (of_bits binary32 (cut 0xFFFF_FFFF w))) (cond b (evicting L (cut 65535 n)) (running L n)) ∷ cs) []
        ≡ calls_by L
        (cond a (Some (Place (record { v = cut 65535 n; reg = cut 255 r; weight = cut 0xFFFF_FFFF w }))) (cond b (Some (Evict (cut 65535 n))) (cond c (Some (Run n)) None)))
        cs
    go true b c = refl
    go false true c = refl
    go false false true = refl
    go false false false = refl

few_words : (m : List ℕ) → length m < 4 → listed m ≡ None
unfolding listed
few_words [] h = refl
few_words (a ∷ []) h = refl
few_words (a ∷ b ∷ []) h = refl
few_words (a ∷ b ∷ c ∷ []) h = refl
few_words (a ∷ b ∷ c ∷ d ∷ m) h = absurd (omega (arith, h))

enough_words : (m : List ℕ) (x : ListedCall) → listed m ≡ Some x → 4 ≤ length m
unfolding listed
enough_words [] x e = absurd (none-some x e)
enough_words (a ∷ []) x e = absurd (none-some x e)
enough_words (a ∷ b ∷ []) x e = absurd (none-some x e)
enough_words (a ∷ b ∷ c ∷ []) x e = absurd (none-some x e)
enough_words (a ∷ b ∷ c ∷ d ∷ m) x e = omega arith

calls_none : (L m : List ℕ) → listed m ≡ None → calls_in L m ≡ []
unfolding listed calls_in
calls_none L [] e = refl
calls_none L (a ∷ []) e = refl
calls_none L (a ∷ b ∷ []) e = refl
calls_none L (a ∷ b ∷ c ∷ []) e = refl
calls_none L (a ∷ b ∷ c ∷ d ∷ m) e = by_kind L a b c d (calls_in L m) ∙ ap (λ (o : Option ListedCall). calls_by L o (calls_in L m)) e

module _ (l : List ℕ) (i : ℕ) where
  listed_short : length l < i + 4 → None ≡ listed (drop i l)
  listed_short h = sym (few_words (drop i l) (let e = length-drop i l in omega (arith, e, h)))

  -- by the four words
  listed_at : i + 4 ≤ length l → listed_by (get_or l i 0) (get_or l (i + 1) 0) (get_or l (i + 2) 0) (get_or l (i + 3) 0) ≡ listed (drop i l)
  unfolding listed
  listed_at h = rw (four_words l i h) refl

  module _ (c : ListedCall) (e : listed (drop i l) ≡ Some c) where
    pub has_room : i + 4 ≤ length l
    has_room = let a = enough_words (drop i l) c e in let b = length-drop i l in omega (arith, a, b)

    calls_next : (L : List ℕ) → calls_in L (drop i l) ≡ call_in L c ∷ calls_in L (drop (i + 4) l)
    unfolding calls_in
    calls_next L =
        ap (calls_in L) (four_words l i has_room)
        ∙ by_kind L (get_or l i 0) (get_or l (i + 1) 0) (get_or l (i + 2) 0) (get_or l (i + 3) 0) (calls_in L (drop (i + 4) l))
        ∙ ap (λ (o : Option ListedCall). calls_by L o (calls_in L (drop (i + 4) l))) (listed_at has_room ∙ e)

-- the words of a list in fours
four_of : (d : List ℕ) (n : ℕ) (l : List ℕ) (i k : ℕ) → i < n → k < 4 → get_or (get_or (first_chunks 4 n l) i d) k 0 ≡ get_or l (4 * i + k) 0
four_of d zero l i k h g = absurd (omega (arith, h))
four_of d (suc n) l zero k h g = let e : k ≡ 4 * 0 + k = omega arith in get_or-take 4 l k 0 g ∙ ap (λ (m : ℕ). get_or l m 0) e
four_of d (suc n) l (suc i) k h g =
    let e : 4 + (4 * i + k) ≡ 4 * suc i + k = omega arith in
    four_of d n (drop 4 l) i k (omega (arith, h)) g ∙ get_or-drop 4 l (4 * i + k) 0 ∙ ap (λ (m : ℕ). get_or l m 0) e

module _ (l : List ℕ) (fours : List (List ℕ)) (e : fours ≡ first_chunks 4 (length l / 4) l) (n : length fours ≡ length l / 4) (i : ℕ) where
  word : (d : List ℕ) (k : ℕ) → i < length l / 4 → k < 4 → get_or (get_or fours i d) k 0 ≡ get_or l (4 * i + k) 0
  word d k h g = ap (λ (ws : List (List ℕ)). get_or (get_or ws i d) k 0) e ∙ four_of d (length l / 4) l i k h g

  -- the call of the four words number i
  pub listed_four :
      (d : List ℕ) → i < length fours
      → listed_by (get_or (get_or fours i d) 0 0) (get_or (get_or fours i d) 1 0) (get_or (get_or fours i d) 2 0) (get_or (get_or fours i d) 3 0) ≡ listed (drop (4 * i) l)
  listed_four d g =
      let h : i < length l / 4 = omega (arith, n, g) in
      let z : 4 * i + 0 ≡ 4 * i = omega arith in
      rw (word d 0 h (omega arith), word d 1 h (omega arith), word d 2 h (omega arith), word d 3 h (omega arith), z) (listed_at l (4 * i) (omega (arith, h)))

  -- behind the last of them there is no call
  pub listed_none : i ≡ length fours → None ≡ listed (drop (4 * i) l)
  listed_none q = listed_short l (4 * i) (omega (arith, n, q))

lent_to_lem : (L : List ℕ) (c : ListedCall) → lent_to (call_in L c) ≡ L
lent_to_lem L (Place asked) = refl
lent_to_lem L (Evict v) = refl
lent_to_lem L (Run b) = refl

-- ---- the loop

-- after some calls the state is x, and the calls from `from` on are left
pub record Going (j : Job) (s : State) (t : StateBuffers) (L list : List ℕ) (from to : ℕ) (A : List ℕ) (S₁ : StateBuffers) (rs₁ : List Assignment) (A₁ : List ℕ) : Type 0 where
  pub x : State
  pub reached : Reached j x
  pub stands : StateStands j x t S₁ rs₁
  pub whole : foldl (after j) x (calls_in L (drop from list)) ≡ foldl (after j) s (calls_in L list)
  pub stored : sets A₁ to (concat_map numbers_of (answers j x (calls_in L (drop from list)))) ≡ sets A 0 (concat_map numbers_of (answers j s (calls_in L list)))

pub record ListTo (header : JobHeader) (B : JobSlices) (list : List ℕ) (from to calls : ℕ)
    (S : StateBuffers) (rs : List Assignment) (A : List ℕ) (S₁ : StateBuffers) (rs₁ : List Assignment) (A₁ : List ℕ) : Type 0 where
  pub counted : calls + length (calls_in (sizes_of B S) (drop from list)) ≡ length (calls_in (sizes_of B S) list)
  pub traced :
      (S' : StateBuffers) (rs' : List Assignment)
      → Trace header B S₁ rs₁ (calls_in (sizes_of B S) (drop from list)) S' rs'
      → Trace header B S rs (calls_in (sizes_of B S) list) S' rs'
  pub onward :
      (j : Job) (s : State) (t : StateBuffers)
      → Reached j s
      → JobStands j (lists_in B)
      → header ≡ header_of j
      → StateStands j s t S rs
      → Going j s t (sizes_of B S) list from to A S₁ rs₁ A₁

module _ (header : JobHeader) (B : JobSlices) (list : List ℕ) (S : StateBuffers) (rs : List Assignment) (A : List ℕ) where
  pub list_start : ListTo header B list 0 0 0 S rs A S rs A
  list_start =
      record {
        counted = omega arith;
        traced = λ S' rs' tr. tr;
        onward = λ j s t reach job head st. record { x = s; reached = reach; stands = st; whole = refl; stored = refl };
      }

  module _ (from to calls : ℕ) (S₁ : StateBuffers) (rs₁ : List Assignment) (A₁ : List ℕ) (so : ListTo header B list from to calls S rs A S₁ rs₁ A₁) where
    -- the end: no call is left
    pub list_end : None ≡ listed (drop from list) → ListDone header B list S rs A S₁ rs₁ A₁ calls
    unfolding Trace foldl answers concat_map
    list_end e =
        let z = calls_none (sizes_of B S) (drop from list) (sym e) in
        record {
          counted = let a = so.counted in let b : length (calls_in (sizes_of B S) (drop from list)) ≡ 0 = ap length z in omega (arith, a, b);
          traced = so.traced S₁ rs₁ (rw z (refl, refl));
          reached =
              λ j s t reach job head st.
              let g = so.onward j s t reach job head st in (
                subst (λ (u : State). StateStands j u t S₁ rs₁) (sym (ap (foldl (after j) g.x) z) ∙ g.whole) g.stands,
                sym (ap (λ (cs : List Call). sets A₁ to (concat_map numbers_of (answers j g.x cs))) z) ∙ g.stored,
              );
        }

    module _ (c : ListedCall) (has : listed (drop from list) ≡ Some c)
        (pe : length S₁.ends ≡ length S.ends) (pr : length S₁.rests ≡ length S.rests)
        (pq : length S₁.queue ≡ length S.queue) (pl : length S₁.last ≡ length S.last)
        (S₂ : StateBuffers) (rs₂ : List Assignment) (A₂ : List ℕ) (k : CallStored header B (call_in (sizes_of B S₁) c) S₁ rs₁ S₂ rs₂ A₁ to A₂) where
      -- what is lent keeps its sizes
      same : sizes_of B S₁ ≡ sizes_of B S
      same = rw (pe, pr, pq, pl) refl

      abbrev made : Call
      made = call_in (sizes_of B S) c

      more : calls_in (sizes_of B S) (drop from list) ≡ made ∷ calls_in (sizes_of B S) (drop (from + 4) list)
      more = calls_next list from c has (sizes_of B S)

      answered : CallAnswered header B made S₁ rs₁ S₂ rs₂ k.n k.e k.x
      answered = subst (λ (L : List ℕ). CallAnswered header B (call_in L c) S₁ rs₁ S₂ rs₂ k.n k.e k.x) same k.answered

      whole_call : WholeCall header B made S₁ rs₁ S₂ rs₂
      whole_call =
          record {
            sizes = lent_to_lem (sizes_of B S) c ∙ sym same;
            answer = k.n;
            called = answered.called;
          }

      one_more :
          (S' : StateBuffers) (rs' : List Assignment)
          → Trace header B S₂ rs₂ (calls_in (sizes_of B S) (drop (from + 4) list)) S' rs'
          → Trace header B S₁ rs₁ (calls_in (sizes_of B S) (drop from list)) S' rs'
      unfolding Trace
      one_more S' rs' tr = rw more (S₂, rs₂, inl whole_call, tr)

      going : (j : Job) (s : State) (t : StateBuffers) → Reached j s → JobStands j (lists_in B) → header ≡ header_of j → StateStands j s t S rs
          → Going j s t (sizes_of B S) list (from + 4) (to + 3) A S₂ rs₂ A₂
      unfolding foldl answers concat_map
      going j s t reach job head st =
          let g = so.onward j s t reach job head st in
          let d = answered.called.reached j g.x t g.reached job head g.stands in
          let m = answered.numbers j g.x t g.reached job head g.stands in
          let later = calls_in (sizes_of B S) (drop (from + 4) list) in
          let three : to + 3 ≡ suc (suc (suc to)) = omega arith in
          record {
            x = after j g.x made;
            reached = reached_after j g.x g.reached made;
            stands = d.1;
            whole = sym (ap (foldl (after j) g.x) more) ∙ g.whole;
            stored =
                ap (λ (i : ℕ). sets A₂ i (concat_map numbers_of (answers j (after j g.x made) later))) three
                ∙ ap (λ (b : List ℕ). sets b (suc (suc (suc to))) (concat_map numbers_of (answers j (after j g.x made) later))) k.stored
                ∙ ap (λ (n : ℕ). sets A₁ to (n ∷ k.e ∷ k.x ∷ concat_map numbers_of (answers j (after j g.x made) later))) d.0
                ∙ ap (λ (n : ℕ). sets A₁ to (refusal_number (answer_of j g.x made) ∷ n ∷ k.x ∷ concat_map numbers_of (answers j (after j g.x made) later))) m.0
                ∙ ap (λ (n : ℕ). sets A₁ to (refusal_number (answer_of j g.x made) ∷ word_number (answer_of j g.x made) ∷ n ∷ concat_map numbers_of (answers j (after j g.x made) later))) m.1
                ∙ sym (ap (λ (cs : List Call). sets A₁ to (concat_map numbers_of (answers j g.x cs))) more)
                ∙ g.stored;
          }

      pub list_more : ListTo header B list (from + 4) (to + 3) (calls + 1) S rs A S₂ rs₂ A₂
      list_more =
          record {
            counted =
                let a = so.counted in
                let b : length (calls_in (sizes_of B S) (drop from list)) ≡ suc (length (calls_in (sizes_of B S) (drop (from + 4) list))) = ap length more in
                omega (arith, a, b);
            traced = λ S' rs' tr. so.traced S' rs' (one_more S' rs' tr);
            onward = going;
          }

  -- ---- the whole, with the room for its answers tested

  pub list_refused : length A / 3 < length list / 4 → ListCarriedOut header B list S rs A S rs A 15 0
  list_refused h =
      record {
        short = λ e. (refl, refl, refl, refl, refl);
        carried = λ e. absurd (not_both (sym e ∙ lt-ltb _ _ h));
      }

  pub list_carried :
      (S' : StateBuffers) (rs' : List Assignment) (A' : List ℕ) (done : ℕ)
      → length list / 4 ≤ length A / 3
      → ListDone header B list S rs A S' rs' A' done
      → ListCarriedOut header B list S rs A S' rs' A' 0 done
  list_carried S' rs' A' done h d =
      record {
        short = λ e. absurd (not_both (sym (le-ltb _ _ h) ∙ e));
        carried = λ e. (refl, d);
      }

-- the numbers of a call, stored one after another
pub numbers_stored :
    (A A₁ A₂ A₃ : List ℕ) (to n e x : ℕ) → A₁ ≡ set A to n → A₂ ≡ set A₁ (to + 1) e → A₃ ≡ set A₂ (to + 2) x
    → A₃ ≡ sets A to (n ∷ e ∷ x ∷ [])
numbers_stored A A₁ A₂ A₃ to n e x p₁ p₂ p₃ =
    let a : to + 1 ≡ suc to = omega arith in
    let b : to + 2 ≡ suc (suc to) = omega arith in
    p₃
    ∙ ap (λ (l : List ℕ). set l (to + 2) x) (p₂ ∙ ap (λ (l : List ℕ). set l (to + 1) e) p₁)
    ∙ ap (λ (i : ℕ). set (set (set A to n) i e) (to + 2) x) a
    ∙ ap (λ (i : ℕ). set (set (set A to n) (suc to) e) i x) b
