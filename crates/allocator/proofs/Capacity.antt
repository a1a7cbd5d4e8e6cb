-- What fixed buffers hold after every list of calls: at most 2,560 entries, words below 2^64, and weights that are no NaN and have no sign.
-- Assumes nothing.
use Prim.Native.Nat.{ℕ, suc, ◌<◌, ◌≤◌, ◌+◌, ◌*◌, ◌-◌, ◌^◌}
use native.Mathlib.Omega.{arith}
use native.Mathlib.Nat.{zero-add, add-zero, zero-mul, suc-mul, mul-le-mul_right, min-le_right}
use mathlib.Core.Path.{◌≡◌, refl, sym, ◌∙◌, subst}
use mathlib.Core.Logic.{◌⊎◌, inl, inr}
use mathlib.Core.List.{List, [], ◌∷◌, ◌++◌, map}
use mathlib.Core.Option.{Option, none, some}
use mathlib.Core.Bool.{Bool, true, false, cond}
use lib.Dec.{eqb}
use lib.Ieee.{Float, binary32, add, lt}
use lib.ListN.{length, get_or, length-append, length-map, get_or-eq_default}
use Rattle.reg_matrix.specs.Lists.{concat_map, count, foldl, is_nil}
use Rattle.reg_matrix.specs.Table.{units_of}
use Rattle.reg_matrix.specs.Layout.{max_entries, greatest, end_word, reservation_word, rest_word}
use Rattle.reg_matrix.specs.declared.ValueSegment.{ValueSegment}
use Rattle.reg_matrix.specs.declared.Entry.{Entry}
use Rattle.reg_matrix.specs.declared.Reservation.{Reservation}
use Rattle.reg_matrix.specs.declared.Reservation.TheVariants.{Held, FixedUse, FixedDef}
use Rattle.std.specs.Prelude.{Some, None}
use Rattle.reg_matrix.proofs.Places.{insert_longer}
use Rattle.reg_matrix.proofs.Tests.{less_equal_greater}
use Rattle.reg_matrix.proofs.Members.{◌∈◌}
use Rattle.reg_matrix.proofs.Whole.{cell_of, cells_on}
use Rattle.reg_matrix.proofs.Laws.{table_size}
use Rattle.job.specs.declared.Hint.{Hint}
use Rattle.job.specs.Model.{VirtReg, Job, virt_reg, no_virt_reg, segments_of, unit_map, zero_weight}
use Rattle.job.proofs.Premises.{Premises, IsNumber, Plain}
use Rattle.allocator.specs.State.{State, CandidateReg, Stage, Evict, Split, held_by, weight_of, last_given}
use Rattle.allocator.specs.Order.{candidate, grow, add_hint, by_weight, has_reg, or_last, hinted_order, order}
use Rattle.allocator.specs.Queue.{stage_bit, encode}
use Rattle.allocator.specs.Evict.{holders, firsts, weights, spill_weight, max_weight, greatest_spill, cost_of}
use Rattle.allocator.specs.Calls.{after_all}
use Rattle.allocator.specs.Holding.{Holding, holds}
use Rattle.allocator.specs.Corollaries.{FitsBuffers, FitsBuffersAfter}
use Rattle.allocator.proofs.Holders.{cells_if, cells_of}
use Rattle.allocator.proofs.Weights.{plain_zero, plain_add, plain_cond}
use Rattle.allocator.proofs.Agrees.{Agrees, holder_known, last_named}
use Rattle.allocator.proofs.Decisions.{Candidates, candidates_out, hinted_good, order_good}
use Rattle.allocator.proofs.Runs.{after_agrees}
use Rattle.allocator.proofs.Rebuilt.{named_known}
use Rattle.allocator.proofs.Entries.{SmallReservation, entry_bounded}
use Rattle.allocator.proofs.Loading.{stage_premises}

-- ---- how many hinted candidates

add_length : (cs : List CandidateReg) (h : Hint) → length (add_hint cs h) ≤ suc (length cs)
unfolding add_hint
add_length [] h = omega arith
add_length (c ∷ cs) h = go (eqb c.reg h.reg) (add_length cs h)
  where
    go : (b : Bool) → length (add_hint cs h) ≤ suc (length cs) → length (grow b h c cs (add_hint cs h)) ≤ suc (suc (length cs))
    go true ih = omega arith
    go false ih = omega arith

by_weight_length : (cs : List CandidateReg) (c : CandidateReg) → length (by_weight cs c) ≤ suc (length cs)
unfolding by_weight
by_weight_length cs c = omega (arith, insert_longer (λ c d. lt d.preference_weight c.preference_weight) c cs)

fold_length : {A : Type 0} (f : List CandidateReg → A → List CandidateReg) → ((cs : List CandidateReg) (x : A) → length (f cs x) ≤ suc (length cs)) → (xs : List A) (cs : List CandidateReg) → length (foldl f cs xs) ≤ length cs + length xs
unfolding foldl
fold_length f h [] cs = omega arith
fold_length f h (x ∷ xs) cs = omega (arith, fold_length f h xs (f cs x), h cs x)

or_last_length : (cs : List CandidateReg) (o : Option ℕ) → length (or_last cs o) ≤ suc (length cs)
or_last_length cs none = omega arith
or_last_length cs (some r) = go (has_reg r cs)
  where
    go : (b : Bool) → length (cond b cs (cs ++ (candidate r zero_weight ∷ []))) ≤ suc (length cs)
    go true = omega arith
    go false = omega (arith, length-append cs (candidate r zero_weight ∷ []))

-- at most one for each hint, and the register last given to the set
pub hinted_length : (x : VirtReg) (last : Option ℕ) → length (hinted_order x last) ≤ length x.hints + 1
unfolding hinted_order
hinted_length x last =
    let sums = foldl add_hint [] x.hints in
    omega (arith, or_last_length (foldl by_weight [] sums) last, fold_length by_weight by_weight_length sums [], fold_length add_hint add_length x.hints [])

-- ---- how many cells

-- lists by number, each at most 4 times as long as another
concat_length :
    {A B C : Type 0} (f : ℕ → List B) (g : A → List C) (xs : List A) (d : A) (i : ℕ)
    → ((n : ℕ) → n < length xs → length (f (i + n)) ≤ 4 * length (g (get_or xs n d)))
    → length (concat_map f (count i (length xs))) ≤ 4 * length (concat_map g xs)
unfolding concat_map count
concat_length f g [] d i h = omega arith
concat_length f g (x ∷ xs) d i h =
    let here : length (f i) ≤ 4 * length (g x) = subst (λ (m : ℕ). length (f m) ≤ 4 * length (g x)) (add-zero i) (h 0 (omega arith)) in
    let rest = concat_length f g xs d (suc i) (λ n b. subst (λ (m : ℕ). length (f m) ≤ 4 * length (g (get_or xs n d))) (later n) (h (suc n) (omega arith))) in
    omega (arith, here, rest, length-append (f i) (concat_map f (count (suc i) (length xs))), length-append (g x) (concat_map g xs))
  where
    later : (n : ℕ) → i + suc n ≡ suc i + n
    later n = omega arith

cells_length : (v : ℕ) (us : List ℕ) (ss : List ValueSegment) → length (cells_on v us ss) ≡ length us * length ss
unfolding cells_on concat_map
cells_length v [] ss = sym (zero-mul (length ss))
cells_length v (u ∷ us) ss =
    length-append (map (cell_of v u) ss) (cells_on v us ss)
    ∙ omega (arith, length-map ss (cell_of v u), cells_length v us ss, suc-mul (length us) (length ss))

module _ (j : Job) (p : Premises j) (s : State) (h : Holding) (a : Agrees j s h) where
  few_cells_each : (v : ℕ) (o : Option ℕ) → h v ≡ o → length (cells_if j v o) ≤ 4 * length (segments_of j v)
  few_cells_each v none q = omega arith
  few_cells_each v (some r) q =
      let k = holder_known j s h a v r q in
      omega (arith, cells_length v (units_of (unit_map j r)) (segments_of j v), mul-le-mul_right (length (segments_of j v)) (p.few_units r (named_known j p v r k.0 k.1)))

  -- the cells of all holders: 512 segments on 4 units each
  pub few_cells : length (cells_of j h) ≤ 4 * 512
  unfolding cells_of virt_reg
  few_cells =
      omega (
        arith,
        concat_length (λ (v : ℕ). cells_if j v (h v)) (λ (x : VirtReg). x.segments) j.virt_regs no_virt_reg 0
            (λ n b. subst (λ (v : ℕ). length (cells_if j v (h v)) ≤ 4 * length (segments_of j n)) (sym (zero-add n)) (few_cells_each n (h n) refl)),
        p.few_segments,
      )

  few_entries : length s.table ≤ max_entries
  few_entries = omega (arith, table_size j.fixed p.sound (cells_of j h) s.table a.table, few_cells, p.few_fixed)

  -- ---- words

  end_word_lem : (e : Entry) → e ∈ s.table → end_word e < greatest
  end_word_lem e m = let b = entry_bounded j p s h a e m in omega (arith, b.unit, b.to)

  rest_word_lem : (e : Entry) → e ∈ s.table → rest_word e < 2 ^ 64
  rest_word_lem e m = let b = entry_bounded j p s h a e m in omega (arith, b.from, small e.reservation b.reservation)
    where
      small : (r : Reservation) → SmallReservation r → reservation_word r < 2 ^ 32
      small (Held v None) b = omega (arith, b.0)
      small (Held v (Some i)) b = omega (arith, b.0, b.1)
      small (FixedUse x) b = omega arith
      small FixedDef b = omega arith

  small_index : (e : Entry) → e ∈ s.table → (v i : ℕ) → e.reservation ≡ Held v (Some i) → i < 512
  small_index e m v i q = (subst (λ (r : Reservation). SmallReservation r) q (entry_bounded j p s h a e m).reservation).1

  key : (v : ℕ) → IsNumber j v → (q : Stage) → encode j v q < 2 ^ 64
  unfolding encode
  key v b q = omega (arith, stage q, hinted (is_nil (virt_reg j v).hints), min-le_right (virt_reg j v).size (2 ^ 27 - 1), p.few_numbers)
    where
      stage : (q : Stage) → stage_bit q ≤ 2 ^ 63
      stage Evict = omega arith
      stage Split = omega arith

      hinted : (z : Bool) → cond z 0 (2 ^ 62) ≤ 2 ^ 62
      hinted true = omega arith
      hinted false = omega arith

  -- ---- weights

  fold_plain : (f : Float → ℕ → Float) → ((w : Float) (v : ℕ) → Plain w → Plain (f w v)) → (vs : List ℕ) (w : Float) → Plain w → Plain (foldl f w vs)
  unfolding foldl
  fold_plain f k [] w b = b
  fold_plain f k (v ∷ vs) w b = fold_plain f k vs (f w v) (k w v b)

  pub held_plain : (v : ℕ) (o : Option CandidateReg) → held_by s v ≡ o → Plain (weight_of o)
  held_plain v none q = plain_zero
  held_plain v (some c) q = (a.holder v c q).1.plain

  sum_plain : (vs : List ℕ) → Plain (weights s vs)
  unfolding weights
  sum_plain vs =
      fold_plain (λ (w : Float) (v : ℕ). add binary32 w (weight_of (held_by s v))) (λ w v b. plain_add binary32 w (weight_of (held_by s v)) b (held_plain v (held_by s v) refl))
      vs zero_weight plain_zero

  pub spill_plain : (v : ℕ) → Plain (spill_weight j v)
  unfolding virt_reg
  spill_plain v = go (less_equal_greater v (length j.virt_regs))
    where
      past : length j.virt_regs ≤ v → Plain (spill_weight j v)
      past b = subst (λ (x : VirtReg). Plain x.spill_weight) (sym (get_or-eq_default j.virt_regs no_virt_reg b)) plain_zero

      go : (v < length j.virt_regs) ⊎ ((v ≡ length j.virt_regs) ⊎ (length j.virt_regs < v)) → Plain (spill_weight j v)
      go (inl b) = p.plain_spill v b
      go (inr (inl b)) = past (omega arith)
      go (inr (inr b)) = past (omega arith)

  greatest_plain : (vs : List ℕ) → Plain (greatest_spill j vs)
  unfolding greatest_spill
  greatest_plain vs =
      fold_plain (λ (w : Float) (v : ℕ). max_weight w (spill_weight j v)) (λ w v b. plain_cond (lt w (spill_weight j v)) (spill_weight j v) w (spill_plain v) b)
      vs zero_weight plain_zero

  -- ---- all of it

  pub fits_buffers : FitsBuffers j s
  unfolding cost_of
  fits_buffers =
      record {
        entries = few_entries;
        end_words_lem = end_word_lem;
        rest_words_lem = rest_word_lem;
        indices = small_index;
        keys = key;
        queued = λ v q e. (a.queue v q e).known;
        places = let z = a.sizes in (z.held, z.left_over, z.flags, z.queued, z.last);
        held_regs = λ v c q. let k = a.holder v c q in omega (arith, named_known j p v c.reg k.0 k.1.names, p.few_regs);
        last_regs = λ t r q. let k = a.last t r q in omega (arith, named_known j p k.member r k.known k.names, p.few_regs);
        held_weights = λ v c q. (a.holder v c q).1.plain;
        hinted_weights = λ v b c m. (candidates_out j v (hinted_order (virt_reg j v) (last_given j s v)) (hinted v b) c m).plain;
        candidate_weights = λ v b c m.
            (candidates_out j v (order j v (hinted_order (virt_reg j v) (last_given j s v))) (order_good j p v b (hinted_order (virt_reg j v) (last_given j s v)) (hinted v b)) c m).plain;
        sums = sum_plain;
        costs = λ rs. (sum_plain (firsts [] (holders rs)), greatest_plain (firsts [] (holders rs)));
      }
    where
      hinted : (v : ℕ) → IsNumber j v → Candidates j v (hinted_order (virt_reg j v) (last_given j s v))
      hinted v b = hinted_good j p v b (last_given j s v) (λ r q. last_named j p s h a v r b q)

pub capacity : FitsBuffersAfter
capacity lent bytes j b e cs =
    let p = stage_premises lent bytes j b e in
    fits_buffers j p (after_all j cs) (holds j cs) (after_agrees j p cs)
