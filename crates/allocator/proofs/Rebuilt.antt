-- Placing the holders one by one, lowest number first, on the fresh job: none is refused, and the table is the one that they had. Assumes nothing.
use Prim.Native.Nat.{ℕ, zero, suc, ◌<◌, ◌≤◌, ◌+◌}
use native.Mathlib.Omega.{arith}
use mathlib.Core.Path.{◌≡◌, refl, sym, ap, ap₂, ◌∙◌, subst, fun_ext}
use mathlib.Core.Logic.{◌⊎◌, inl, inr}
use mathlib.Core.List.{List, [], ◌∷◌, ◌++◌, map}
use mathlib.Core.Option.{Option, none, some}
use mathlib.Core.Bool.{Bool, true, false, not, ◌&&◌, cond}
use lib.Dec.{T, ltb, eqb, ltb→lt, nltb→le, eqb→eq}
use lib.Ieee.{of_bits, of_fields, odd}
use lib.ListN.{length, get_or, replicate}
use Rattle.reg_matrix.specs.Lists.{foldl, concat_map, count, any, has, is_some}
use Rattle.reg_matrix.specs.Refusals.{short_buffer}
use Rattle.reg_matrix.proofs.Tests.{both, both_in, either}
use Rattle.reg_matrix.proofs.Members.{◌∈◌, any_out, get_d_in}
use Rattle.reg_matrix.proofs.Places.{replicate_default}
use Rattle.reg_matrix.proofs.Cells.{Among, free_among}
use Rattle.reg_matrix.proofs.Whole.{cell_of, AllFree}
use Rattle.reg_matrix.proofs.Laws.{clear_free, table_decided}
use Rattle.job.specs.declared.Hint.{Hint}
use Rattle.job.specs.Model.{VirtReg, Job, virt_reg, class_of, segments_of, unit_map, zero_weight}
use Rattle.job.proofs.Premises.{Premises, IsNumber, IsReg}
use Rattle.allocator.specs.State.{State, CandidateReg, fresh_state, held_by, is_left_over, check_of, give}
use Rattle.allocator.specs.Order.{candidate}
use Rattle.allocator.specs.Layout.{stage_limits}
use Rattle.allocator.specs.Calls.{Call, named, bad_weight, refusal_of, carried_out, unless_refused, after, Answer, placed, or_refused, answer_of, answers}
use Rattle.allocator.specs.Holding.{Holding, but}
use Rattle.allocator.specs.Demand.{Holder, as_holder, place_holder}
use Rattle.allocator.proofs.Holders.{none_some, but_cases, but_other, cells_of, OfHolder, cell_in, cell_out, TableOf, free_beside}
use Rattle.allocator.proofs.Weights.{plain_zero}
use Rattle.allocator.proofs.Agrees.{reg_held, Agrees, holder_known, fresh_agrees, give_agrees, but_none}
use Rattle.allocator.proofs.Decisions.{has_out}
use Rattle.allocator.proofs.Accepted.{placing_accepted}

-- ---- a register that class or hints name is one of the job's

pub named_known : (j : Job) → Premises j → (v r : ℕ) → IsNumber j v → T (named j v r) → IsReg j r
unfolding named
named_known j p v r b t = go (either (has r (class_of j v)) (any q j.virt_regs) t)
  where
    names : Hint → Bool
    names h = eqb h.reg r

    q : VirtReg → Bool
    q x = eqb x.value_set (virt_reg j v).value_set && any names x.hints

    go : T (has r (class_of j v)) ⊎ T (any q j.virt_regs) → IsReg j r
    go (inl h) = p.class_known (class_of j v) (get_d_in j.classes (virt_reg j v).class [] (p.a_class v b)) r (has_out r (class_of j v) h)
    go (inr h) =
        let x = any_out q j.virt_regs h in
        let k = any_out names x.0.hints (both (eqb x.0.value_set (virt_reg j v).value_set) (any names x.0.hints) x.2).1 in
        subst (λ (n : ℕ). n < length j.regs) (eqb→eq k.0.reg r k.2) (p.hint_known x.0 x.1 k.0 k.1)

-- ---- what the numbers below k hold

abbrev up_to : Holding → ℕ → Holding
up_to h k = λ v. cond (ltb v k) (h v) none

up_to_cases : (h : Holding) (k v : ℕ) → ((v < k) × (up_to h k v ≡ h v)) ⊎ ((k ≤ v) × (up_to h k v ≡ none))
up_to_cases h k v = go (ltb v k) refl
  where
    go : (b : Bool) → ltb v k ≡ b → ((v < k) × (cond b (h v) none ≡ h v)) ⊎ ((k ≤ v) × (cond b (h v) none ≡ none))
    go true q = inl (ltb→lt v k (subst T (sym q) tt), refl)
    go false q = inr (nltb→le v k (subst (λ (b : Bool). T (not b)) (sym q) tt), refl)

up_to_next : (h : Holding) (k : ℕ) (o : Option ℕ) → h k ≡ o → but (up_to h k) k o ≡ up_to h (suc k)
up_to_next h k o q = fun_ext (λ x. go x (but_cases (up_to h k) k o x) (up_to_cases h k x) (up_to_cases h (suc k) x))
  where
    go :
        (x : ℕ)
        → ((x ≡ k) × (but (up_to h k) k o x ≡ o)) ⊎ ((x ≡ k → ⊥) × (but (up_to h k) k o x ≡ up_to h k x))
        → ((x < k) × (up_to h k x ≡ h x)) ⊎ ((k ≤ x) × (up_to h k x ≡ none))
        → ((x < suc k) × (up_to h (suc k) x ≡ h x)) ⊎ ((suc k ≤ x) × (up_to h (suc k) x ≡ none))
        → but (up_to h k) k o x ≡ up_to h (suc k) x
    go x (inl a) b (inl c) = a.1 ∙ sym (c.1 ∙ ap h a.0 ∙ q)
    go x (inl a) b (inr c) = absurd (omega (arith, a.0, c.0))
    go x (inr a) (inl b) (inl c) = a.1 ∙ b.1 ∙ sym c.1
    go x (inr a) (inl b) (inr c) = absurd (omega (arith, b.0, c.0))
    go x (inr a) (inr b) (inl c) = absurd (a.0 (omega (arith, b.0, c.0)))
    go x (inr a) (inr b) (inr c) = a.1 ∙ b.1 ∙ sym c.1

-- ---- placing them, lowest number first

-- the tests of a direct placement that the numbers alone decide
pub limits_suffice : T (not (short_buffer stage_limits stage_limits))
unfolding short_buffer
limits_suffice = tt

zero_is_good : T (not (bad_weight zero_weight))
unfolding of_bits of_fields odd
zero_is_good = tt

abbrev place_in : ℕ → ℕ → Call
place_in v r = place_holder (record { number = v; reg = r })

held_none : (o : Option CandidateReg) → reg_held o ≡ none → T (not (is_some o))
held_none none q = tt
held_none (some c) q = absurd (none_some (sym q))

module _ (j : Job) (p : Premises j) (s : State) (h : Holding) (a : Agrees j s h) where
  abbrev n : ℕ
  n = length j.virt_regs

  -- the numbers below k are placed, and nobody is left over
  record Built (k : ℕ) (t : State) : Type 0 where
    agrees : Agrees j t (up_to h k)
    all_stay : t.left_over ≡ replicate 512 false

  module _ (k : ℕ) (t : State) (b : Built k t) (kn : k < n) where
    stays : T (not (is_left_over t k))
    stays = subst (λ (l : List Bool). T (not (get_or l k false))) (sym b.all_stay) (subst (λ (z : Bool). T (not z)) (sym (replicate_default 512 k false)) tt)

    idle : up_to h k k ≡ none
    idle = go (up_to_cases h k k)
      where
        go : ((k < k) × (up_to h k k ≡ h k)) ⊎ ((k ≤ k) × (up_to h k k ≡ none)) → up_to h k k ≡ none
        go (inl l) = absurd (omega (arith, l.0))
        go (inr l) = l.1

    -- the cells of the numbers below k are cells of numbers other than k
    others : Among (cells_of j (up_to h k)) (cells_of j (but h k none))
    others c m = go (up_to_cases h k c.v) (cell_out j (up_to h k) c m)
      where
        go : ((c.v < k) × (up_to h k c.v ≡ h c.v)) ⊎ ((k ≤ c.v) × (up_to h k c.v ≡ none)) → OfHolder j (up_to h k) c → c ∈ cells_of j (but h k none)
        go (inl l) o =
            cell_in j (but h k none) c
            (record { reg = o.reg; holds = but_other h k none c.v (λ e. omega (arith, l.0)) ∙ sym l.1 ∙ o.holds; known = o.known; unit = o.unit; segment = o.segment })
        go (inr l) o = absurd (none_some (sym l.1 ∙ o.holds))

    module _ (r : ℕ) (q : h k ≡ some r) where
      abbrev given : State
      given = give j k (candidate r zero_weight) false t

      names : T (named j k r)
      names = (holder_known j s h a k r q).1

      room : AllFree j.fixed (cells_of j (up_to h k)) k (unit_map j r) (segments_of j k)
      room u m x l =
          free_among j.fixed (cells_of j (up_to h k)) (cells_of j (but h k none)) (cell_of k u x) others (free_beside j p h s.table a.table k r kn q u m x l)

      clear : check_of j t k r ≡ []
      unfolding check_of
      clear = (clear_free j.fixed p.sound (cells_of j (up_to h k)) t.table b.agrees.table false k (unit_map j r) (segments_of j k) (p.segments k kn)).1 room

      not_refused : refusal_of j t (place_in k r) ≡ none
      not_refused =
          (placing_accepted j t stage_limits k r zero_weight).1
          (record {
            lends = limits_suffice;
            known = kn;
            reg = named_known j p k r kn names;
            names = names;
            weight = zero_is_good;
            unassigned = both_in (not (is_some (held_by t k))) (not (is_left_over t k)) (held_none (held_by t k) (b.agrees.regs k ∙ idle)) stays;
            clear = clear;
          })

      answer_is : answer_of j t (place_in k r) ≡ placed r
      unfolding answer_of
      answer_is = ap (λ (o : Option ℕ). or_refused o (placed r)) not_refused

      after_is : after j t (place_in k r) ≡ given
      unfolding after carried_out
      after_is = ap (λ (o : Option ℕ). unless_refused o t given) not_refused

      given_built : Built (suc k) given
      unfolding give
      given_built =
          record {
            agrees =
                subst (λ (g : Holding). Agrees j given g) (up_to_next h k (some r) q)
                (give_agrees j p t (up_to h k) b.agrees k kn (candidate r zero_weight) false (record { known = kn; idle = idle; stays = stays })
                (record { names = names; plain = plain_zero }) clear);
            all_stay = b.all_stay;
          }

    passed_over : h k ≡ none → Built (suc k) t
    passed_over q =
        record { agrees = subst (λ (g : Holding). Agrees j t g) (sym (but_none (up_to h k) k idle) ∙ up_to_next h k none q) b.agrees; all_stay = b.all_stay }

  -- from the state t on these are placed, none refused, and all numbers have had their turn
  record Rebuilds (t : State) (hs : List Holder) : Type 0 where
    none_refused : answers j t (map place_holder hs) ≡ map (λ x. placed x.reg) hs
    built : Built n (foldl (after j) t (map place_holder hs))

  rebuild_from : (m k : ℕ) (t : State) → Built k t → k + m ≡ n → Rebuilds t (concat_map (λ v. as_holder v (h v)) (count k m))
  unfolding concat_map count foldl answers
  rebuild_from zero k t b e = record { none_refused = refl; built = subst (λ (x : ℕ). Built x t) (omega arith) b }
  rebuild_from (suc m) k t b e = go (h k) refl (λ x c. rebuild_from m (suc k) x c (omega arith))
    where
      kn : k < n
      kn = omega arith

      rest : List Holder
      rest = concat_map (λ v. as_holder v (h v)) (count (suc k) m)

      go : (o : Option ℕ) → h k ≡ o → ((x : State) → Built (suc k) x → Rebuilds x rest) → Rebuilds t (as_holder k o ++ rest)
      go none q ih = ih t (passed_over k t b kn q)
      go (some r) q ih =
          let x = ih (after j t (place_in k r)) (subst (λ (y : State). Built (suc k) y) (sym (after_is k t b kn r q)) (given_built k t b kn r q)) in
          record { none_refused = ap₂ (λ (y : Answer) (l : List Answer). y ∷ l) (answer_is k t b kn r q) x.none_refused; built = x.built }

  start : Built 0 (fresh_state j)
  unfolding fresh_state
  start = record { agrees = subst (λ (g : Holding). Agrees j (fresh_state j) g) (fun_ext (λ v. nobody v (up_to_cases h 0 v))) (fresh_agrees j p); all_stay = refl }
    where
      nobody : (v : ℕ) → ((v < 0) × (up_to h 0 v ≡ h v)) ⊎ ((0 ≤ v) × (up_to h 0 v ≡ none)) → none ≡ up_to h 0 v
      nobody v (inl l) = absurd (omega (arith, l.0))
      nobody v (inr l) = sym l.1

  everybody : up_to h n ≡ h
  everybody = fun_ext (λ v. go v (up_to_cases h n v))
    where
      none_past : (v : ℕ) → n ≤ v → (o : Option ℕ) → h v ≡ o → none ≡ o
      none_past v l none q = refl
      none_past v l (some r) q = absurd (omega (arith, (holder_known j s h a v r q).0))

      go : (v : ℕ) → ((v < n) × (up_to h n v ≡ h v)) ⊎ ((n ≤ v) × (up_to h n v ≡ none)) → up_to h n v ≡ h v
      go v (inl l) = l.1
      go v (inr l) = l.1 ∙ none_past v l.0 (h v) refl

  -- the holders, lowest number first
  abbrev holders : List Holder
  holders = concat_map (λ v. as_holder v (h v)) (count 0 n)

  pub holders_accepted : answers j (fresh_state j) (map place_holder holders) ≡ map (λ x. placed x.reg) holders
  holders_accepted = (rebuild_from n 0 (fresh_state j) start (omega arith)).none_refused

  pub same_table : (foldl (after j) (fresh_state j) (map place_holder holders)).table ≡ s.table
  same_table =
      let b = (rebuild_from n 0 (fresh_state j) start (omega arith)).built in
      table_decided j.fixed (cells_of j h) (cells_of j h) _ s.table (subst (λ (g : Holding). TableOf j g (foldl (after j) (fresh_state j) (map place_holder holders)).table) everybody b.agrees.table)
      a.table (λ c m. m) (λ c m. m)
