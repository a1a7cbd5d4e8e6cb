-- Demand 3 of the code: after every trace the state of the rules stands in the buffers, so the tables read from them are the rules' tables. Assumes
-- nothing.
use Prim.Native.Nat.{ℕ, zero, suc, ◌+◌, ◌-◌, ◌≤◌, ◌<◌}
use native.Mathlib.Omega.{arith}
use mathlib.Core.Path.{◌≡◌, refl, sym, ap, ◌∙◌, subst}
use mathlib.Core.Logic.{◌⊎◌, inl, inr}
use mathlib.Core.List.Memᴰ
use mathlib.Core.List.{List, [], ◌∷◌, ◌++◌, map, append_assoc}
use mathlib.Core.Bool.{true}
use lib.ListN.{length, replicate, length-map}
use borrow.Author.Tests.{lt-ltb}
use Rattle.reg_matrix.specs.Lists.{foldl, padded}
use Rattle.reg_matrix.specs.Table.{Table}
use Rattle.reg_matrix.specs.Refusals.{refusal, short_buffer}
use Rattle.reg_matrix.specs.Layout.{max_entries, greatest, end_word, rest_word, end_words, rest_words}
use Rattle.reg_matrix.specs.Lines.{table_lines}
use Rattle.reg_matrix.specs.declared.Entry.{Entry}
use Rattle.reg_matrix.proofs.Members.{◌∈◌}
use Rattle.table_words.proofs.Decode.{Small, entry_back}
use Rattle.placing.proofs.Standing.{word_small}
use Rattle.job.specs.Model.{Job}
use Rattle.job.specs.Layout.{JobSlices, lists_in, header_of}
use Rattle.job.specs.declared.JobHeader.{JobHeader}
use Rattle.allocator.specs.declared.Assignment.{Assignment}
use Rattle.allocator.specs.State.{State, fresh_state}
use Rattle.allocator.specs.Layout.{StateBuffers, stage_limits}
use Rattle.allocator.specs.Calls.{Call, placing, evicting, running, refusal_of, after, after_all}
use Rattle.allocator.specs.Reached.{Reached}
use Rattle.allocator.specs.Demand.{TablesAreHolders}
use Rattle.allocator.proofs.Demand3.{demand3}
use Rattle.allocator.proofs.Good.{good_reached, reached_fresh, reached_after}
use Rattle.stage.proofs.Reached.{walkable}
use Rattle.moves.specs.Standing.{JobStands}
use Rattle.calls.specs.Calling.{StateStands}
use Rattle.calls.specs.Trace.{read_table, table_in, lent_to, joined, WholeCall, ShortCall, Trace, TraceOf, CodeDemand3}

-- ---- the table read back

read_back :
    (t : Table) (k n : ℕ) (et rt : List ℕ)
    → length t + k ≡ n
    → ((e : Entry) → e ∈ t → Small e)
    → read_table n (map end_word t ++ (replicate k greatest ++ et)) (map rest_word t ++ (replicate k 0 ++ rt)) ≡ t
unfolding read_table
read_back [] k zero et rt q sm = refl
read_back [] zero (suc n) et rt q sm = absurd (omega arith)
read_back [] (suc k) (suc n) et rt q sm = refl
read_back (e ∷ t) k zero et rt q sm = absurd (omega arith)
read_back (e ∷ t) k (suc n) et rt q sm =
    let s = sm e (Memᴰ.head refl) in
    let l : end_word e < greatest = word_small e (record { unit = s.unit; to = s.to }) in
    rw (lt-ltb (end_word e) greatest l, entry_back e s, read_back t k n et rt (omega arith) (λ d m. sm d (Memᴰ.tail m)))

pub table_read : (t : Table) (et rt : List ℕ) → length t ≤ max_entries → ((e : Entry) → e ∈ t → Small e) → read_table max_entries (end_words t ++ et) (rest_words t ++ rt) ≡ t
unfolding end_words rest_words padded
table_read t et rt few sm =
    let k = max_entries - length t in
    let n : length t + k ≡ max_entries = omega (arith, few) in
    let a : max_entries - length (map end_word t) ≡ k = ap (λ (m : ℕ). max_entries - m) (length-map t end_word) in
    let b : max_entries - length (map rest_word t) ≡ k = ap (λ (m : ℕ). max_entries - m) (length-map t rest_word) in
    ap (λ (m : ℕ). read_table max_entries ((map end_word t ++ replicate m greatest) ++ et) ((map rest_word t ++ replicate (max_entries - length (map rest_word t)) 0) ++ rt)) a
    ∙ ap (λ (m : ℕ). read_table max_entries ((map end_word t ++ replicate k greatest) ++ et) ((map rest_word t ++ replicate m 0) ++ rt)) b
    ∙ ap (λ (l : List ℕ). read_table max_entries l ((map rest_word t ++ replicate k 0) ++ rt)) (append_assoc (map end_word t) (replicate k greatest) et)
    ∙ ap (read_table max_entries (map end_word t ++ (replicate k greatest ++ et))) (append_assoc (map rest_word t) (replicate k 0) rt)
    ∙ read_back t k max_entries et rt n sm

-- of a state that calls reach
pub table_in_lem : (j : Job) (s : State) → Reached j s → (t S : StateBuffers) (rs : List Assignment) → StateStands j s t S rs → table_in S ≡ s.table
table_in_lem j s reach t S rs st =
    let w = walkable j s (good_reached j s reach) in
    ap (λ (l : List ℕ). read_table max_entries l S.rests) st.stands.moves.table.ends_are
    ∙ ap (read_table max_entries (end_words s.table ++ t.ends)) st.stands.moves.table.rests_are
    ∙ table_read s.table t.ends t.rests w.room w.small

-- ---- one call

-- a call that is lent too little is refused 15, and changes nothing
short_same : (c : Call) (S : StateBuffers) (rs : List Assignment) (S' : StateBuffers) (rs' : List Assignment) → ShortCall c S rs S' rs' → (S' ≡ S) × (rs' ≡ rs)
short_same c S rs S' rs' k =
    let u = k.called.unchanged (λ z. fifteen k.answer (k.called.short k.short) z) in
    (k.after_is ∙ ap (λ (x : StateBuffers). joined x k.rest) u.slices ∙ sym k.before_is, u.records_too)
  where
    fifteen : (n : ℕ) → n ≡ 15 → n ≡ 0 → ⊥
    fifteen n p q = omega arith

-- and so does the rules' call of these sizes
short_after : (j : Job) (s : State) (c : Call) → short_buffer stage_limits (lent_to c) ≡ true → after j s c ≡ s
unfolding after refusal_of refusal
short_after j s (placing lent v r w) e = rw e
short_after j s (evicting lent v) e = rw e
short_after j s (running lent b) e = rw e

-- ---- a trace

module _ (j : Job) (header : JobHeader) (B : JobSlices) (job : JobStands j (lists_in B)) (head : header ≡ header_of j) (t : StateBuffers) where
  pub trace_stands :
      (cs : List Call) (s : State) (S : StateBuffers) (rs : List Assignment) (S' : StateBuffers) (rs' : List Assignment)
      → Reached j s
      → StateStands j s t S rs
      → Trace header B S rs cs S' rs'
      → StateStands j (foldl (after j) s cs) t S' rs'
  unfolding Trace foldl
  trace_stands [] s S rs S' rs' reach st tr =
      subst (λ (x : StateBuffers). StateStands j s t x rs') (sym tr.0) (subst (λ (x : List Assignment). StateStands j s t S x) (sym tr.1) st)
  trace_stands (c ∷ cs) s S rs S' rs' reach st tr = trace_stands cs (after j s c) tr.0 tr.1 S' rs' (reached_after j s reach c) (one tr.2) tr.3
    where
      one : WholeCall header B c S rs tr.0 tr.1 ⊎ ShortCall c S rs tr.0 tr.1 → StateStands j (after j s c) t tr.0 tr.1
      one (inl w) = (w.called.reached j s t reach job head st).1
      one (inr k) =
          let e = short_same c S rs tr.0 tr.1 k in
          subst (λ (x : State). StateStands j x t tr.0 tr.1) (sym (short_after j s c (ap (short_buffer stage_limits) k.sizes ∙ k.short)))
          (subst (λ (x : StateBuffers). StateStands j s t x tr.1) (sym e.0) (subst (λ (x : List Assignment). StateStands j s t S x) (sym e.1) st))

-- the table read from the buffers at a trace's end is the rules' table after its calls
pub trace_table : (j : Job) (cs : List Call) (S : StateBuffers) → TraceOf j cs S → table_in S ≡ (after_all j cs).table
unfolding after_all foldl
trace_table j cs S tr =
    let l = tr.loaded_so in
    let fresh = reached_fresh l.lent l.bytes j l.are_bytes l.loads in
    let st = trace_stands j tr.header tr.job l.job_stands l.header_is l.behind cs (fresh_state j) tr.first tr.first_records_lem S tr.records_after fresh l.fresh tr.trace in
    table_in_lem j (foldl (after j) (fresh_state j) cs) (reached_all cs (fresh_state j) fresh) l.behind S tr.records_after st
  where
    reached_all : (cs : List Call) (s : State) → Reached j s → Reached j (foldl (after j) s cs)
    reached_all [] s r = r
    reached_all (c ∷ cs) s r = reached_all cs (after j s c) (reached_after j s r c)

-- ---- demand 3

pub code_demand3 : CodeDemand3
code_demand3 j =
    record {
      none_refused = λ cs S tr. (holders tr).none_refused cs;
      rebuilt = λ cs S tr. trace_table j cs S tr ∙ sym ((holders tr).rebuilt cs);
      decided =
          λ cs ds S S' tr ur.
          let d = (holders tr).decided cs ds in
          (λ e. d.0 (sym (trace_table j cs S tr) ∙ e ∙ trace_table j ds S' ur), λ h. trace_table j cs S tr ∙ d.1 h ∙ sym (trace_table j ds S' ur));
      by_lines =
          λ cs ds S S' tr ur.
          let d = (holders tr).by_lines cs ds in
          (λ e. d.0 (ap table_lines (sym (trace_table j cs S tr)) ∙ e ∙ ap table_lines (trace_table j ds S' ur)), λ h. ap table_lines (trace_table j cs S tr) ∙ d.1 h ∙ ap table_lines (sym (trace_table j ds S' ur)));
    }
  where
    holders : {cs : List Call} {S : StateBuffers} → TraceOf j cs S → TablesAreHolders j
    holders tr = let l = tr.loaded_so in demand3 l.lent l.bytes j l.are_bytes l.loads
