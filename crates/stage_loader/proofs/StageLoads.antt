-- Loading a stage: with long enough buffers for the queue and the last registers it is loading a job, and then both are filled. Assumes nothing.
use Prim.Native.Nat.{ℕ, zero, suc, ◌+◌, ◌-◌, ◌*◌, ◌≤◌, ◌<◌}
use native.Mathlib.Nat.{suc-mul, mul-le-mul_right}
use native.Mathlib.Omega.{arith}
use mathlib.Core.Path.{◌≡◌, refl, sym, ap, ◌∙◌, subst}
use mathlib.Core.Logic.{◌⊎◌, inl, inr}
use mathlib.Core.List.Memᴰ
use mathlib.Core.List.{List, [], ◌∷◌, ◌++◌, map, append_assoc}
use mathlib.Core.Option.{none}
use mathlib.Core.Bool.{Bool, true, false, not, ◌||◌, or-true, or-false, or_assoc}
use lib.Dec.{T, ltb}
use lib.ListN.{length, take, drop, get_or, replicate, length-map, length-append, length-replicate}
use lib.Seq.{sets, sets-eq, drop-append_seam}
use borrow.Author.Tests.{lt-ltb, le-ltb}
use Rattle.std.specs.Prelude.{Result, Ok, Err}
use Rattle.reg_matrix.specs.Refused.{numbered}
use Rattle.reg_matrix.specs.declared.Refusal.{Refusal}
use Rattle.reg_matrix.specs.declared.Refusal.TheVariants.{ShortBuffer}
use Rattle.lent.specs.Parts.{Begins}
use Rattle.reg_matrix.specs.Lists.{count, concat_map, ◌∈◌}
use Rattle.reg_matrix.specs.Refusals.{short_buffer}
use Rattle.reg_matrix.specs.Layout.{max_entries}
use Rattle.reg_matrix.proofs.Places.{padded_length, replicate_default}
use Rattle.reg_matrix.specs.declared.ValueSegment.{ValueSegment}
use Rattle.job.specs.Model.{Job, VirtReg, zero_weight}
use Rattle.job.specs.Load.{Bytes, whole_job, Loaded, not_loaded, loaded, load_with}
use Rattle.job.specs.Layout.{job_buffers, JobSlices, job_slices, lists_in, all_segments, load_limits, starts_from, header_of}
use Rattle.job.specs.declared.JobHeader.{JobHeader}
use Rattle.job.proofs.Lists.{starts_length}
use Rattle.job.proofs.Premises.{Premises}
use Rattle.allocator.specs.declared.Assignment.TheVariants.{Unassigned}
use Rattle.allocator.specs.State.{fresh_state, assignment, record_of, records}
use Rattle.allocator.specs.Layout.{StateBuffers, stage_limits, queue_words, last_word, last_words}
use Rattle.allocator.specs.Calls.{load}
use Rattle.allocator.proofs.Loading.{stage_premises}
use Rattle.loader.specs.Loading as loading
use Rattle.loader.specs.Loading.{Lent, lent, later, LoadParts, LoadDone}
use Rattle.queue.specs.QueueWalk.{first_word, filled}
use Rattle.stage.proofs.QueueLaws.{fresh_tournament}
use Rattle.moves.specs.Standing.{JobStands, Stands}
use Rattle.moves.proofs.MoveLaws.{begins_take}
use Rattle.run_loop.specs.Running.{lent_state}
use Rattle.calls.specs.Calling.{sizes_of}
use Rattle.stage_loader.specs.StageLoading.{later_state, later_job, StageLoadParts, StageLoadDone}
use Rattle.records.specs.Fields.{first_records}
use Rattle.calls.specs.Trace.{JustLoaded}

-- ---- 15, for all that is lent

pub append_short : (ls ms xs ys : List ℕ) → length ls ≡ length xs → short_buffer (ls ++ ms) (xs ++ ys) ≡ (short_buffer ls xs || short_buffer ms ys)
unfolding short_buffer
append_short [] ms [] ys e = refl
append_short [] ms (x ∷ xs) ys e = absurd (omega arith)
append_short (n ∷ ls) ms [] ys e = absurd (omega arith)
append_short (n ∷ ls) ms (x ∷ xs) ys e =
    ap (λ (b : Bool). ltb x n || b) (append_short ls ms xs ys (omega arith)) ∙ sym (or_assoc (ltb x n) (short_buffer ls xs) (short_buffer ms ys))

two_short : (q l : ℕ) → (q < 1024) ⊎ (l < 512) → short_buffer (1024 ∷ 512 ∷ []) (q ∷ l ∷ []) ≡ true
unfolding short_buffer
two_short q l (inl h) = rw (lt-ltb q 1024 h)
two_short q l (inr h) = rw (lt-ltb l 512 h, or-true (ltb q 1024))

two_long : (q l : ℕ) → 1024 ≤ q → 512 ≤ l → short_buffer (1024 ∷ 512 ∷ []) (q ∷ l ∷ []) ≡ false
unfolding short_buffer
two_long q l h k = rw (le-ltb q 1024 h, le-ltb l 512 k)

-- ---- what the fresh state is

same_map : {A : Type 0} (f : ℕ → A) (a : A) → ((v : ℕ) → f v ≡ a) → (k n : ℕ) → map f (count k n) ≡ replicate n a
unfolding count
same_map f a h k zero = refl
same_map {A = A} f a h k (suc n) = ap (λ (x : A). x ∷ map f (count (suc k) n)) (h k) ∙ ap (λ (l : List A). a ∷ l) (same_map f a h (suc k) n)

no_last : (j : Job) → last_words (fresh_state j) ≡ replicate 512 0
unfolding last_words fresh_state
no_last j = same_map (λ t. last_word (get_or (replicate 512 none) t none)) 0 (λ v. ap last_word (replicate_default 512 v none)) 0 512

pub records_first : (j : Job) → first_records ≡ records (fresh_state j)
unfolding records record_of fresh_state
records_first j =
    sym (same_map (record_of (fresh_state j)) (Unassigned false)
    (λ v. ap (λ (b : Bool). assignment b (get_or (replicate 512 false) v false) (get_or (replicate 512 none) v none)) (replicate_default 512 v false)
    ∙ ap (λ (b : Bool). assignment false b (get_or (replicate 512 none) v none)) (replicate_default 512 v false)
    ∙ ap (assignment false false) (replicate_default 512 v none))
    0 512)

abbrev count_of : Result JobHeader Refusal → ℕ
count_of (Ok h) = h.virt_regs
count_of (Err e) = 0

-- the header is the same where the answers are
pub same_header : {h k : JobHeader} → ◌≡◌ {A = Result JobHeader Refusal} (Ok h) (Ok k) → h ≡ k
same_header {h} e = ap header e
  where
    header : Result JobHeader Refusal → JobHeader
    header (Ok x) = x
    header (Err n) = h

abbrev is_loaded : {E : Type 0} → Result JobHeader E → Bool
is_loaded (Ok h) = true
is_loaded (Err e) = false

-- ---- the job's lists in its slices

module _ {A : Type 0} where
  -- x stands behind p, and t behind it
  behind : (p x t l : List A) {n : ℕ} → length p ≡ n → l ≡ p ++ (x ++ t) → Begins x (drop n l)
  behind p x t l e q = (t, rw (q, ← e) (drop-append_seam p (x ++ t)))

  both_long : (p q : List A) {m n k : ℕ} → length p ≡ m → length q ≡ n → m + n ≡ k → length (p ++ q) ≡ k
  both_long p q a b c = length-append p q ∙ omega arith

module _ {A : Type 0} where
  class_sizes : (cs : List (List A)) (n : ℕ) → ((c : List A) → c ∈ cs → length c ≤ n) → length (concat_map (λ c. c) cs) ≤ length cs * n
  unfolding concat_map
  class_sizes [] n h = omega arith
  class_sizes (c ∷ cs) n h =
      let a = class_sizes cs n (λ d m. h d (Memᴰ.tail m)) in
      let b = h c (Memᴰ.head refl) in
      let e = suc-mul (length cs) n in
      omega (arith, length-append c (concat_map (λ c. c) cs))

module _ (j : Job) (p : Premises j) where
  few_class_regs_lem : length (concat_map (λ (c : List ℕ). c) j.classes) ≤ 1024
  few_class_regs_lem =
      let a = class_sizes j.classes 64 p.small_classes in
      let b : length j.classes * 64 ≤ 16 * 64 = mul-le-mul_right 64 p.few_classes in
      omega arith

  -- how long each list is
  regs_long : length (job_buffers j).regs ≡ 64
  unfolding job_buffers
  regs_long = padded_length 64 0 j.regs p.few_regs

  starts_long : length (job_buffers j).class_starts ≡ 17
  unfolding job_buffers
  starts_long = padded_length 17 0 (starts_from length 0 j.classes) (omega (arith, starts_length (length {A = ℕ}) 0 j.classes, p.few_classes))

  members_long : length (job_buffers j).class_regs ≡ 1024
  unfolding job_buffers
  members_long = padded_length 1024 0 (concat_map (λ c. c) j.classes) few_class_regs_lem

  classes_long : length (job_buffers j).classes ≡ 512
  unfolding job_buffers
  classes_long = padded_length 512 0 (map (λ (x : VirtReg). x.class) j.virt_regs) (simp length-map p.few_numbers)

  sets_long : length (job_buffers j).value_sets ≡ 512
  unfolding job_buffers
  sets_long = padded_length 512 0 (map (λ (x : VirtReg). x.value_set) j.virt_regs) (simp length-map p.few_numbers)

  spills_long : length (job_buffers j).spill_weights ≡ 512
  unfolding job_buffers
  spills_long = padded_length 512 zero_weight (map (λ (x : VirtReg). x.spill_weight) j.virt_regs) (simp length-map p.few_numbers)

  hints_long : length (job_buffers j).hint_starts ≡ 513
  unfolding job_buffers
  hints_long =
      padded_length 513 0 (starts_from (λ (x : VirtReg). length x.hints) 0 j.virt_regs)
      (omega (arith, starts_length (λ (x : VirtReg). length x.hints) 0 j.virt_regs, p.few_numbers))

  froms_long : length (job_buffers j).froms ≡ 512
  unfolding job_buffers
  froms_long = padded_length 512 0 (map (λ (x : ValueSegment). x.from) (all_segments j)) (simp length-map p.few_segments)

  tos_long : length (job_buffers j).tos ≡ 512
  unfolding job_buffers
  tos_long = padded_length 512 0 (map (λ (x : ValueSegment). x.to) (all_segments j)) (simp length-map p.few_segments)

  sizes_long : length (job_buffers j).sizes ≡ 512
  unfolding job_buffers
  sizes_long = padded_length 512 0 (map (λ (x : VirtReg). x.size) j.virt_regs) (simp length-map p.few_numbers)

  values_long : length (job_buffers j).values ≡ 512
  unfolding job_buffers
  values_long = padded_length 512 0 (map (λ (x : ValueSegment). x.value) (all_segments j)) (simp length-map p.few_segments)

  pub laid_job : (B : JobSlices) (S : StateBuffers) → JobStands j (lists_in (later_job j B S))
  unfolding later job_slices
  laid_job B S =
      let b = job_buffers j in
      let t16 = drop 2067 B.j16 in
      let t8 = drop 2560 B.j8 in
      let t32 = drop 1536 B.j32 in
      let n529 : length (b.class_starts ++ b.value_sets) ≡ 529 = both_long b.class_starts b.value_sets starts_long sets_long refl in
      let n1041 : length ((b.class_starts ++ b.value_sets) ++ b.values) ≡ 1041 = both_long (b.class_starts ++ b.value_sets) b.values n529 values_long refl in
      let n1554 : length (((b.class_starts ++ b.value_sets) ++ b.values) ++ b.hint_starts) ≡ 1554 = both_long ((b.class_starts ++ b.value_sets) ++ b.values) b.hint_starts n1041 hints_long refl in
      record {
        reads =
            record {
              regs = (b.fixed_uses ++ drop 576 B.j64, simp append_assoc);
              class_starts = (b.value_sets ++ (b.values ++ (b.hint_starts ++ (b.segment_starts ++ t16))), simp append_assoc);
              class_regs = (b.classes ++ (b.hint_regs ++ t8), simp append_assoc);
              fixed_uses = behind b.regs b.fixed_uses (drop 576 B.j64) (later_job j B S).j64 regs_long (simp append_assoc);
              classes = behind b.class_regs b.classes (b.hint_regs ++ t8) (later_job j B S).j8 members_long (simp append_assoc);
              value_sets = behind b.class_starts b.value_sets (b.values ++ (b.hint_starts ++ (b.segment_starts ++ t16))) (later_job j B S).j16 starts_long (simp append_assoc);
              spill_weights = (b.hint_weights ++ drop 1536 B.jf, simp append_assoc);
              hint_starts = behind ((b.class_starts ++ b.value_sets) ++ b.values) b.hint_starts (b.segment_starts ++ t16) (later_job j B S).j16 n1041 (simp append_assoc);
              hint_regs = behind (b.class_regs ++ b.classes) b.hint_regs t8 (later_job j B S).j8 (both_long b.class_regs b.classes members_long classes_long refl) (simp append_assoc);
              hint_weights = behind b.spill_weights b.hint_weights (drop 1536 B.jf) (later_job j B S).jf spills_long (simp append_assoc);
              segment_starts = behind (((b.class_starts ++ b.value_sets) ++ b.values) ++ b.hint_starts) b.segment_starts t16 (later_job j B S).j16 n1554 (simp append_assoc);
              froms = (b.tos ++ (b.sizes ++ t32), simp append_assoc);
              tos = behind b.froms b.tos (b.sizes ++ t32) (later_job j B S).j32 froms_long (simp append_assoc);
              values = behind (b.class_starts ++ b.value_sets) b.values (b.hint_starts ++ (b.segment_starts ++ t16)) (later_job j B S).j16 n529 (simp append_assoc);
            };
        sizes = behind (b.froms ++ b.tos) b.sizes t32 (later_job j B S).j32 (both_long b.froms b.tos froms_long tos_long refl) (simp append_assoc);
      }

-- ---- loading

module _ (bytes : List ℕ) (B : JobSlices) (S : StateBuffers) where
  abbrev below : Lent
  below = lent B S.ends S.rests

  all_short : short_buffer stage_limits (sizes_of B S) ≡ (short_buffer load_limits (loading.sizes_of below) || short_buffer (1024 ∷ 512 ∷ []) (length S.queue ∷ length S.last ∷ []))
  all_short = append_short load_limits (1024 ∷ 512 ∷ []) (loading.sizes_of below) (length S.queue ∷ length S.last ∷ []) refl

  refused_15 : short_buffer stage_limits (sizes_of B S) ≡ true → load (sizes_of B S) bytes ≡ not_loaded 15
  unfolding load load_with whole_job
  refused_15 e = rw e

  same_load : short_buffer stage_limits (sizes_of B S) ≡ short_buffer load_limits (loading.sizes_of below) → load_with load_limits (loading.sizes_of below) bytes ≡ load (sizes_of B S) bytes
  unfolding load load_with whole_job
  same_load e = rw e

  -- the queue's buffer or the last registers' is short
  pub short_load : (length S.queue < 1024) ⊎ (length S.last < 512) → StageLoadDone bytes B S B S (Err ShortBuffer)
  short_load h =
      record {
        parts =
            subst (StageLoadParts B S B S (Err ShortBuffer))
            (sym (refused_15 (all_short ∙ ap (λ (b : Bool). short_buffer load_limits (loading.sizes_of below) || b) (two_short (length S.queue) (length S.last) h) ∙ or-true (short_buffer load_limits (loading.sizes_of below)))))
            (refl, refl, refl);
      }

  module _ (roomy : 1024 ≤ length S.queue) (roomy' : 512 ≤ length S.last) (B' : JobSlices) (ends' rests' : List ℕ) (r : Result JobHeader Refusal) (d : LoadDone bytes below (lent B' ends' rests') r) where
    loads_same : load_with load_limits (loading.sizes_of below) bytes ≡ load (sizes_of B S) bytes
    loads_same =
        same_load
        (all_short ∙ ap (λ (b : Bool). short_buffer load_limits (loading.sizes_of below) || b) (two_long (length S.queue) (length S.last) roomy roomy')
        ∙ or-false (short_buffer load_limits (loading.sizes_of below)))

    pub refused_load : (n : Refusal) → r ≡ Err n → StageLoadDone bytes B S B' (lent_state ends' rests' S.queue S.last) (Err n)
    refused_load n told = record { parts = subst (StageLoadParts B S B' (lent_state ends' rests' S.queue S.last) (Err n)) loads_same (go (load_with load_limits (loading.sizes_of below) bytes) d.parts) }
      where
        go : (o : Loaded) → LoadParts below (lent B' ends' rests') o r → StageLoadParts B S B' (lent_state ends' rests' S.queue S.last) (Err n) o
        go (not_loaded m) p = (ap numbered (sym told) ∙ p.0, ap (λ (b : Lent). b.job) p.1, ap (λ (b : Lent). lent_state b.ends b.rests S.queue S.last) p.1)
        go (loaded j) p = absurd (subst (λ (b : Bool). T b) (ap is_loaded (sym p.0 ∙ told)) tt)

    filled_state :
        (j : Job) → Premises j → (n : ℕ) → n ≡ length j.virt_regs → lent B' ends' rests' ≡ later j below
        → (queue' last' : List ℕ)
        → queue' ≡ filled (first_word n (drop 1041 B'.j16) (drop 1024 B'.j32)) S.queue
        → last' ≡ sets S.last 0 (replicate (512 - 0) 0)
        → lent_state ends' rests' queue' last' ≡ later_state j S
    unfolding later later_state fresh_state
    filled_state j p' n e p queue' last' pq pl =
        ap (λ (l : List ℕ). lent_state l rests' queue' last') (ap (λ (b : Lent). b.ends) p)
        ∙ ap (λ (l : List ℕ). lent_state (later j below).ends l queue' last') (ap (λ (b : Lent). b.rests) p)
        ∙ ap (λ (l : List ℕ). lent_state (later j below).ends (later j below).rests l last') queue_is
        ∙ ap (λ (l : List ℕ). lent_state (later j below).ends (later j below).rests (queue_words j (fresh_state j) ++ drop 1024 S.queue) l) last_is
      where
        few : length j.virt_regs ≤ 512
        few = p'.few_numbers

        laid : JobStands j (lists_in B')
        laid = subst (λ (x : JobSlices). JobStands j (lists_in x)) (sym (ap (λ (b : Lent). b.job) p)) (laid_job j p' B S)

        here : take 513 (drop 1041 B'.j16) ≡ (job_buffers j).hint_starts
        here = begins_take 513 (job_buffers j).hint_starts (drop 1041 B'.j16) (hints_long j p') laid.reads.hint_starts

        there : take 512 (drop 1024 B'.j32) ≡ (job_buffers j).sizes
        there = begins_take 512 (job_buffers j).sizes (drop 1024 B'.j32) (sizes_long j p') laid.sizes

        queue_is : queue' ≡ queue_words j (fresh_state j) ++ drop 1024 S.queue
        queue_is = pq ∙ ap (λ (m : ℕ). filled (first_word m (drop 1041 B'.j16) (drop 1024 B'.j32)) S.queue) e ∙ fresh_tournament j few (drop 1041 B'.j16) (drop 1024 B'.j32) here there S.queue roomy

        last_is : last' ≡ last_words (fresh_state j) ++ drop 512 S.last
        last_is = pl ∙ sets-eq (replicate 512 0) S.last 0 (omega (arith, roomy', length-replicate {A = ℕ} 512 0)) ∙ ap (λ (l : List ℕ). l ++ drop 512 S.last) (sym (no_last j))

    count_is : (h : JobHeader) (j : Job) → ◌≡◌ {A = Result JobHeader Refusal} (Ok h) (Ok (header_of j)) → h.virt_regs ≡ length j.virt_regs
    unfolding header_of
    count_is h j e = ap count_of e

    pub accepted_load :
        Bytes bytes
        → (h : JobHeader)
        → r ≡ Ok h
        → (queue' last' : List ℕ)
        → queue' ≡ filled (first_word h.virt_regs (drop 1041 B'.j16) (drop 1024 B'.j32)) S.queue
        → last' ≡ sets S.last 0 (replicate (512 - 0) 0)
        → StageLoadDone bytes B S B' (lent_state ends' rests' queue' last') (Ok h)
    accepted_load are_bytes h told queue' last' pq pl =
        record { parts = subst (StageLoadParts B S B' (lent_state ends' rests' queue' last') (Ok h)) loads_same (go _ refl d.parts) }
      where
        go : (o : Loaded) → load_with load_limits (loading.sizes_of below) bytes ≡ o → LoadParts below (lent B' ends' rests') o r → StageLoadParts B S B' (lent_state ends' rests' queue' last') (Ok h) o
        go (not_loaded m) q p = absurd (subst (λ (b : Bool). T (not b)) (ap is_loaded (sym p.0 ∙ ap numbered told)) tt)
        go (loaded j) q p = (
          sym told ∙ p.0,
          ap (λ (b : Lent). b.job) p.1,
          filled_state j (stage_premises (sizes_of B S) bytes j are_bytes (sym loads_same ∙ q)) h.virt_regs (count_is h j (sym told ∙ p.0)) p.1 queue' last' pq pl,
        )

-- the same of the table that stands in a state afterwards
pub done_in :
    {bytes : List ℕ} {B : JobSlices} {S : StateBuffers} {B' : JobSlices} {ends' rests' ends rests queue last : List ℕ} {r : Result JobHeader Refusal}
    → StageLoadDone bytes B S B' (lent_state ends' rests' queue last) r
    → ends ≡ ends'
    → rests ≡ rests'
    → StageLoadDone bytes B S B' (lent_state ends rests queue last) r
done_in d e f = rw (e, f) d

-- ---- the start of a trace

-- what is lent behind
abbrev pub behind_state : StateBuffers → StateBuffers
behind_state S = record { ends = drop max_entries S.ends; rests = drop max_entries S.rests; queue = drop 1024 S.queue; last = drop 512 S.last }

pub laid_state : (j : Job) (S : StateBuffers) → Stands j (fresh_state j) (behind_state S) (later_state j S).ends (later_state j S).rests (later_state j S).queue (later_state j S).last
unfolding later_state
laid_state j S = record { moves = record { table = record { ends_are = refl; rests_are = refl }; queue_is = refl }; last_is = refl }

-- a stage that was loaded is one just loaded
pub just_loaded :
    (bytes : List ℕ) (B : JobSlices) (S : StateBuffers) (B' : JobSlices) (S' : StateBuffers) (h : JobHeader)
    → Bytes bytes
    → StageLoadDone bytes B S B' S' (Ok h)
    → (j : Job) × JustLoaded j h B' S' first_records
unfolding later_state later
just_loaded bytes B S B' S' h are_bytes d = go (load (sizes_of B S) bytes) refl d.parts
  where
    go : (o : Loaded) → load (sizes_of B S) bytes ≡ o → StageLoadParts B S B' S' (Ok h) o → (j : Job) × JustLoaded j h B' S' first_records
    go (not_loaded n) q p = absurd (subst (λ (b : Bool). T b) (ap is_loaded p.0) tt)
    go (loaded j) q p = (
      j,
      record {
        lent = sizes_of B S;
        bytes = bytes;
        are_bytes = are_bytes;
        loads = q;
        header_is = same_header p.0;
        job_stands = subst (λ (x : JobSlices). JobStands j (lists_in x)) (sym p.1) (laid_job j (stage_premises (sizes_of B S) bytes j are_bytes q) B S);
        behind = behind_state S;
        fresh = record { stands = subst (λ (x : StateBuffers). Stands j (fresh_state j) (behind_state S) x.ends x.rests x.queue x.last) (sym p.2) (laid_state j S); records_are = records_first j };
      },
    )
