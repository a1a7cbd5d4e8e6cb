-- A job that is loaded and run with its budget: the lines from the first position are together the printed sheet. Assumes nothing.
use Prim.Native.Nat.{ℕ, ◌≤◌, ◌<◌}
use native.Mathlib.Omega.{arith}
use mathlib.Core.Path.{◌≡◌, refl, sym, ap, ◌∙◌, subst}
use mathlib.Core.List.{List, [], ◌∷◌, ◌++◌, map}
use mathlib.Core.Bool.{Bool, true, false, ◌||◌, or-true, or-false}
use lib.Dec.{ltb}
use lib.ListN.{length, take, drop, take-append-drop, length-map}
use lib.Seq.{sets, take_at, drop_at}
use borrow.Author.Tests.{lt-ltb, le-ltb}
use Rattle.reg_matrix.specs.Lines.{refused_line}
use Rattle.reg_matrix.specs.declared.Refusal.{Refusal}
use Rattle.reg_matrix.specs.Refused.{number_of, numbered}
use Rattle.reg_matrix.specs.Refusals.{short_buffer}
use Rattle.job.specs.Model.{Job}
use Rattle.job.specs.Load.{Bytes, whole_job, Loaded, not_loaded, loaded, load_with}
use Rattle.job.specs.Layout.{JobSlices, header_of, lists_in}
use Rattle.job.specs.declared.JobHeader.{JobHeader}
use Rattle.allocator.specs.declared.Assignment.{Assignment}
use Rattle.allocator.specs.declared.Ending.{Ending}
use Rattle.allocator.specs.State.{fresh_state, records}
use Rattle.allocator.specs.Layout.{StateBuffers, stage_limits}
use Rattle.allocator.specs.Calls.{load}
use Rattle.allocator.specs.Reached.{Reached}
use Rattle.allocator.specs.Sheet.{sheet_of, printed}
use Rattle.allocator.proofs.Loading.{stage_premises}
use Rattle.allocator.proofs.Good.{reached_fresh, reached_run}
use Rattle.std.specs.Prelude.{Result, Ok, Err}
use Rattle.moves.specs.Standing.{JobStands, Stands}
use Rattle.run_loop.specs.declared.RunEnd.{RunEnd}
use Rattle.run_loop.specs.Running.{lent_state, LentTo, RunMade}
use Rattle.calls.specs.Calling.{sizes_of}
use Rattle.stage_loader.specs.StageLoading.{later_state, later_job, StageLoadParts, StageLoadDone}
use Rattle.records.specs.Fields.{first_records}
use Rattle.stage_loader.proofs.StageLoads.{append_short, behind_state, laid_state, laid_job, same_header, records_first}
use Rattle.listing.specs.declared.Listing.{Listing}
use Rattle.listing.proofs.SheetLaws.{Laid, reached_sheet}
use Rattle.record_words.specs.Words.{record_word, records_in, AllPlain, WordsOf}
use Rattle.record_words.proofs.WordLaws.{tail_kept, in_front, front_words}
use Rattle.record_words.proofs.PlainRecords.{plain_records, records_length}
use Rattle.sheets.specs.Printing.{sheet_limits, sheet_sizes, loaded_with, ran_of, state_in, records_on, start_of, lines_lent, shown, BegunParts, Begun, RunStored}

-- ---- a run whose records stand in the words

pub run_stored :
    (h : JobHeader) (B : JobSlices) (S : StateBuffers) (W : List ℕ) (S' : StateBuffers) (W' : List ℕ) (c : Listing)
    (rs : List Assignment) (n : ℕ) (firsts part : List ℕ) (r : RunEnd)
    → rs ≡ first_records
    → firsts ≡ sets W 0 (map record_word rs)
    → (AllPlain rs → 512 ≤ length W → records_in firsts ≡ rs)
    → (512 ≤ length W → n ≡ 512)
    → RunMade h.budget (lists_in B) S (take n firsts) S' part r
    → length part ≡ n
    → W' ≡ part ++ drop n firsts
    → c ≡ start_of h r.ending r.dequeues
    → RunStored h B S W S' W' c
run_stored h B S W S' W' c rs n firsts part r first stored back most ran size e at =
    record {
      firsts = firsts;
      stored = stored ∙ ap (λ (l : List Assignment). sets W 0 (map record_word l)) first;
      read_back = subst (λ (l : List Assignment). AllPlain l → 512 ≤ length W → records_in firsts ≡ l) first back;
      end = r;
      ran =
          λ l.
          let q = most l in
          subst (λ (p : List ℕ). RunMade h.budget (lists_in B) S (take 512 firsts) S' p r) (sym (ap (take 512) e ∙ take_at part (drop n firsts) 512 (size ∙ q)))
          (subst (λ (k : ℕ). RunMade h.budget (lists_in B) S (take k firsts) S' part r) q ran);
      behind =
          λ l.
          let q = most l in
          ap (drop 512) e ∙ drop_at part (drop n firsts) 512 (size ∙ q) ∙ ap (λ (k : ℕ). drop k firsts) q ∙ ap (drop 512) stored ∙ tail_kept rs W (ap length first) l;
      at = at;
    }

-- ---- 15, for the words too

refused_loaded : {E : Type 0} (m : E) (k : JobHeader) → ◌≡◌ {A = Result JobHeader E} (Err m) (Ok k) → ⊥
refused_loaded m k e = let z : ◌≡◌ {A = ℕ} 0 1 = cc in omega arith

limits_enough : short_buffer stage_limits stage_limits ≡ false
unfolding short_buffer
limits_enough = refl

module _ (bytes : List ℕ) (B : JobSlices) (S : StateBuffers) (W : List ℕ) where
  all_short : short_buffer sheet_limits (sheet_sizes B S W) ≡ (short_buffer stage_limits (sizes_of B S) || (ltb (length W) 512 || false))
  unfolding short_buffer
  all_short = append_short stage_limits (512 ∷ []) (sizes_of B S) (length W ∷ []) refl

  -- with no short buffer it is the printed sheet
  all_printed : short_buffer sheet_limits (sheet_sizes B S W) ≡ false → sheet_of (loaded_with B S W bytes) ≡ printed bytes
  unfolding loaded_with load_with whole_job load printed
  all_printed e = rw (e, limits_enough)

  begun :
      (B' : JobSlices) (S' : StateBuffers) (W' : List ℕ) (r : Result Listing ℕ) (o : Loaded)
      → loaded_with B S W bytes ≡ o
      → BegunParts B S W B' S' W' r o
      → shown r (lines_lent B' S') W' ≡ sheet_of o
      → Begun bytes B S W B' S' W' r
  begun B' S' W' r o e p q =
      let shows : shown r (lines_lent B' S') W' ≡ sheet_of (loaded_with B S W bytes) = q ∙ ap sheet_of (sym e) in
      record { parts = subst (BegunParts B S W B' S' W' r) (sym e) p; shows = shows; prints = λ k. shows ∙ all_printed k }

  pub short_begin : length W < 512 → Begun bytes B S W B S W (Err 15)
  unfolding loaded_with load_with whole_job shown
  short_begin h =
      let e : short_buffer sheet_limits (sheet_sizes B S W) ≡ true =
      all_short ∙ ap (λ (b : Bool). short_buffer stage_limits (sizes_of B S) || (b || false)) (lt-ltb (length W) 512 h) ∙ or-true (short_buffer stage_limits (sizes_of B S)) in
      begun B S W (Err 15) (not_loaded 15) (rw e) (refl, refl, refl, refl) refl

  -- and with long enough words it is loading a stage
  same_load : 512 ≤ length W → loaded_with B S W bytes ≡ load (sizes_of B S) bytes
  unfolding loaded_with load_with whole_job load
  same_load h =
      let e : short_buffer sheet_limits (sheet_sizes B S W) ≡ short_buffer stage_limits (sizes_of B S) =
      all_short ∙ ap (λ (b : Bool). short_buffer stage_limits (sizes_of B S) || (b || false)) (le-ltb (length W) 512 h) ∙ or-false (short_buffer stage_limits (sizes_of B S)) in
      rw e

  pub refused_begin :
      512 ≤ length W → (B' : JobSlices) (S' : StateBuffers) (r : Result JobHeader Refusal) (n : Refusal) → StageLoadDone bytes B S B' S' r → r ≡ Err n → Begun bytes B S W B' S' W (Err (number_of n))
  unfolding shown
  refused_begin h B' S' r n d told = go (load (sizes_of B S) bytes) refl d.parts
    where
      go : (o : Loaded) → load (sizes_of B S) bytes ≡ o → StageLoadParts B S B' S' r o → Begun bytes B S W B' S' W (Err (number_of n))
      go (not_loaded m) q p =
          let e : number_of n ≡ m = cc (ap numbered told, p.0) in
          begun B' S' W (Err (number_of n)) (not_loaded m) (same_load h ∙ q) (ap Err e, p.1, p.2, refl) (ap refused_line e)
      go (loaded j) q p = absurd (refused_loaded n (header_of j) (sym told ∙ p.0))

  -- ---- a job that loads, and its run

  module _ (are_bytes : Bytes bytes) (j : Job) (loads : load (sizes_of B S) bytes ≡ loaded j) (h : JobHeader) (head : h ≡ header_of j) (B₁ : JobSlices) (S₁ : StateBuffers)
      (job_is : B₁ ≡ later_job j B S) (state_is : S₁ ≡ later_state j S) (S' : StateBuffers) (W' : List ℕ) (c : Listing) (d : RunStored h B₁ S₁ W S' W' c) where
    reach : Reached j (fresh_state j)
    reach = reached_fresh (sizes_of B S) bytes j are_bytes loads

    job_stands : JobStands j (lists_in B₁)
    job_stands = subst (λ (b : JobSlices). JobStands j (lists_in b)) (sym job_is) (laid_job j (stage_premises (sizes_of B S) bytes j are_bytes loads) B S)

    state_stands : Stands j (fresh_state j) (behind_state S) S₁.ends S₁.rests S₁.queue S₁.last
    state_stands = subst (λ (x : StateBuffers). Stands j (fresh_state j) (behind_state S) x.ends x.rests x.queue x.last) (sym state_is) (laid_state j S)

    budget_is : h.budget ≡ j.budget
    unfolding header_of
    budget_is = ap (λ (x : JobHeader). x.budget) head

    reach_after : Reached j (ran_of j).state
    reach_after = reached_run j (fresh_state j) reach j.budget

    module _ (room : 512 ≤ length W) where
      lent_so : LentTo j (fresh_state j) (behind_state S) (lists_in B₁) S₁ (take 512 d.firsts)
      lent_so =
          record {
            reached = reach;
            job_stands = job_stands;
            stands = state_stands;
            records_are =
                subst (λ (rs : List Assignment). WordsOf rs (take 512 d.firsts)) (records_first j)
                (front_words first_records W d.firsts refl room d.stored d.read_back (subst AllPlain (sym (records_first j)) (plain_records j (fresh_state j) reach)));
          }

      ran_so :
          Stands j (ran_of j).state (behind_state S) S'.ends S'.rests S'.queue S'.last
          × WordsOf (records (ran_of j).state) (take 512 W')
          × (d.end.ending ≡ (ran_of j).ending)
          × (d.end.dequeues ≡ (ran_of j).dequeues)
      ran_so = (subst (λ (b : ℕ). RunMade b (lists_in B₁) S₁ (take 512 d.firsts) S' (take 512 W') d.end) budget_is (d.ran room)).made j (fresh_state j) (behind_state S) lent_so

      start_is : c ≡ start_of (header_of j) (ran_of j).ending (ran_of j).dequeues
      start_is =
          d.at
          ∙ ap (λ (x : JobHeader). start_of x d.end.ending d.end.dequeues) head
          ∙ ap (λ (e : Ending). start_of (header_of j) e d.end.dequeues) ran_so.2
          ∙ ap (λ (n : ℕ). start_of (header_of j) (ran_of j).ending n) ran_so.3

      stands_so : S' ≡ state_in j (ran_of j).state S
      unfolding state_in
      stands_so =
          let st = ran_so.0 in
          ap (λ (l : List ℕ). lent_state l S'.rests S'.queue S'.last) st.moves.table.ends_are
          ∙ ap (λ (l : List ℕ). lent_state (state_in j (ran_of j).state S).ends l S'.queue S'.last) st.moves.table.rests_are
          ∙ ap (λ (l : List ℕ). lent_state (state_in j (ran_of j).state S).ends (state_in j (ran_of j).state S).rests l S'.last) st.moves.queue_is
          ∙ ap (λ (l : List ℕ). lent_state (state_in j (ran_of j).state S).ends (state_in j (ran_of j).state S).rests (state_in j (ran_of j).state S).queue l) st.last_is

      stored_so : W' ≡ records_on (ran_of j).state W
      unfolding records_on
      stored_so =
          sym (take-append-drop 512 W') ∙ ap (λ (l : List ℕ). l ++ drop 512 W') ran_so.1.words_are
          ∙ ap (λ (l : List ℕ). map record_word (records (ran_of j).state) ++ l) (d.behind room)

      laid : Laid j (ran_of j).state (records_in W') (lines_lent B₁ S')
      laid =
          let n : length (take 512 W') ≡ 512 = ap length ran_so.1.words_are ∙ length-map (records (ran_of j).state) record_word ∙ records_length (ran_of j).state in
          record {
            maps_behind = job_stands.reads.regs.0;
            ends_behind = (behind_state S).ends;
            rests_behind = (behind_state S).rests;
            records_are = sym (ap records_in (take-append-drop 512 W')) ∙ in_front (take 512 W') (drop 512 W') n ∙ ran_so.1.read_so;
            maps_are = job_stands.reads.regs.1;
            ends_are = ran_so.0.moves.table.ends_are;
            rests_are = ran_so.0.moves.table.rests_are;
          }

      loaded_begun : Begun bytes B S W B₁ S' W' (Ok c)
      unfolding shown
      loaded_begun =
          begun B₁ S' W' (Ok c) (loaded j) (same_load room ∙ loads) (ap Ok start_is, job_is, stands_so, stored_so)
          (ap (λ (x : Listing). shown (Ok x) (lines_lent B₁ S') W') start_is
          ∙ reached_sheet j (ran_of j).state reach_after (records_in W') (lines_lent B₁ S') laid (ran_of j).ending (ran_of j).dequeues)

  -- the run reads the job where loading left it
  pub loaded_begin :
      512 ≤ length W
      → Bytes bytes
      → (B₁ : JobSlices) (S₁ : StateBuffers) (r : Result JobHeader Refusal) (h : JobHeader)
      → StageLoadDone bytes B S B₁ S₁ r
      → r ≡ Ok h
      → (lent : JobSlices)
      → lent ≡ B₁
      → (S' : StateBuffers) (W' : List ℕ) (c : Listing)
      → RunStored h lent S₁ W S' W' c
      → Begun bytes B S W B₁ S' W' (Ok c)
  loaded_begin room are_bytes B₁ S₁ r h d told lent same S' W' c k = go (load (sizes_of B S) bytes) refl d.parts
    where
      go : (o : Loaded) → load (sizes_of B S) bytes ≡ o → StageLoadParts B S B₁ S₁ r o → Begun bytes B S W B₁ S' W' (Ok c)
      go (not_loaded n) q p = absurd (refused_loaded n h (sym p.0 ∙ ap numbered told))
      go (loaded j) q p =
          loaded_begun are_bytes j q h (same_header (sym told ∙ p.0)) B₁ S₁ p.1 p.2 S' W' c (subst (λ (b : JobSlices). RunStored h b S₁ W S' W' c) same k) room
