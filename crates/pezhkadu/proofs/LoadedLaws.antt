-- A load that is carried out leaves what every call asks for: a header and records that are read again as they are. Assumes nothing.
use Prim.Native.Nat.{ℕ, zero, suc, ◌+◌, ◌≤◌, ◌<◌, ◌^◌}
use native.Mathlib.Omega.{arith}
use native.Mathlib.Nat.{mod-eq_of_lt}
use mathlib.Core.Path.{◌≡◌, refl, sym, ap, ◌∙◌, subst}
use mathlib.Core.List.{List, [], ◌∷◌, ◌++◌, map}
use mathlib.Core.Option.{Option, none, some}
use mathlib.Core.Bool.{Bool, true, false, cond}
use lib.ListN.{length, drop, get_or, replicate, length-map, length-replicate, get_or-append}
use lib.Seq.{sets, sets-eq, ext_get_or}
use Rattle.lent.proofs.Laws.{any_default}
use Rattle.reg_matrix.specs.Lists.{count}
use Rattle.reg_matrix.specs.declared.ValueSegment.{ValueSegment}
use Rattle.reg_matrix.proofs.Places.{replicate_default, from_zero, count_length}
use Rattle.job.specs.Model.{Job}
use Rattle.job.specs.Load.{Bytes, Loaded, not_loaded, loaded}
use Rattle.job.specs.Layout.{JobSlices, probe_of, header_of}
use Rattle.job.specs.declared.JobHeader.{JobHeader}
use Rattle.std.specs.Prelude.{Option as Maybe, Some, None}
use Rattle.job.proofs.Premises.{GoodProbe, Premises}
use Rattle.allocator.specs.declared.Assignment.{Assignment}
use Rattle.allocator.specs.declared.Assignment.TheVariants.{Unassigned, Dead}
use Rattle.allocator.specs.State.{fresh_state}
use Rattle.allocator.specs.Layout.{StateBuffers}
use Rattle.allocator.specs.Calls.{load}
use Rattle.allocator.proofs.Good.{good_reached, reached_fresh}
use Rattle.std.specs.Prelude.{Ok}
use Rattle.calls.specs.Calling.{sizes_of, StateStands}
use Rattle.stage_loader.specs.StageLoading.{StageLoadParts, StageLoadDone}
use Rattle.records.specs.Fields.{first_records}
use Rattle.stage_loader.proofs.StageLoads.{just_loaded}
use Rattle.record_words.specs.Words.{record_word, record_in, records_in}
use Rattle.record_words.proofs.WordLaws.{first_word_lem}
use Rattle.words.specs.Words.{probe_words, header_words, probe_in, header_in}
use Rattle.words.specs.Words.{words_short}
use Rattle.pezhkadu.specs.Loading.{LoadParts, LoadCalled, JustLoaded}
use Rattle.pezhkadu.proofs.CallLaws.{long_both}
use Rattle.pezhkadu.proofs.RefusalNumbers.{not_zero}

-- ---- the header

-- the points of a probe range are small
abbrev SmallProbe : Maybe (ℕ × ℕ) → Type 0
SmallProbe None = Unit {0}
SmallProbe (Some (a, b)) = (a < 2 ^ 32) × (b < 2 ^ 32)

header_back :
    (a b c d : ℕ) (p : Maybe (ℕ × ℕ)) (t : List ℕ)
    → a < 2 ^ 8
    → b < 2 ^ 8
    → c < 2 ^ 16
    → d < 2 ^ 32
    → SmallProbe p
    → header_in (header_words (record { regs = a; classes = b; virt_regs = c; probe = p; budget = d }) ++ t)
    ≡ record { regs = a; classes = b; virt_regs = c; probe = p; budget = d }
unfolding header_in header_words probe_in
header_back a b c d None t ha hb hc hd hp = rw (mod-eq_of_lt ha, mod-eq_of_lt hb, mod-eq_of_lt hc, mod-eq_of_lt hd) refl
header_back a b c d (Some (x, y)) t ha hb hc hd hp =
    rw (mod-eq_of_lt ha, mod-eq_of_lt hb, mod-eq_of_lt hc, mod-eq_of_lt hd, mod-eq_of_lt hp.0, mod-eq_of_lt hp.1) refl

small_probe : (o : Option ValueSegment) → GoodProbe o → SmallProbe (probe_of o)
small_probe none h = tt
small_probe (some s) h = (h.small.from, h.small.to)

header_length : (h : JobHeader) → length (header_words h) ≡ 8
unfolding header_words
header_length h = go h.probe
  where
    go : (p : Maybe (ℕ × ℕ)) → length (h.regs ∷ h.classes ∷ h.virt_regs ∷ h.budget ∷ (probe_words p ++ (0 ∷ []))) ≡ 8
    go None = refl
    go (Some (a, b)) = refl

stored_header_back : (j : Job) → Premises j → (head : List ℕ) → 8 ≤ length head → header_in (sets head 0 (header_words (header_of j))) ≡ header_of j
unfolding header_of
stored_header_back j p head l =
    ap header_in (sets-eq (header_words (header_of j)) head 0 (omega (arith, header_length (header_of j))))
    ∙ header_back (length j.regs) (length j.classes) (length j.virt_regs) j.budget (probe_of j.probe) (drop (0 + length (header_words (header_of j))) head)
    (omega (arith, p.few_regs)) (omega (arith, p.few_classes)) (omega (arith, p.few_numbers)) p.small_budget (small_probe j.probe p.probe)

-- ---- the records

words_first : (n : ℕ) → map record_word (replicate n (Unassigned false)) ≡ replicate n 0
words_first zero = refl
words_first (suc n) = rw first_word_lem (ap (λ (l : List ℕ). 0 ∷ l) (words_first n))

stored_records_back : (ws : List ℕ) → 512 ≤ length ws → records_in (sets ws 0 (map record_word first_records)) ≡ first_records
unfolding records_in record_in
stored_records_back ws l =
    ap records_in (ap (sets ws 0) (words_first 512) ∙ sets-eq (replicate 512 0) ws 0 (omega (arith, l, size)))
    ∙ ext_get_or Dead (map (λ v. record_in (get_or whole v 0)) (count 0 512)) first_records (here ∙ sym (length-replicate 512 (Unassigned false)))
    (λ v b. let k : v < 512 = omega (arith, b, here) in
    from_zero (λ v. record_in (get_or whole v 0)) Dead 512 v k
    ∙ ap record_in (get_or-append (replicate 512 0) rest 0 v (omega (arith, k, size)) ∙ replicate_default 512 v 0)
    ∙ sym (any_default first_records v Dead (Unassigned false) (omega (arith, k, length-replicate 512 (Unassigned false))) ∙ replicate_default 512 v (Unassigned false)))
  where
    size : length (replicate {A = ℕ} 512 0) ≡ 512
    size = length-replicate {A = ℕ} 512 0

    rest : List ℕ
    rest = drop (0 + length (replicate {A = ℕ} 512 0)) ws

    whole : List ℕ
    whole = replicate 512 0 ++ rest

    here : length (map (λ v. record_in (get_or whole v 0)) (count 0 512)) ≡ 512
    here = length-map (count 0 512) (λ v. record_in (get_or whole v 0)) ∙ count_length 0 512

-- ---- all of it

-- a job that loads is left as calls ask for it
pub loaded_stands :
    (bytes head ws : List ℕ) (B : JobSlices) (S : StateBuffers) (head' ws' : List ℕ) (B' : JobSlices) (S' : StateBuffers) (n : ℕ)
    → Bytes bytes
    → words_short head ws ≡ false
    → (j : Job)
    → load (sizes_of B S) bytes ≡ loaded j
    → LoadCalled bytes head ws B S head' ws' B' S' n
    → JustLoaded head' ws' B' S'
loaded_stands bytes head ws B S head' ws' B' S' n are_bytes long j q d =
    let l = long_both head ws long in
    let e = ap (λ (b : Bool). cond b (not_loaded 15) (load (sizes_of B S) bytes)) long ∙ q in
    let p = subst (LoadParts head ws B S head' ws' B' S' n) e d.parts in
    let done : StageLoadDone bytes B S B' S' (Ok (header_of j)) = record { parts = subst (StageLoadParts B S B' S' (Ok (header_of j))) (sym q) (refl, p.3, p.4) } in
    let c = just_loaded bytes B S B' S' (header_of j) are_bytes done in
    let j' = c.0 in
    let reach = reached_fresh c.1.lent c.1.bytes j' c.1.are_bytes c.1.loads in
    record {
      job = j';
      reached = reach;
      job_stands = c.1.job_stands;
      header_is =
          ap header_in (p.1 ∙ ap (λ (x : JobHeader). sets head 0 (header_words x)) c.1.header_is)
          ∙ stored_header_back j' (good_reached j' (fresh_state j') reach).premises head l.0;
      behind = c.1.behind;
      fresh =
          subst (λ (x : List Assignment). StateStands j' (fresh_state j') c.1.behind S' x) (sym (ap records_in p.2 ∙ stored_records_back ws l.1))
          c.1.fresh;
    }

-- the answer 0 says that it loaded
pub answered_0 :
    (bytes head ws : List ℕ) (B : JobSlices) (S : StateBuffers) (head' ws' : List ℕ) (B' : JobSlices) (S' : StateBuffers) (n : ℕ)
    → Bytes bytes
    → LoadCalled bytes head ws B S head' ws' B' S' n
    → n ≡ 0
    → JustLoaded head' ws' B' S'
answered_0 bytes head ws B S head' ws' B' S' n are_bytes d z = by_short (words_short head ws) refl
  where
    by_load : words_short head ws ≡ false → (o : Loaded) → load (sizes_of B S) bytes ≡ o → JustLoaded head' ws' B' S'
    by_load long (not_loaded m) q =
        let e = ap (λ (b : Bool). cond b (not_loaded 15) (load (sizes_of B S) bytes)) long ∙ q in
        let p = subst (LoadParts head ws B S head' ws' B' S' n) e d.parts in
        absurd (not_zero (sizes_of B S) bytes m q (sym p.0 ∙ z))
    by_load long (loaded j) q = loaded_stands bytes head ws B S head' ws' B' S' n are_bytes long j q d

    by_short : (b : Bool) → words_short head ws ≡ b → JustLoaded head' ws' B' S'
    by_short true e =
        let e' = ap (λ (b : Bool). cond b (not_loaded 15) (load (sizes_of B S) bytes)) e in
        let p = subst (LoadParts head ws B S head' ws' B' S' n) e' d.parts in
        absurd (let q : ◌≡◌ {A = ℕ} 15 0 = sym p.0 ∙ z in omega (arith, q))
    by_short false e = by_load e (load (sizes_of B S) bytes) refl
