-- What the readers of a job's fields ensure of what they read (document 01, "The job"): each test that did not refuse, and the limits.
-- Assumes nothing.
use Prim.Native.Nat.{ℕ, ◌<◌, ◌≤◌, ◌+◌, ◌%◌, ◌^◌}
use native.Mathlib.Omega.{arith}
use mathlib.Core.Path.{◌≡◌, refl, sym, subst}
use mathlib.Core.List.{List, [], ◌∷◌, ◌++◌}
use mathlib.Core.Option.{none, some}
use mathlib.Core.Bool.{Bool, true, false, not, ◌&&◌, ◌||◌, beq}
use lib.Dec.{T, ltb, leb, eqb, nltb→le, nleb→lt, eqb→eq, T_not}
use lib.Count.{ones_in}
use lib.Ieee.{nan_bits}
use lib.ListN.{length}
use Rattle.reg_matrix.specs.Lists.{foldl, bit, is_nil}
use Rattle.reg_matrix.specs.Refusals.{short_buffer, bad_slot, at_boundary}
use Rattle.reg_matrix.specs.Table.{is_use}
use Rattle.reg_matrix.specs.Assign.{held_by}
use Rattle.reg_matrix.specs.Layout.{use_value}
use Rattle.reg_matrix.specs.declared.ValueSegment.{ValueSegment}
use Rattle.reg_matrix.specs.declared.Entry.{Entry}
use Rattle.reg_matrix.specs.declared.Reservation.{Reservation}
use Rattle.reg_matrix.specs.declared.Reservation.TheVariants.{FixedUse, FixedDef}
use Rattle.reg_matrix.proofs.Tests.{eqb_in}
use Rattle.reg_matrix.proofs.Small.{SmallEntry}
use Rattle.job.specs.declared.Hint.{Hint}
use Rattle.job.specs.declared.FixedFields.{FixedFields}
use Rattle.job.specs.declared.VirtRegFields.{VirtRegFields}
use Rattle.job.specs.Model.{VirtReg, Job}
use Rattle.job.specs.Parser.{Parsed, refused, parsed, Parser, and_then, ◌>>=◌, done, if_bit, each, little}
use Rattle.job.specs.Load.{count_of, known, bad_spill_bits, bad_hint_bits, register, class, fixed_fields, last_end, fixed_range, fixed_tests, reservation, hint, range, past_of, segment, hints_in, segments_in, hint_count, segment_count, hints, segments, spill_bits, virt_reg_fields, virt_reg_at, virt_reg_after, job_fields, twin, mixed_set, cut_use, whole_job, not_loaded, loaded, as_loaded, load_with, Bytes}
use Rattle.job.proofs.Premises.{Plain, Finite, GoodSegment, GoodProbe}
use Rattle.job.proofs.Readers.{Left, Got, got_done, got_bit, got_cond, got_then, got_so, got_refuse, got_little, got_number, got_each}
use Rattle.job.proofs.Lists.{Each, each_none, Pairs, each_more, pairs_more, foldl_more, last_to, ended_more}
use Rattle.job.proofs.Weights.{neither, plain_spill, finite_hint}

-- ---- numbers

got_count : (n limit : ℕ) {s : List ℕ} → Left s → Got (λ k. k ≤ limit) (count_of n limit s)
unfolding count_of
got_count n limit b =
    got_then (got_little n b) λ k s _ b.
    got_then (got_refuse 4 (ltb limit k) b) λ _ s q b.
    got_done (nltb→le limit k q) b

got_known : (n limit : ℕ) {s : List ℕ} → Left s → Got (λ k. k < limit) (known n limit s)
unfolding known
got_known n limit b =
    got_then (got_little n b) λ k s _ b.
    got_then (got_refuse 8 (leb limit k) b) λ _ s q b.
    got_done (nleb→lt limit k q) b

not_zero : (k : ℕ) → T (not (eqb k 0)) → 0 < k
not_zero k t = let h : k ≡ 0 → ⊥ = λ e. T_not (eqb k 0) t (eqb_in e) in omega arith

-- ---- a table of at most `limit` entries, each of which has P whatever stands before it

pub record Table {A : Type 0} (P : A → Type 0) (limit : ℕ) (xs : List A) : Type 0 where
  pub each : Each P xs
  pub few : length xs ≤ limit

table_none : {A : Type 0} (P : A → Type 0) (limit : ℕ) → Table P limit []
table_none P limit = record { each = each_none P; few = omega arith }

module _ {A : Type 0} (P : A → Type 0) (p : Parser A) where
  got_table : (n limit : ℕ) {s : List ℕ} → n ≤ limit → ((s : List ℕ) → Left s → Got P (p s)) → Left s → Got (Table P limit) (each (λ before. p) n [] s)
  got_table n limit h g b =
      got_so (got_each (Each P) (λ before. p) n (each_none P) (λ before s l i c. got_so (g s c) λ x q. each_more before x P i q) b) λ xs k.
      record { each = k.0; few = omega arith }

-- ---- registers and classes

pub record GoodMap (m : ℕ) : Type 0 where
  pub small : m < 2 ^ 64
  pub few : ones_in 64 m ≤ 4
  pub some : 0 < m

got_register : (s : List ℕ) → Left s → Got GoodMap (register s)
unfolding register
got_register s b =
    got_then (got_little 8 b) λ m s p b.
    got_then (got_refuse 4 (ltb 4 (ones_in 64 m)) b) λ _ s q b.
    got_then (got_refuse 5 (eqb m 0) b) λ _ s r b.
    got_done (record { small = omega arith; few = nltb→le 4 (ones_in 64 m) q; some = not_zero m r }) b

abbrev GoodClass : ℕ → List ℕ → Type 0
GoodClass regs = Table (λ r. r < regs) 64

got_class : (regs : ℕ) (s : List ℕ) → Left s → Got (GoodClass regs) (class regs s)
unfolding class
got_class regs s b =
    got_then (got_count 1 64 b) λ k s h b.
    got_table (λ r. r < regs) (known 1 regs) k 64 h (λ s. got_known 1 regs) b

-- ---- fixed reservations

record FixedFit (f : FixedFields) : Type 0 where
  from : f.from < 2 ^ 32
  to : f.to < 2 ^ 32
  value : f.value < 2 ^ 16

got_fixed_fields : {s : List ℕ} → Left s → Got FixedFit (fixed_fields s)
unfolding fixed_fields
got_fixed_fields b =
    got_then (got_little 1 b) λ m s _ b.
    got_then (got_number (bit 0 m) 0 1 (omega arith) b) λ u s _ b.
    got_then (got_number (bit 1 m) 0 4 (omega arith) b) λ a s ha b.
    got_then (got_number (bit 2 m) 0 4 (omega arith) b) λ e s he b.
    got_then (got_number (bit 3 m) 0 2 (omega arith) b) λ x s hx b.
    got_done (record { from = omega arith; to = omega arith; value = omega arith }) b

pub record GoodEntry (e : Entry) : Type 0 where
  pub nonempty : e.from < e.to
  pub not_held : (v : ℕ) → T (held_by v e.reservation) → ⊥
  pub small : SmallEntry e

-- good, and starting where the last one of its unit has ended
abbrev NextEntry : List Entry → Entry → Type 0
NextEntry before e = GoodEntry e × (last_end e.unit before ≤ e.from)

got_fixed_range :
    (before : List Entry) (u a b : ℕ) (r : Reservation) (bad : Bool) {s : List ℕ}
    → a < 2 ^ 32
    → (T (not bad) → b < 2 ^ 32)
    → use_value r < 2 ^ 16
    → ((v : ℕ) → T (held_by v r) → ⊥)
    → (T (is_use r) → b ≡ a + 2)
    → Left s
    → Got (NextEntry before) (fixed_range (last_end u before) u a b r bad s)
unfolding fixed_range
got_fixed_range before u a b r bad ha hb hr hn two c =
    got_then (got_refuse 5 (leb b a) c) λ _ s p c.
    got_then (got_refuse 6 (bad_slot a || bad) c) λ _ s q c.
    got_then (got_refuse 7 (ltb a (last_end u before)) c) λ _ s t c.
    got_then (got_refuse 8 (leb 64 u) c) λ _ s w c.
    got_done (
      record {
        nonempty = nleb→lt b a p;
        not_held = hn;
        small = record { unit = nleb→lt 64 u w; from = ha; to = hb (neither (bad_slot a) bad q).1; value = hr; two = two };
      },
      nltb→le a (last_end u before) t,
    )
    c

-- "With a value it is a use and ends at from + 2": a start at Boundary leaves room for that
use_end : (a : ℕ) → a < 2 ^ 32 → T (not (not (at_boundary a))) → a + 2 < 2 ^ 32
use_end a h t = go (at_boundary a) refl t
  where
    go : (b : Bool) → at_boundary a ≡ b → T (not (not b)) → a + 2 < 2 ^ 32
    go true q k = omega (arith, eqb→eq (a % 4) 0 (subst T (sym q) tt))
    go false q k = absurd k

got_reservation : (before : List Entry) {s : List ℕ} → Left s → Got (NextEntry before) (reservation before s)
unfolding reservation fixed_tests
got_reservation before b =
    got_then (got_fixed_fields b) λ f s h b.
    got_then (got_refuse 3 (leb 16 f.map || beq (bit 2 f.map) (bit 3 f.map)) b) λ _ s _ b.
    got_cond (bit 2 f.map) (fixed_range (last_end f.unit before) f.unit f.from f.to FixedDef (not (at_boundary f.to)))
    (fixed_range (last_end f.unit before) f.unit f.from (f.from + 2) (FixedUse f.value) (not (at_boundary f.from))) s
    (got_fixed_range before f.unit f.from f.to FixedDef (not (at_boundary f.to)) h.from (λ t. h.to) (omega arith) (λ v t. t) (λ t. absurd t) b)
    (got_fixed_range before f.unit f.from (f.from + 2) (FixedUse f.value) (not (at_boundary f.from)) h.from (use_end f.from h.from) h.value (λ v t. t) (λ t. refl) b)

-- the first ends before the second starts, on the same unit
abbrev pub Follows : Entry → Entry → Type 0
Follows e f = e.unit ≡ f.unit → e.to ≤ f.from

pub record GoodFixed (es : List Entry) : Type 0 where
  pub each : Each GoodEntry es
  pub order : Pairs Follows es
  -- none ends later than the last one of its unit
  ended : (u : ℕ) → Each (λ e. T (eqb e.unit u) → e.to ≤ last_end u es) es

fixed_none : GoodFixed []
fixed_none = record { each = each_none GoodEntry; order = tt; ended = λ u e m. elim m [ ] }

fixed_more : (es : List Entry) (e : Entry) → GoodFixed es → NextEntry es e → GoodFixed (es ++ (e ∷ []))
unfolding last_end last_to
fixed_more es e g h =
    record {
      each = each_more es e GoodEntry g.each h.0;
      order = pairs_more Follows es e g.order (λ f m q. omega (arith, g.ended e.unit f m (eqb_in q), h.1));
      ended = λ u. ended_more (λ (e : Entry). e.from) (λ (e : Entry). e.to) (λ (e : Entry). eqb e.unit u) es e (g.ended u) (λ t. subst (λ (w : ℕ). last_end w es ≤ e.from) (eqb→eq e.unit u t) h.1) h.0.nonempty;
    }

got_fixed : (n : ℕ) {s : List ℕ} → Left s → Got (λ es. GoodFixed es × (length es ≡ n)) (each reservation n [] s)
got_fixed n b =
    got_each GoodFixed reservation n fixed_none (λ before s l g c. got_so (got_reservation before c) λ e h. fixed_more before e g h) b

-- ---- hints

pub record GoodHint (regs : ℕ) (h : Hint) : Type 0 where
  pub known : h.reg < regs
  pub finite : Finite h.weight

got_hint : (regs : ℕ) (s : List ℕ) → Left s → Got (GoodHint regs) (hint regs s)
unfolding hint
got_hint regs s b =
    got_then (got_little 1 b) λ r s _ b.
    got_then (got_little 4 b) λ w s _ b.
    got_then (got_refuse 8 (leb regs r) b) λ _ s p b.
    got_then (got_refuse 9 (bad_hint_bits w) b) λ _ s q b.
    got_done (record { known = nleb→lt regs r p; finite = finite_hint w q }) b

-- with `earlier` hints before them
record GoodHints (regs earlier : ℕ) (hs : List Hint) : Type 0 where
  table : Table (GoodHint regs) 64 hs
  total : earlier + length hs ≤ 1024

got_hint_count : (earlier : ℕ) {s : List ℕ} → Left s → Got (λ k. (k ≤ 64) × (earlier + k ≤ 1024)) (hint_count earlier s)
unfolding hint_count
got_hint_count earlier b =
    got_then (got_little 1 b) λ k s _ b.
    got_then (got_refuse 4 (ltb 64 k || ltb 1024 (earlier + k)) b) λ _ s p b.
    got_then (got_refuse 5 (eqb k 0) b) λ _ s _ b.
    let q = neither (ltb 64 k) (ltb 1024 (earlier + k)) p in
    got_done (nltb→le 64 k q.0, nltb→le 1024 (earlier + k) q.1) b

got_hints : (regs earlier : ℕ) {s : List ℕ} → Left s → Got (GoodHints regs earlier) (hints regs earlier s)
unfolding hints
got_hints regs earlier b =
    got_then (got_hint_count earlier b) λ k s h b.
    got_so (got_table (GoodHint regs) (hint regs) k k (omega arith) (got_hint regs) b) λ hs t. record { table = record { each = t.each; few = omega arith }; total = omega arith }

-- ---- segments

abbrev NextSegment : ℕ → ValueSegment → Type 0
NextSegment past s = GoodSegment s × (past ≤ s.from)

got_range : (past : ℕ) (value : Parser ℕ) {s : List ℕ} → ((s : List ℕ) → Left s → Got (λ k. k < 256 ^ 2) (value s)) → Left s → Got (NextSegment past) (range past value s)
unfolding range
got_range past value h c =
    got_then (got_little 4 c) λ a s ha c.
    got_then (got_little 4 c) λ b s hb c.
    got_then (h s c) λ x s hx c.
    got_then (got_refuse 5 (leb b a) c) λ _ s p c.
    got_then (got_refuse 6 (bad_slot a || bad_slot b) c) λ _ s d c.
    got_then (got_refuse 7 (ltb a past) c) λ _ s q c.
    got_done (record { nonempty = nleb→lt b a p; small = record { from = omega arith; to = omega arith; value = omega arith }; slots = d }, nltb→le a past q) c

abbrev pub Ahead : ValueSegment → ValueSegment → Type 0
Ahead r s = r.to ≤ s.from

pub record GoodSegments (ss : List ValueSegment) : Type 0 where
  pub each : Each GoodSegment ss
  pub order : Pairs Ahead ss
  ended : Each (λ s. Unit {0} → s.to ≤ past_of ss) ss

segments_more : (ss : List ValueSegment) (s : ValueSegment) → GoodSegments ss → NextSegment (past_of ss) s → GoodSegments (ss ++ (s ∷ []))
unfolding past_of last_to
segments_more ss s g h =
    record {
      each = each_more ss s GoodSegment g.each h.0;
      order = pairs_more Ahead ss s g.order (λ r m. omega (arith, g.ended r m tt, h.1));
      ended = ended_more (λ (s : ValueSegment). s.from) (λ (s : ValueSegment). s.to) (λ s. true) ss s g.ended (λ t. h.1) h.0.nonempty;
    }

-- with `earlier` segments before them
record SomeSegments (earlier : ℕ) (ss : List ValueSegment) : Type 0 where
  good : GoodSegments ss
  some : 0 < length ss
  total : earlier + length ss ≤ 512

got_segment_count : (earlier : ℕ) {s : List ℕ} → Left s → Got (λ k. (0 < k) × (earlier + k ≤ 512)) (segment_count earlier s)
unfolding segment_count
got_segment_count earlier b =
    got_then (got_little 2 b) λ k s _ b.
    got_then (got_refuse 4 (ltb 512 (earlier + k)) b) λ _ s p b.
    got_then (got_refuse 5 (eqb k 0) b) λ _ s q b.
    got_done (not_zero k q, nltb→le 512 (earlier + k) p) b

got_segments : (earlier : ℕ) {s : List ℕ} → Left s → Got (SomeSegments earlier) (segments earlier s)
unfolding segments segment
got_segments earlier b =
    got_then (got_segment_count earlier b) λ k s n b.
    got_so
    (got_each GoodSegments segment k (record { each = each_none GoodSegment; order = tt; ended = λ s m. elim m [ ] })
    (λ before s l g c. got_so (got_range (past_of before) (little 2) (λ s. got_little 2) c) λ x h. segments_more before x g h) b)
    λ ss h. record { good = h.0; some = omega arith; total = omega arith }

-- ---- virtual registers

record FieldsFit (classes : ℕ) (f : VirtRegFields) : Type 0 where
  class : f.class < classes
  value_set : f.value_set < 512
  spill_weight : Plain f.spill_weight
  size : f.size < 2 ^ 32

got_spill : {s : List ℕ} → Left s → Got (λ b. T (not (bad_spill_bits b))) (spill_bits s)
unfolding spill_bits
got_spill b =
    got_then (got_little 4 b) λ k s _ b.
    got_then (got_refuse 9 (bad_spill_bits k) b) λ _ s q b.
    got_done q b

-- a default that is not refused at the map byte
default_known : (present : Bool) (classes : ℕ) → T (not (not present && eqb classes 0)) → T (not present) → 0 < classes
default_known true classes t h = absurd h
default_known false classes t h = not_zero classes t

got_virt_reg_fields : (classes n : ℕ) {s : List ℕ} → n < 512 → Left s → Got (FieldsFit classes) (virt_reg_fields classes n s)
unfolding virt_reg_fields nan_bits
got_virt_reg_fields classes n h b =
    got_then (got_little 1 b) λ m s _ b.
    got_then (got_refuse 3 (leb 64 m) b) λ _ s _ b.
    got_then (got_refuse 5 (not (bit 5 m)) b) λ _ s _ b.
    got_then (got_refuse 8 (not (bit 0 m) && eqb classes 0) b) λ _ s q b.
    got_then (got_bit (bit 0 m) 0 (known 1 classes) (default_known (bit 0 m) classes q) (got_known 1 classes b) b) λ c s hc b.
    got_then (got_bit (bit 1 m) n (known 2 512) (λ t. h) (got_known 2 512 b) b) λ t s ht b.
    got_then (got_bit (bit 2 m) 0 spill_bits (λ t. tt) (got_spill b) b) λ w s hw b.
    got_then (got_number (bit 3 m) 0 4 (omega arith) b) λ z s hz b.
    got_done (record { class = hc; value_set = ht; spill_weight = plain_spill w hw; size = omega arith }) b

pub record GoodVirtReg (regs classes : ℕ) (v : VirtReg) : Type 0 where
  pub class : v.class < classes
  pub value_set : v.value_set < 512
  pub spill_weight : Plain v.spill_weight
  pub size : v.size < 2 ^ 32
  pub hints : Table (GoodHint regs) 64 v.hints
  pub segments : GoodSegments v.segments
  pub some : 0 < length v.segments

-- good, and with h hints and g segments before it within the limits
abbrev NextVirtReg : ℕ → ℕ → ℕ → ℕ → VirtReg → Type 0
NextVirtReg regs classes h g v = GoodVirtReg regs classes v × (h + length v.hints ≤ 1024) × (g + length v.segments ≤ 512)

got_virt_reg : (regs classes n h g : ℕ) {s : List ℕ} → n < 512 → h ≤ 1024 → Left s → Got (NextVirtReg regs classes h g) (virt_reg_at regs classes n h g s)
unfolding virt_reg_at
got_virt_reg regs classes n h g hn hh b =
    got_then (got_virt_reg_fields classes n hn b) λ f s k b.
    got_then (got_bit (bit 4 f.map) [] (hints regs h) (λ t. record { table = table_none (GoodHint regs) 64; total = omega arith }) (got_hints regs h b) b) λ hs s p b.
    got_then (got_segments g b) λ ss s q b.
    got_done (
      record { class = k.class; value_set = k.value_set; spill_weight = k.spill_weight; size = k.size; hints = p.table; segments = q.good; some = q.some },
      p.total,
      q.total,
    )
    b

pub record GoodVirtRegs (regs classes : ℕ) (vs : List VirtReg) : Type 0 where
  pub each : Each (GoodVirtReg regs classes) vs
  pub few_hints : hints_in vs ≤ 1024
  pub few_segments : segments_in vs ≤ 512

virt_regs_more : (regs classes : ℕ) (vs : List VirtReg) (v : VirtReg) → GoodVirtRegs regs classes vs → NextVirtReg regs classes (hints_in vs) (segments_in vs) v → GoodVirtRegs regs classes (vs ++ (v ∷ []))
unfolding hints_in segments_in
virt_regs_more regs classes vs v g h =
    record {
      each = each_more vs v (GoodVirtReg regs classes) g.each h.0;
      few_hints = rw (foldl_more (λ (n : ℕ) (v : VirtReg). n + length v.hints) 0 vs v) h.1;
      few_segments = rw (foldl_more (λ (n : ℕ) (v : VirtReg). n + length v.segments) 0 vs v) h.2;
    }

virt_regs_none : (regs classes : ℕ) → GoodVirtRegs regs classes []
unfolding hints_in segments_in foldl
virt_regs_none regs classes = record { each = each_none (GoodVirtReg regs classes); few_hints = omega arith; few_segments = omega arith }

got_virt_regs : (regs classes n : ℕ) {s : List ℕ} → n ≤ 512 → Left s → Got (λ vs. GoodVirtRegs regs classes vs × (length vs ≡ n)) (each (virt_reg_after regs classes) n [] s)
unfolding virt_reg_after
got_virt_regs regs classes n h b =
    got_each (GoodVirtRegs regs classes) (virt_reg_after regs classes) n (virt_regs_none regs classes)
    (λ before s l g c. got_so (got_virt_reg regs classes (length before) (hints_in before) (segments_in before) (omega arith) g.few_hints c) λ v k. virt_regs_more regs classes before v g k) b

-- ---- the job

-- a count, and as many
module _ {A : Type 0} (P : List A → Type 0) (p : List A → Parser A) where
  abbrev counted : ℕ → ℕ → Parser (List A)
  counted bytes limit = do
    k ← count_of bytes limit
    each p k []

  got_counted :
      (t : Bool) (bytes limit : ℕ) {s : List ℕ}
      → P []
      → ((k : ℕ) (s : List ℕ) → k ≤ limit → Left s → Got P (each p k [] s))
      → Left s
      → Got P (if_bit t [] (counted bytes limit) s)
  got_counted t bytes limit n g b =
      got_bit t [] (counted bytes limit) (λ z. n) (got_then (got_count bytes limit b) λ k s h b. g k s h b) b

pub record GoodJob (j : Job) : Type 0 where
  pub regs : Table GoodMap 64 j.regs
  pub classes : Table (GoodClass (length j.regs)) 16 j.classes
  pub fixed : GoodFixed j.fixed
  pub few_fixed : length j.fixed ≤ 512
  pub virt_regs : GoodVirtRegs (length j.regs) (length j.classes) j.virt_regs
  pub few_numbers : length j.virt_regs ≤ 512
  pub budget : j.budget < 2 ^ 32
  pub probe : GoodProbe j.probe

got_probe : {s : List ℕ} → Left s → Got GoodProbe (and_then (range 0 (done 0) s) (λ r. done (some r)))
got_probe b = got_then (got_range 0 (done 0) (λ s c. got_done (omega arith) c) b) λ r s g b. got_done g.0 b

got_job : {s : List ℕ} → Left s → Got GoodJob (job_fields s)
unfolding job_fields
got_job b =
    got_then (got_little 1 b) λ m s _ b.
    got_then (got_refuse 3 (leb 64 m) b) λ _ s _ b.
    got_then (got_counted (Table GoodMap 64) (λ before. register) (bit 0 m) 1 64 (table_none GoodMap 64) (λ k s h. got_table GoodMap register k 64 h got_register) b) λ rs s hr b.
    got_then
    (got_counted (Table (GoodClass (length rs)) 16) (λ before. class (length rs)) (bit 1 m) 1 16 (table_none (GoodClass (length rs)) 16)
    (λ k s h. got_table (GoodClass (length rs)) (class (length rs)) k 16 h (got_class (length rs))) b)
    λ cs s hc b.
    got_then (got_counted (λ es. GoodFixed es × (length es ≤ 512)) reservation (bit 2 m) 2 512 (fixed_none, omega arith) (λ k s h b. got_so (got_fixed k b) λ es g. (g.0, omega arith)) b) λ fs s hf b.
    got_then
    (got_counted (λ vs. GoodVirtRegs (length rs) (length cs) vs × (length vs ≤ 512)) (virt_reg_after (length rs) (length cs)) (bit 3 m) 2 512
    (virt_regs_none (length rs) (length cs), omega arith) (λ k s h b. got_so (got_virt_regs (length rs) (length cs) k h b) λ vs g. (g.0, omega arith)) b)
    λ vs s hv b.
    got_then (got_bit (bit 4 m) none (do r ← range 0 (done 0); done (some r)) (λ t. tt) (got_probe b) b) λ p s hp b.
    got_then (got_number (bit 5 m) 100_000 4 (omega arith) b) λ k s hk b.
    got_done (record { regs = hr; classes = hc; fixed = hf.0; few_fixed = hf.1; virt_regs = hv.0; few_numbers = hv.1; budget = omega arith; probe = hp }) b

-- ---- what loading tested

pub record Tested (j : Job) : Type 0 where
  pub fields : GoodJob j
  pub no_twin : T (not (twin j))
  pub one_class : T (not (mixed_set j))
  pub uncut : T (not (cut_use j))

got_whole : (limits lent bytes : List ℕ) {s : List ℕ} → Left s → Got Tested (whole_job limits lent bytes s)
unfolding whole_job
got_whole limits lent bytes b =
    got_then (got_refuse 15 (short_buffer limits lent) b) λ _ s _ b.
    got_then (got_refuse 4 (ltb 32_768 (length bytes)) b) λ _ s _ b.
    got_then (got_job b) λ j s g b.
    got_then (got_refuse 2 (not (is_nil s)) b) λ _ s _ b.
    got_then (got_refuse 10 (twin j) b) λ _ s p b.
    got_then (got_refuse 11 (mixed_set j) b) λ _ s q b.
    got_then (got_refuse 12 (cut_use j) b) λ _ s r b.
    got_done (record { fields = g; no_twin = p; one_class = q; uncut = r }) b

loaded_out : {P : Job → Type 0} (x : Parsed Job) (j : Job) → Got P x → as_loaded x ≡ loaded j → P j
loaded_out (refused n) j g e = absurd (differ e)
  where
    differ : not_loaded n ≡ loaded j → ⊥
    differ q = let z : ◌≡◌ {A = ℕ} 0 1 = cc in omega arith
loaded_out {P} (parsed k s) j g e = subst P (same e) g.parts.0
  where
    same : loaded k ≡ loaded j → k ≡ j
    same q = cc

pub loads_tested : (limits lent bytes : List ℕ) (j : Job) → Bytes bytes → load_with limits lent bytes ≡ loaded j → Tested j
unfolding load_with
loads_tested limits lent bytes j h e = loaded_out (whole_job limits lent bytes bytes) j (got_whole limits lent bytes (record { bytes = h })) e

-- what reading the fields tested, before the tests of the whole
pub fields_good : (bytes : List ℕ) {j : Job} {t : List ℕ} → Bytes bytes → job_fields bytes ≡ parsed j t → GoodJob j
fields_good bytes h e = (subst (Got GoodJob) e (got_job (record { bytes = h }))).parts.0
