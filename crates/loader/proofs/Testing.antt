-- The tests that the first reading makes are those of the whole job. Assumes nothing.
use Prim.Native.Nat.{ℕ, zero, suc, ◌≤◌, ◌<◌}
use native.Mathlib.Omega.{arith}
use mathlib.Core.Path.{◌≡◌, refl, ap, sym, ◌∙◌}
use mathlib.Core.List.{List, [], ◌∷◌, map}
use mathlib.Core.Bool.{Bool, true, false}
use lib.ListN.{length, drop, length-map}
use lib.Seq.{drop-cons, sets, length-sets}
use Rattle.lent.specs.Parts.{Begins}
use Rattle.lent.proofs.Laws.{begins_stored, begins_behind}
use Rattle.std.specs.Prelude.{Ok, Err}
use Rattle.reg_matrix.specs.Lists.{is_nil}
use Rattle.reg_matrix.specs.Refused.{number_of}
use Rattle.reg_matrix.specs.declared.Refusal.{Refusal}
use Rattle.reg_matrix.specs.declared.Refusal.TheVariants.{Tail}
use Rattle.reg_matrix.specs.declared.Entry.{Entry}
use Rattle.reg_matrix.specs.declared.ValueSegment.{ValueSegment}
use Rattle.table_words.proofs.RefusedNumber.{some_number}
use Rattle.job.specs.declared.Hint.{Hint}
use Rattle.job.specs.declared.JobHeader.{JobHeader}
use Rattle.job.specs.Model.{VirtReg, Job}
use Rattle.job.specs.Parser.{refused, parsed, ◌>>◌, done, refuse}
use Rattle.job.specs.Load.{Bytes, job_fields, twin, mixed_set, cut_use}
use Rattle.job.specs.Layout.{starts_from, JobSlices, header_of}
use Rattle.job.proofs.Fields.{GoodJob, fields_good}
use Rattle.job.proofs.Lists.{starts_length}
use Rattle.whole_fields.specs.declared.TableSizes.{TableSizes}
use Rattle.reader.specs.Read.{FixedAt, all_members, hints_of_all, segments_of_all}
use Rattle.fields.specs.Virt.{in32, in16, in8, hint_ends, segment_ends}
use Rattle.whole_fields.specs.Whole.{SizesOf, JobAt, JobOut}
use Rattle.reader.proofs.Tables.{segments_in_length}
use Rattle.job_tests.specs.Tests.{whole_number, job_refusal}
use Rattle.loader.specs.Loading.{tested_job, TestedOut}
use Rattle.job_tests.proofs.WholeTests.{twin_is, mixed_is, cut_is}

-- ---- the tail

nothing_left : (s : List ℕ) (at : ℕ) → length s ≤ at → is_nil (drop at s) ≡ true
nothing_left [] zero h = refl
nothing_left [] (suc at) h = refl
nothing_left (x ∷ s) zero h = absurd (omega arith)
nothing_left (x ∷ s) (suc at) h = nothing_left s at (omega arith)

something_left : (s : List ℕ) (at : ℕ) → at < length s → is_nil (drop at s) ≡ false
something_left s at h = rw (drop-cons s at 0 h)

-- ---- the tests in their order

module _ (j : Job) (t : List ℕ) where
  none_refuse : (a b c : Bool) → whole_number a b c ≡ 0 → (refuse 10 a >> (refuse 11 b >> (refuse 12 c >> done j))) t ≡ parsed j t
  none_refuse true b c q = absurd (omega arith)
  none_refuse false true c q = absurd (omega arith)
  none_refuse false false true q = absurd (omega arith)
  none_refuse false false false q = refl

  one_refuses : (a b c : Bool) {n : ℕ} → whole_number a b c ≡ n → (n ≡ 0 → ⊥) → (refuse 10 a >> (refuse 11 b >> (refuse 12 c >> done j))) t ≡ refused n
  one_refuses true b c q z = ap refused q
  one_refuses false true c q z = ap refused q
  one_refuses false false true q z = ap refused q
  one_refuses false false false q z = absurd (z (sym q))

module _ (s : List ℕ) {j : Job} {t : List ℕ} (e : job_fields s ≡ parsed j t) where
  fields_refuse_tail : is_nil t ≡ false → tested_job s ≡ refused 2
  unfolding tested_job
  fields_refuse_tail h = rw (e, h)

  tested_all : is_nil t ≡ true → whole_number (twin j) (mixed_set j) (cut_use j) ≡ 0 → tested_job s ≡ parsed j t
  unfolding tested_job
  tested_all h q = rw (e, h) (none_refuse j t (twin j) (mixed_set j) (cut_use j) q)

  tested_one : is_nil t ≡ true → {n : ℕ} → whole_number (twin j) (mixed_set j) (cut_use j) ≡ n → (n ≡ 0 → ⊥) → tested_job s ≡ refused n
  unfolding tested_job
  tested_one h q z = rw (e, h) (one_refuses j t (twin j) (mixed_set j) (cut_use j) q z)

fields_refuse : (s : List ℕ) {n : ℕ} → job_fields s ≡ refused n → tested_job s ≡ refused n
unfolding tested_job
fields_refuse s e = rw e

-- ---- by places, over the local numbers

module _ (j : Job) {h : JobHeader} (e : h ≡ header_of j) where
  pub regs_many : length j.regs ≡ h.regs
  unfolding header_of
  regs_many = sym (ap (λ (h : JobHeader). h.regs) e)

  pub classes_many : length j.classes ≡ h.classes
  unfolding header_of
  classes_many = sym (ap (λ (h : JobHeader). h.classes) e)

  pub virts_many : length j.virt_regs ≡ h.virt_regs
  unfolding header_of
  virts_many = sym (ap (λ (h : JobHeader). h.virt_regs) e)

three : {a a' b b' c c' : Bool} → a ≡ a' → b ≡ b' → c ≡ c' → whole_number a b c ≡ whole_number a' b' c'
three {a'} {b} {b'} {c} e f g =
    ap (λ (x : Bool). whole_number x b c) e ∙ ap (λ (x : Bool). whole_number a' x c) f ∙ ap (λ (x : Bool). whole_number a' b' x) g

-- ---- the lists that the tests ask for, in the job's slices

-- each stands where its list begins, if there is room for it
pub record Asked (j : Job) (B : JobSlices) : Type 0 where
  pub regs : Begins j.regs B.j64
  pub starts : Begins (starts_from length 0 j.classes) B.j16
  pub members : Begins (all_members j.classes) B.j8
  pub classes : Begins (map (λ (v : VirtReg). v.class) j.virt_regs) (drop 1024 B.j8)
  pub value_sets : Begins (map (λ (v : VirtReg). v.value_set) j.virt_regs) (drop 17 B.j16)
  pub froms : Begins (map (λ (x : ValueSegment). x.from) (segments_of_all j.virt_regs)) B.j32
  pub tos : Begins (map (λ (x : ValueSegment). x.to) (segments_of_all j.virt_regs)) (drop 512 B.j32)
  pub values : Begins (map (λ (x : ValueSegment). x.value) (segments_of_all j.virt_regs)) (drop 529 B.j16)

-- what the tests ask for of the slices
pub record Roomy (B : JobSlices) : Type 0 where
  pub j64 : 64 ≤ length B.j64
  pub j32 : 1024 ≤ length B.j32
  pub j16 : 1041 ≤ length B.j16
  pub j8 : 1536 ≤ length B.j8

-- how many there are of each
pub record Few (j : Job) : Type 0 where
  pub regs : length j.regs ≤ 64
  pub classes : length j.classes ≤ 16
  pub class_regs : length (all_members j.classes) ≤ 1024
  pub fixed : length j.fixed ≤ 512
  pub numbers : length j.virt_regs ≤ 512
  pub segments : length (segments_of_all j.virt_regs) ≤ 512

module _ {A : Type 0} where
  front_behind : (l xs : List A) (c : ℕ) (ys : List A) → length xs ≤ c → Begins xs l → Begins xs (sets l c ys)
  front_behind l xs c ys h b = begins_behind 0 l xs c ys (omega arith) b

asked_32 : (w fs ts zs : List ℕ) → length fs ≤ 512 → length ts ≤ 512 → 1024 ≤ length w → Begins fs (in32 w fs ts zs) × Begins ts (drop 512 (in32 w fs ts zs))
unfolding in32
asked_32 w fs ts zs a b r = (
  front_behind _ fs 1024 zs (omega arith) (front_behind _ fs 512 ts a (begins_stored 0 w fs (omega arith))),
  begins_behind 512 _ ts 1024 zs (omega arith) (begins_stored 512 (sets w 0 fs) ts (rw (length-sets w 0 fs) (omega arith))),
)

asked_16 :
    (h cs gs vs hs ss : List ℕ)
    → length cs ≤ 17
    → length gs ≤ 512
    → length vs ≤ 512
    → 1041 ≤ length h
    → Begins cs (in16 (sets h 0 cs) gs vs hs ss) × Begins gs (drop 17 (in16 (sets h 0 cs) gs vs hs ss)) × Begins vs (drop 529 (in16 (sets h 0 cs) gs vs hs ss))
unfolding in16
asked_16 h cs gs vs hs ss a b c r = (
  front_behind _ cs 1555 ss (omega arith) (front_behind _ cs 1042 hs (omega arith) (front_behind _ cs 529 vs (omega arith) (front_behind _ cs 17 gs a (begins_stored 0 h cs (omega arith))))),
  begins_behind 17 _ gs 1555 ss (omega arith) (begins_behind 17 _ gs 1042 hs (omega arith) (begins_behind 17 _ gs 529 vs (omega arith) (begins_stored 17 (sets h 0 cs) gs (rw (length-sets h 0 cs) (omega arith))))),
  begins_behind 529 _ vs 1555 ss (omega arith) (begins_behind 529 _ vs 1042 hs (omega arith) (begins_stored 529 (sets (sets h 0 cs) 17 gs) vs (rw (length-sets (sets h 0 cs) 17 gs, length-sets h 0 cs) (omega arith)))),
)

asked_8 : (b ms cs rs : List ℕ) → length ms ≤ 1024 → length cs ≤ 512 → 1536 ≤ length b → Begins ms (in8 (sets b 0 ms) cs rs) × Begins cs (drop 1024 (in8 (sets b 0 ms) cs rs))
unfolding in8
asked_8 b ms cs rs a c r = (
  front_behind _ ms 1536 rs (omega arith) (front_behind _ ms 1024 cs a (begins_stored 0 b ms (omega arith))),
  begins_behind 1024 _ cs 1536 rs (omega arith) (begins_stored 1024 (sets b 0 ms) cs (rw (length-sets b 0 ms) (omega arith))),
)

pub asked : (j : Job) (B B' : JobSlices) {fixed : List Entry → Type 0} → Few j → Roomy B → JobAt B B' fixed j → Asked j B'
asked j B B' f r a =
    let v = a.virt_regs in
    let ls : length (starts_from length 0 j.classes) ≤ 17 = omega (arith, starts_length (length {A = ℕ}) 0 j.classes, f.classes) in
    let ss = segments_of_all j.virt_regs in
    let vs = j.virt_regs in
    let x =
    asked_32 B.j32 (map (λ (x : ValueSegment). x.from) ss) (map (λ (x : ValueSegment). x.to) ss) (map (λ (v : VirtReg). v.size) vs)
    (simp length-map f.segments) (simp length-map f.segments) r.j32 in
    let y =
    asked_16 B.j16 (starts_from length 0 j.classes) (map (λ (v : VirtReg). v.value_set) vs) (map (λ (x : ValueSegment). x.value) ss) (hint_ends vs) (segment_ends vs)
    ls (simp length-map f.numbers) (simp length-map f.segments) r.j16 in
    let z =
    asked_8 B.j8 (all_members j.classes) (map (λ (v : VirtReg). v.class) vs) (map (λ (x : Hint). x.reg) (hints_of_all vs))
    f.class_regs (simp length-map f.numbers) r.j8 in
    record {
      regs = rw a.regs (begins_stored 0 B.j64 j.regs (omega (arith, f.regs, r.j64)));
      starts = rw v.j16 y.0;
      members = rw v.j8 z.0;
      classes = rw v.j8 z.1;
      value_sets = rw v.j16 y.1;
      froms = rw v.j32 x.0;
      tos = rw v.j32 x.1;
      values = rw v.j16 y.2;
    }

few : (j : Job) {z : TableSizes} → GoodJob j → SizesOf z j → Few j
few j good z = record {
  regs = good.regs.few;
  classes = good.classes.few;
  class_regs = z.few_class_regs;
  fixed = good.few_fixed;
  numbers = good.few_numbers;
  segments = omega (arith, segments_in_length j.virt_regs, good.virt_regs.few_segments);
}

numbers_are :
    (j : Job) (h : JobHeader) (y : TableSizes) (B : JobSlices) {n f t u n' f' t' u' : List ℕ}
    → GoodJob j
    → h ≡ header_of j
    → SizesOf y j
    → Asked j B
    → FixedAt n f t u n' f' t' u' j.fixed
    → (512 ≤ length f) × (512 ≤ length t) × (512 ≤ length u)
    → job_refusal B h y.segments f' t' u' y.fixed ≡ whole_number (twin j) (mixed_set j) (cut_use j)
unfolding job_refusal
numbers_are j h y B good e z a es d =
    let fe = good.few_fixed in
    rw (← regs_many j e, ← classes_many j e, ← virts_many j e, ← z.fixed, ← z.segments)
    (three (twin_is j a.regs a.starts a.members (λ m n. (good.regs.each m n).small))
    (mixed_is j a.classes a.value_sets)
    (cut_is j es (omega (arith, fe, d.0)) (omega (arith, fe, d.1)) (omega (arith, fe, d.2)) a.froms a.tos a.values))

-- ---- the first reading's answer

pub fields_out : (s : List ℕ) {e : Refusal} {stored : Job → Type 0} {fixed : List Entry → Type 0} → JobOut s (job_fields s) (Err e) stored → TestedOut (tested_job s) (Err e) fixed
fields_out s o = record { parts = fields_refuse s o.parts }

pub tail_out : (s : List ℕ) {h : JobHeader} {z : TableSizes} {at : ℕ} {stored : Job → Type 0} {fixed : List Entry → Type 0} → JobOut s (job_fields s) (Ok (h, z, at)) stored → at < length s → TestedOut (tested_job s) (Err Tail) fixed
tail_out s {at} o l = record { parts = fields_refuse_tail s o.parts.1 (something_left s at l) }

module _ (s : List ℕ) (bytes : Bytes s) {h : JobHeader} {y : TableSizes} {at : ℕ} (B B' : JobSlices) {n f t u n' f' t' u' : List ℕ}
    (out : JobOut s (job_fields s) (Ok (h, y, at)) (JobAt B B' (FixedAt n f t u n' f' t' u')))
    (room : Roomy B)
    (fixed : (512 ≤ length f) × (512 ≤ length t) × (512 ≤ length u))
    (all : length s ≤ at)
  where
    number : whole_number (twin out.parts.0) (mixed_set out.parts.0) (cut_use out.parts.0) ≡ job_refusal B' h y.segments f' t' u' y.fixed
    number =
        let a = out.parts.4 in
        let good = fields_good s bytes out.parts.1 in
        sym (numbers_are out.parts.0 h y B' good out.parts.2 out.parts.3 (asked out.parts.0 B B' (few out.parts.0 good out.parts.3) room a) a.reserved fixed)

    pub none_out : 0 ≡ job_refusal B' h y.segments f' t' u' y.fixed → TestedOut (tested_job s) (Ok (h, y)) (FixedAt n f t u n' f' t' u')
    none_out w =
        record { parts = (out.parts.0, drop at s, tested_all s out.parts.1 (nothing_left s at all) (number ∙ sym w), out.parts.2, out.parts.3, out.parts.4.reserved) }

    pub one_out : {e : Refusal} → number_of e ≡ job_refusal B' h y.segments f' t' u' y.fixed → TestedOut (tested_job s) (Err e) (FixedAt n f t u n' f' t' u')
    one_out {e} w = record { parts = tested_one s out.parts.1 (nothing_left s at all) (number ∙ sym w) (some_number e) }
