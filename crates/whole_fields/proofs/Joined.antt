-- The job from its parts: what its first tables, its virtual registers and its last fields answer is what the whole answers. Assumes nothing.
use Prim.Native.Nat.{ℕ}
use mathlib.Core.Bool.{false}
use lib.Dec.{leb}
use mathlib.Core.Path.{◌≡◌, refl, ap, ◌∙◌}
use mathlib.Core.List.{List, map-id}
use mathlib.Core.Option.{Option}
use lib.ListN.{length, drop}
use lib.Seq.{sets}
use Rattle.reg_matrix.specs.Lists.{bit}
use Rattle.reg_matrix.specs.declared.Entry.{Entry}
use Rattle.reg_matrix.specs.declared.ValueSegment.{ValueSegment}
use Rattle.job.specs.declared.JobHeader.{JobHeader}
use Rattle.std.specs.Prelude.{Option as Maybe, Some, None, Result, Ok, Err}
use Rattle.reg_matrix.specs.Refused.{number_of}
use Rattle.reg_matrix.specs.declared.Refusal.{Refusal}
use Rattle.whole_fields.specs.declared.TableSizes.{TableSizes}
use Rattle.job.specs.Model.{Job, VirtReg}
use Rattle.job.specs.Parser.{Parser, Parsed, refused, parsed, and_then, done, if_bit, little}
use Rattle.job.specs.Load.{register, class, reservation, virt_reg_after, job_fields}
use Rattle.job.specs.Layout.{starts_from, JobSlices, probe_of, header_of}
use Rattle.reader.specs.Read.{Stored, ClassesAt, all_members, table_of, segments_of_all}
use Rattle.fields.specs.Virt.{VirtsIn, TableOut}
use Rattle.fields.specs.declared.totals.Totals.{Totals}
use Rattle.whole_fields.specs.Probe.{probe_field, range_of}
use Rattle.whole_fields.specs.Whole.{rest_of, last_of, FirstSizes, FirstOut, LastOut, JobAt, JobOut}
use Rattle.whole_fields.specs.declared.FirstTables.{FirstTables}

module _ (l : List ℕ) {l₁ l₂ l₃ l₄ : List ℕ} {m r : ℕ} {rs : List ℕ} {cs : List (List ℕ)} {es : List Entry} where
  -- what is left after the first tables
  pub first_is :
      little 1 l ≡ parsed m l₁
      → leb 64 m ≡ false
      → table_of (bit 0 m) 1 64 (λ before. register) l₁ ≡ parsed rs l₂
      → length rs ≡ r
      → table_of (bit 1 m) 1 16 (λ before. class r) l₂ ≡ parsed cs l₃
      → table_of (bit 2 m) 2 512 reservation l₃ ≡ parsed es l₄
      → job_fields l ≡ rest_of m rs cs es l₄
  unfolding job_fields rest_of
  first_is e t e₁ n e₂ e₃ = rw (e, t, e₁, n, e₂, e₃)

probe_back : (p : Maybe (ℕ × ℕ)) → probe_of (range_of p) ≡ p
probe_back None = refl
probe_back (Some (a, b)) = refl

-- the answer of the last fields, and the position after them
abbrev pub placed : ℕ → Result (JobHeader × TableSizes) Refusal → Result (JobHeader × TableSizes × ℕ) Refusal
placed at (Ok (d, z)) = Ok (d, z, at)
placed at (Err r) = Err r

abbrev pub job_of : List ℕ → List (List ℕ) → List Entry → List VirtReg → Option ValueSegment → ℕ → Job
job_of rs cs es vs p b = record { regs = rs; classes = cs; fixed = es; virt_regs = vs; probe = p; budget = b }

-- two fields, and what is made of them
module _ {A B C : Type 0} (f : A → B → C) (p : Parser B) where
  second : (a : A) (q : Parsed B) → and_then q (λ b. done (f a b)) ≡ and_then {A = A × B} (and_then q (λ b. done (a, b))) (λ x. done (f x.0 x.1))
  second a (refused n) = refl
  second a (parsed b l) = refl

  both_fields : (q : Parsed A) → and_then q (λ a l. and_then (p l) (λ b. done (f a b))) ≡ and_then {A = A × B} (and_then q (λ a l. and_then (p l) (λ b. done (a, b)))) (λ x. done (f x.0 x.1))
  both_fields (refused n) = refl
  both_fields (parsed a l) = second a (p l)

module _ {t : FirstTables} {rs : List ℕ} {cs : List (List ℕ)} {es : List Entry} (z : FirstSizes t rs cs es) (l : List ℕ) where
  pub virts_refuse : {n : ℕ} → table_of (bit 3 t.map) 2 512 (virt_reg_after t.regs t.classes) l ≡ refused n → rest_of t.map rs cs es l ≡ refused n
  unfolding rest_of
  virts_refuse e = rw (z.regs, z.classes, e)

  module _ {vs : List VirtReg} {l₁ : List ℕ} (e : table_of (bit 3 t.map) 2 512 (virt_reg_after t.regs t.classes) l ≡ parsed vs l₁) where
    header :
        (d : JobHeader) {v : ℕ}
        → length vs ≡ v
        → ◌≡◌ {A = JobHeader} (record { regs = t.regs; classes = t.classes; virt_regs = v; probe = d.probe; budget = d.budget })
        (header_of (job_of rs cs es vs (range_of d.probe) d.budget))
    unfolding header_of
    header d a = rw (z.regs, z.classes, a, probe_back d.probe)

    rest_last : rest_of t.map rs cs es l ≡ and_then (last_of t.map l₁) (λ x. done (job_of rs cs es vs x.0 x.1))
    unfolding rest_of last_of
    rest_last = rw (z.regs, z.classes, e) (both_fields (job_of rs cs es vs) (if_bit (bit 5 t.map) 100_000 (little 4)) (probe_field (bit 4 t.map) l₁))

    -- the whole answers as its last fields do
    pub job_out :
        (s : List ℕ) (at : ℕ) {v g : ℕ} {p : Parsed Job} (r : Result (JobHeader × TableSizes) Refusal) {stored : Job → Type 0}
        → p ≡ rest_of t.map rs cs es l
        → length vs ≡ v
        → length (segments_of_all vs) ≡ g
        → ((q : Option ValueSegment) (b : ℕ) → stored (job_of rs cs es vs q b))
        → LastOut l₁ (drop at s) t v g r
        → JobOut s p (placed at r) stored
    job_out s at (Err n) w a c k o = record { parts = w ∙ rest_last ∙ rw o }
    job_out s at (Ok (d, y)) w a c k o = record {
      parts = (
        job_of rs cs es vs (range_of d.probe) d.budget,
        w ∙ rest_last ∙ rw o.0,
        o.1 ∙ header d a,
        rw o.2 (record { few_class_regs = z.few_class_regs; fixed = z.fixed; segments = c }),
        k (range_of d.probe) d.budget,
      );
    }

-- ---- from what the first tables and the virtual registers answered

module _ (l : List ℕ) {p : Parsed Job} {t : FirstTables} {rs : List ℕ → Type 0} {cs : List (List ℕ) → Type 0} {es : List Entry → Type 0} (w : FirstOut l p (Ok t) rs cs es) where
  pub virts_refused : {s : List ℕ} {e : Refusal} {stored : Job → Type 0} → table_of (bit 3 t.map) 2 512 (virt_reg_after t.regs t.classes) l ≡ refused (number_of e) → JobOut s p (Err e) stored
  virts_refused e = record { parts = w.3 ∙ virts_refuse w.4 l e }

-- B is as lent, B₁ as the first tables leave it, and B' as the virtual registers do
pub all_read :
    (l l₁ : List ℕ) {p : Parsed Job} {t : FirstTables} {es : List Entry → Type 0} (B B₁ B' : JobSlices)
    → FirstOut l p (Ok t) (λ rs. Stored (λ x. x) B.j64 0 rs B₁.j64) (ClassesAt B.j16 B.j8 B₁.j16 B₁.j8) es
    → (B₁.j32 ≡ B.j32) × (B₁.jf ≡ B.jf)
    → B'.j64 ≡ B₁.j64
    → (s : List ℕ) (at : ℕ) {v : ℕ} (totals : Totals) (r : Result (JobHeader × TableSizes) Refusal)
    → TableOut l₁ (table_of (bit 3 t.map) 2 512 (virt_reg_after t.regs t.classes) l) (Ok (v, totals)) (VirtsIn B₁ B')
    → LastOut l₁ (drop at s) t v totals.segments r
    → JobOut s p (placed at r) (JobAt B B' es)
all_read l l₁ B B₁ B' w k m s at totals r x o =
    let eh = w.6.starts.is ∙ ap (λ (l : List ℕ). sets B.j16 0 l) (map-id (starts_from length 0 w.1)) in
    let eb = w.6.members.is ∙ ap (λ (l : List ℕ). sets B.j8 0 l) (map-id (all_members w.1)) in
    job_out w.4 l x.1 s at r w.3 x.2 x.3.1
    (λ q b. record { regs = m ∙ w.5.is ∙ ap (λ (l : List ℕ). sets B.j64 0 l) (map-id w.0); virt_regs = rw (k.0, eh, eb, k.1) at x.4; reserved = w.7 }) o
