-- A second reading finds the same job. Assumes nothing.
use Prim.Native.Nat.{ℕ}
use native.Mathlib.Omega.{arith}
use mathlib.Core.Path.{◌≡◌, subst}
use mathlib.Core.List.{List}
use Rattle.reg_matrix.specs.declared.Entry.{Entry}
use Rattle.job.specs.Model.{Job}
use Rattle.job.specs.Parser.{Parsed, parsed}
use Rattle.job.specs.Load.{job_fields}
use Rattle.job.specs.Layout.{JobSlices}
use Rattle.std.specs.Prelude.{Result, Ok, Err}
use Rattle.reg_matrix.specs.declared.Refusal.{Refusal}
use Rattle.job.specs.declared.JobHeader.{JobHeader}
use Rattle.whole_fields.specs.declared.TableSizes.{TableSizes}
use Rattle.whole_fields.specs.Whole.{JobAt, JobOut}
use Rattle.job_stores.specs.Storing.{cleared, Stores}

pub read_again : {s : List ℕ} {p : Parsed Job} (r : Result (JobHeader × TableSizes × ℕ) Refusal) {stored : Job → Type 0} {j : Job} {t : List ℕ} → JobOut s p r stored → p ≡ parsed j t → stored j
read_again (Err n) h e = absurd (let q = h.parts in let z : ◌≡◌ {A = ℕ} 0 1 = cc in omega arith)
read_again (Ok (d, z, at)) {stored} {j} h e =
    let same : h.parts.0 ≡ j = let q = h.parts.1 in cc in
    subst stored same h.parts.4

pub stores : {s : List ℕ} {B B₁ B' : JobSlices} (r : Result (JobHeader × TableSizes × ℕ) Refusal) {fixed : List Entry → Type 0} → B₁ ≡ cleared B → JobOut s (job_fields s) r (JobAt B₁ B' fixed) → Stores s B B'
stores {B} {B₁} {B'} r e o =
    record {
      stored = λ j t w.
          let a = read_again r o w in
          subst (λ (z : JobSlices). JobAt z B' (λ es. Unit {0}) j) e (record { regs = a.regs; virt_regs = a.virt_regs; reserved = tt });
    }
