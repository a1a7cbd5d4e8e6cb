-- What reading all fields of a job promises: the job of Load.antt, its header and sizes, and every table stored. Assumes nothing.
use Rattle.std.specs.Prelude.{ℕ, ◌≤◌, ◌≡◌, List, drop, length, Result, Ok, Err}
use Rattle.std.proofs.Math.Option.{Option}
use Rattle.std.proofs.lemmas.List.Edits.{sets}
use Rattle.whole_fields.specs.declared.TableSizes.{TableSizes}
use Rattle.whole_fields.specs.declared.FirstTables.{FirstTables}
use Rattle.reg_matrix.specs.Lists.{bit}
use Rattle.reg_matrix.specs.Refused.{number_of}
use Rattle.reg_matrix.specs.declared.Refusal.{Refusal}
use Rattle.reg_matrix.specs.declared.Entry.{Entry}
use Rattle.reg_matrix.specs.declared.ValueSegment.{ValueSegment}
use Rattle.job.specs.declared.JobHeader.{JobHeader}
use Rattle.job.specs.Model.{Job}
use Rattle.job.specs.Parser.{Parser, Parsed, refused, parsed, ◌>>=◌, done, if_bit, little}
use Rattle.job.specs.Load.{virt_reg_after}
use Rattle.job.specs.Layout.{starts_from, JobSlices, header_of}
use Rattle.reader.specs.Read.{table_of, all_members, segments_of_all}
use Rattle.fields.specs.Virt.{VirtsAt}
use Rattle.whole_fields.specs.Probe.{probe_field, range_of}

-- every table of the job is stored: in B, which is B' afterwards, and the fixed reservations so
pub record JobAt (B B' : JobSlices) (fixed : List Entry → Type 0) (j : Job) : Type 0 where
  pub regs : B'.j64 ≡ sets B.j64 0 j.regs
  pub virt_regs :
      VirtsAt B.j32 (sets B.j16 0 (starts_from length 0 j.classes)) (sets B.j8 0 (all_members j.classes)) B.jf
      B'.j32 B'.j16 B'.j8 B'.jf j.virt_regs
  pub reserved : fixed j.fixed

pub record SizesOf (z : TableSizes) (j : Job) : Type 0 where
  pub few_class_regs : length (all_members j.classes) ≤ 1024
  pub fixed : length j.fixed ≡ z.fixed
  pub segments : length (segments_of_all j.virt_regs) ≡ z.segments

abbrev JobParts : List ℕ → Parsed Job → Result (JobHeader × TableSizes × ℕ) Refusal → (Job → Type 0) → Type 0
JobParts s p (Err r) stored = p ≡ refused (number_of r)
JobParts s p (Ok (h, z, at)) stored = (j : Job) × (p ≡ parsed j (drop at s)) × (h ≡ header_of j) × SizesOf z j × stored j

-- where the parser answers p: the same refusal, or the job's header, its sizes, a position, and what is stored
pub record JobOut (s : List ℕ) (p : Parsed Job) (r : Result (JobHeader × TableSizes × ℕ) Refusal) (stored : Job → Type 0) : Type 0 where
  pub parts : JobParts s p r stored

-- ---- the first tables

-- what is read after the fixed reservations
unfoldable pub rest_of : ℕ → List ℕ → List (List ℕ) → List Entry → Parser Job
rest_of m rs cs es = do
  vs ← table_of (bit 3 m) 2 512 (virt_reg_after (length rs) (length cs))
  p ← probe_field (bit 4 m)
  b ← if_bit (bit 5 m) 100_000 (little 4)
  done (record { regs = rs; classes = cs; fixed = es; virt_regs = vs; probe = p; budget = b })

pub record FirstSizes (t : FirstTables) (rs : List ℕ) (cs : List (List ℕ)) (es : List Entry) : Type 0 where
  pub regs : length rs ≡ t.regs
  pub classes : length cs ≡ t.classes
  pub few_class_regs : length (all_members cs) ≤ 1024
  pub fixed : length es ≡ t.fixed

abbrev pub FirstOut : List ℕ → Parsed Job → Result FirstTables Refusal → (List ℕ → Type 0) → (List (List ℕ) → Type 0) → (List Entry → Type 0) → Type 0
FirstOut l p (Err r) regs classes fixed = p ≡ refused (number_of r)
FirstOut l p (Ok t) regs classes fixed =
    (rs : List ℕ) × (cs : List (List ℕ)) × (es : List Entry) × (p ≡ rest_of t.map rs cs es l) × FirstSizes t rs cs es × regs rs × classes cs × fixed es

-- ---- the last fields

-- what is read after the virtual registers, where the bits of m stand: the probe range and the budget
unfoldable pub last_of : ℕ → Parser (Option ValueSegment × ℕ)
last_of m = do
  p ← probe_field (bit 4 m)
  b ← if_bit (bit 5 m) 100_000 (little 4)
  done (p, b)

-- of l, after which l' is left
abbrev pub LastOut : List ℕ → List ℕ → FirstTables → ℕ → ℕ → Result (JobHeader × TableSizes) Refusal → Type 0
LastOut l l' t v g (Err r) = last_of t.map l ≡ refused (number_of r)
LastOut l l' t v g (Ok (d, z)) =
    (last_of t.map l ≡ parsed (range_of d.probe, d.budget) l')
    × (d ≡ record { regs = t.regs; classes = t.classes; virt_regs = v; probe = d.probe; budget = d.budget })
    × (z ≡ record { fixed = t.fixed; segments = g })
