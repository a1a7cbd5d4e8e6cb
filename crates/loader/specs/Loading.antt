-- Loading, in the shape of the code: what is lent, what the two readings of a job promise, and what loading leaves. Assumes nothing.
use Rattle.std.specs.Prelude.{ℕ, ◌≤◌, ◌≡◌, List, [], ◌∷◌, ◌++◌, false, not, length, drop, Result, Ok, Err}
use Rattle.reg_matrix.specs.Lists.{is_nil}
use Rattle.reg_matrix.specs.Refusals.{short_buffer}
use Rattle.reg_matrix.specs.Table.{fresh_table}
use Rattle.reg_matrix.specs.Layout.{max_entries, end_words, rest_words}
use Rattle.reg_matrix.specs.Refused.{number_of, numbered}
use Rattle.reg_matrix.specs.declared.Refusal.{Refusal}
use Rattle.reg_matrix.specs.declared.Entry.{Entry}
use Rattle.table_words.specs.declared.buffers.TableMut.{TableMut}
use Rattle.job.specs.declared.JobHeader.{JobHeader}
use Rattle.job.specs.Model.{Job}
use Rattle.job.specs.Parser.{Parser, Parsed, refused, parsed, ◌>>=◌, ◌>>◌, done, refuse, rest}
use Rattle.job.specs.Load.{job_fields, twin, mixed_set, cut_use, Loaded, not_loaded, loaded, load_with}
use Rattle.job.specs.Layout.{JobSlices, job_slices, load_limits, header_of}
use Rattle.job_parts.specs.declared.lent_job.LentJobMut.{LentJobMut}
use Rattle.job_parts.specs.Lent.{slices_in}
use Rattle.whole_fields.specs.declared.TableSizes.{TableSizes}
use Rattle.whole_fields.specs.Whole.{SizesOf}

-- ---- what is lent: the job's slices in the order of their limits, and the table's two

pub record Lent : Type 0 where
  pub job : JobSlices
  pub ends : List ℕ
  pub rests : List ℕ

abbrev pub lent : JobSlices → List ℕ → List ℕ → Lent
lent b es rs = record { job = b; ends = es; rests = rs }

abbrev pub lent_in : LentJobMut → TableMut → Lent
lent_in job table = lent (slices_in job) table.ends.now table.rests.now

abbrev pub sizes_of : Lent → List ℕ
sizes_of b =
    length b.job.j64 ∷ length b.job.j32 ∷ length b.job.j16 ∷ length b.job.j8 ∷ length b.job.jf ∷ length b.ends ∷ length b.rests ∷ []

-- the sizes lent and the job's length pass their tests
pub record Sized (s : List ℕ) (b : Lent) : Type 0 where
  pub sizes : short_buffer load_limits (sizes_of b) ≡ false
  pub bytes : length s ≤ 32_768

-- ---- the first reading

-- what is tested after the sizes lent and the job's length
unfoldable pub tested_job : Parser Job
tested_job = do
  j ← job_fields
  tail ← rest
  refuse 2 (not (is_nil tail))
  refuse 10 (twin j)
  refuse 11 (mixed_set j)
  refuse 12 (cut_use j)
  done j

abbrev TestedParts : Parsed Job → Result (JobHeader × TableSizes) Refusal → (List Entry → Type 0) → Type 0
TestedParts p (Err r) fixed = p ≡ refused (number_of r)
TestedParts p (Ok (h, z)) fixed = (j : Job) × (t : List ℕ) × (p ≡ parsed j t) × (h ≡ header_of j) × SizesOf z j × fixed j.fixed

-- where these tests answer p: the same refusal, or the job's header and sizes, and the fixed reservations are stored
pub record TestedOut (p : Parsed Job) (r : Result (JobHeader × TableSizes) Refusal) (fixed : List Entry → Type 0) : Type 0 where
  pub parts : TestedParts p r fixed

-- ---- loading

-- what loading the job leaves in what was lent: its layout, and the tail of a longer slice
unfoldable pub later : Job → Lent → Lent
later j b =
    lent
    (record {
      j64 = (job_slices j).j64 ++ drop 576 b.job.j64;
      j32 = (job_slices j).j32 ++ drop 1536 b.job.j32;
      j16 = (job_slices j).j16 ++ drop 2067 b.job.j16;
      j8 = (job_slices j).j8 ++ drop 2560 b.job.j8;
      jf = (job_slices j).jf ++ drop 1536 b.job.jf;
    })
    (end_words (fresh_table j.fixed) ++ drop max_entries b.ends)
    (rest_words (fresh_table j.fixed) ++ drop max_entries b.rests)

abbrev pub LoadParts : Lent → Lent → Loaded → Result JobHeader Refusal → Type 0
LoadParts b b' (not_loaded n) r = (numbered r ≡ Err n) × (b' ≡ b)
LoadParts b b' (loaded j) r = (r ≡ Ok (header_of j)) × (b' ≡ later j b)

-- loading the bytes s, where b is lent, answers r and leaves b': a refusal leaves all as it was
pub record LoadDone (s : List ℕ) (b b' : Lent) (r : Result JobHeader Refusal) : Type 0 where
  pub parts : LoadParts b b' (load_with load_limits (sizes_of b) s) r
