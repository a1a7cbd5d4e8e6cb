-- What the structs of a lent job hold: the job's slices. Assumes nothing.
use Rattle.std.specs.Prelude.{◌≡◌, length}
use Rattle.job.specs.Layout.{JobSlices, slices}
use Rattle.job_parts.specs.declared.lent_job.LentJob.{LentJob}
use Rattle.job_parts.specs.declared.lent_job.LentJobMut.{LentJobMut}

abbrev pub slices_of : LentJob → JobSlices
slices_of job = slices job.j64.now job.j32.now job.j16.now job.j8.now job.jf.now

abbrev pub slices_in : LentJobMut → JobSlices
slices_in job = slices job.j64.now job.j32.now job.j16.now job.j8.now job.jf.now

-- that a job to store is still lent in the same slices, so that what is said of them is said of the caller's, and that each is as long as it was
pub record SameJob (before : LentJobMut) (after : LentJobMut) : Type 0 where
  pub j64 : after.j64.ghost_name ≡ before.j64.ghost_name
  pub j32 : after.j32.ghost_name ≡ before.j32.ghost_name
  pub j16 : after.j16.ghost_name ≡ before.j16.ghost_name
  pub j8 : after.j8.ghost_name ≡ before.j8.ghost_name
  pub jf : after.jf.ghost_name ≡ before.jf.ghost_name
  pub j64_length : length after.j64.now ≡ length before.j64.now
  pub j32_length : length after.j32.now ≡ length before.j32.now
  pub j16_length : length after.j16.now ≡ length before.j16.now
  pub j8_length : length after.j8.now ≡ length before.j8.now
  pub jf_length : length after.jf.now ≡ length before.jf.now
