use mathlib.Core.Path.{ap}
use Rattle.job.specs.Layout.{JobSlices}
use Rattle.loader.proofs.Loads.{short_done, long_done}
use Rattle.loader.proofs.load.load.Goals as goal

pub returns-then-is_short-clause-loaded : goal.returns-then-is_short-clause-loaded
returns-then-is_short-clause-loaded c =
    let j64 = ap (λ (B : JobSlices). B.j64) c.as_job.ensures in
    let j32 = ap (λ (B : JobSlices). B.j32) c.as_job.ensures in
    let j16 = ap (λ (B : JobSlices). B.j16) c.as_job.ensures in
    let j8 = ap (λ (B : JobSlices). B.j8) c.as_job.ensures in
    let jf = ap (λ (B : JobSlices). B.jf) c.as_job.ensures in
    short_done _ _ (rw (j64, j32, j16, j8, jf, c.as_table.ensures.0, c.as_table.ensures.1) at c.is_short.ensures) c.if-is_short.true

pub returns-then-s-gt32768-clause-loaded : goal.returns-then-s-gt32768-clause-loaded
returns-then-s-gt32768-clause-loaded c =
    let j64 = ap (λ (B : JobSlices). B.j64) c.as_job.ensures in
    let j32 = ap (λ (B : JobSlices). B.j32) c.as_job.ensures in
    let j16 = ap (λ (B : JobSlices). B.j16) c.as_job.ensures in
    let j8 = ap (λ (B : JobSlices). B.j8) c.as_job.ensures in
    let jf = ap (λ (B : JobSlices). B.jf) c.as_job.ensures in
    long_done _ _ (rw (j64, j32, j16, j8, jf, c.as_table.ensures.0, c.as_table.ensures.1) at c.is_short.ensures) c.if-is_short.false c.if-s-gt32768.true
