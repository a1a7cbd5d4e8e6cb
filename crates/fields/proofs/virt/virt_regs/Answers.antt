use mathlib.Core.Path.{refl, ◌∙◌}
use Rattle.std.proofs.lemmas.Result.{err_from_is_err_and}
use Rattle.job.specs.Load.{virt_reg_after}
use Rattle.reader.proofs.Reading.{stops, ends}
use Rattle.reader.proofs.Tables.{hints_in_length, segments_in_length}
use Rattle.fields.proofs.Turns.{virts_begun, virts_more}
use Rattle.fields.proofs.virt.virt_regs.Goals as goal

pub loop-i-init : goal.loop-i-init
loop-i-init c = (virts_begun _ _ _ _ _ _ _ _ c.none-totals.result c.none-totals.ensures, record { j64 = refl; j32 = refl; j16 = refl; j8 = refl; jf = refl; j64_length = refl; j32_length = refl; j16_length = refl; j8_length = refl; jf_length = refl }, refl, refl)

pub returns-in_err-f-clause-read : goal.returns-in_err-f-clause-read
unfolding virt_reg_after
returns-in_err-f-clause-read c =
    let p = err_from_is_err_and c.from_residual.result c.from_residual.ensures.1 in
    let v = c.loop-i.invariant.0 in
    let eh = hints_in_length v.0 ∙ v.2.0 in
    let eg = segments_in_length v.0 ∙ v.2.1 in
    rw (p.1, p.2) (stops v.1 c.loop-i-test.true (rw (v.1.read, eh, eg) c.in_err-f.ensures.read))

pub loop-i-preserved : goal.loop-i-preserved
loop-i-preserved c =
    let v = c.loop-i.invariant in
    let a = c.in_ok-f.ensures in
    let b = c.put_fields.ensures in (
      virts_more _ _ _ _ _ _ _ _ _ _ v.0 c.loop-i-test.true c.requires a.read b.stored c.put.ensures c.put-in-loop-i.ensures,
      record {
        j64 = b.same.j64 ∙ a.same.0.j64 ∙ v.1.j64;
        j32 = b.same.j32 ∙ a.same.0.j32 ∙ v.1.j32;
        j16 = b.same.j16 ∙ a.same.0.j16 ∙ v.1.j16;
        j8 = b.same.j8 ∙ a.same.0.j8 ∙ v.1.j8;
        jf = b.same.jf ∙ a.same.0.jf ∙ v.1.jf;
        j64_length = b.same.j64_length ∙ a.same.0.j64_length ∙ v.1.j64_length;
        j32_length = b.same.j32_length ∙ a.same.0.j32_length ∙ v.1.j32_length;
        j16_length = c.put-in-loop-i.auto.s ∙ c.put.auto.s ∙ b.same.j16_length ∙ a.same.0.j16_length ∙ v.1.j16_length;
        j8_length = b.same.j8_length ∙ a.same.0.j8_length ∙ v.1.j8_length;
        jf_length = b.same.jf_length ∙ a.same.0.jf_length ∙ v.1.jf_length;
      },
      b.maps ∙ a.maps ∙ v.2,
      a.same.1 ∙ v.3,
    )

pub returns-clause-read : goal.returns-clause-read
returns-clause-read c =
    let v = c.loop-i.invariant.0 in
    (v.0, ends v.1 c.loop-i-test.false, v.2, v.3)
