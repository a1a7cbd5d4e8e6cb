use Rattle.std.proofs.Common.{sym, ◌∙◌, refl}
use Rattle.std.proofs.lemmas.Result.{err_from_is_err_and}
use Rattle.table_words.proofs.RefusedNumber.{some_number}
use Rattle.pezhkadu.proofs.DirectLaws.{assign_refused, assign_done}
use Rattle.pezhkadu.proofs.direct.pezhkadu_assign.Goals as goal

pub returns-in_err-after-clause-called : goal.returns-in_err-after-clause-called
returns-in_err-after-clause-called c =
    let p = err_from_is_err_and c.from_residual.result c.from_residual.ensures.1 in
    rw (p.1, p.2) (assign_refused _ _ _ _ _ _ _ (sym c.short_words.ensures ∙ c.if-short_words.false) _ _ _ _ _ _ _ c.header_of.ensures c.cut-v.ensures c.cut-reg.ensures c.cut-weight.ensures (c.in_err-after.ensures.called _ c.record_at-a.ensures) (some_number _))

pub returns-clause-called : goal.returns-clause-called
returns-clause-called c =
    assign_done _ _ _ _ _ _ _ (sym c.short_words.ensures ∙ c.if-short_words.false) _ _ _ _ _ _ _ c.header_of.ensures c.cut-v.ensures c.cut-reg.ensures c.cut-weight.ensures (c.in_ok-after.ensures.called _ c.record_at-a.ensures) refl _ c.put_record.ensures
