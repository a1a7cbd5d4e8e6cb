use mathlib.Core.Path.{◌∙◌}
use Rattle.std.proofs.lemmas.Result.{err_from_is_err_and}
use Rattle.std.specs.Prelude.{Ok, Err}
use Rattle.whole_fields.proofs.Joined.{virts_refused, all_read}
use Rattle.whole_fields.proofs.job_fields.Goals as goal

pub returns-in_err-vn-clause-read : goal.returns-in_err-vn-clause-read
returns-in_err-vn-clause-read c =
    let p = err_from_is_err_and c.from_residual-in_err-vn.result c.from_residual-in_err-vn.ensures.1 in
    rw (p.1, p.2) (virts_refused _ c.in_ok-t.ensures.read (rw c.bit-stands.ensures at c.in_err-vn.ensures.read))

pub returns-in_err-header-clause-read : goal.returns-in_err-header-clause-read
returns-in_err-header-clause-read c =
    let p = err_from_is_err_and c.from_residual-in_err-header.result c.from_residual-in_err-header.ensures.1 in
    rw (p.1, p.2) (all_read _ _ _ _ _ c.in_ok-t.ensures.read c.in_ok-t.ensures.others c.in_ok-vn.ensures.maps _ 0 c.in_ok-vn.totals (Err _) (rw c.bit-stands.ensures at c.in_ok-vn.ensures.read) c.in_err-header.ensures.read)

pub returns-clause-read : goal.returns-clause-read
returns-clause-read c =
    let r = c.last_fields.new.reader in
    let e = c.in_ok-header.ensures.same ∙ c.in_ok-vn.ensures.same.1 ∙ c.in_ok-t.ensures.same.2 in
    all_read _ _ _ _ _ c.in_ok-t.ensures.read c.in_ok-t.ensures.others c.in_ok-vn.ensures.maps c.args.s.now r.at c.in_ok-vn.totals (Ok _) (rw c.bit-stands.ensures at c.in_ok-vn.ensures.read) (rw e at c.in_ok-header.ensures.read)
