use Prim.Native.Nat.{ℕ, ◌+◌}
use native.Mathlib.Omega.{arith}
use mathlib.Core.Path.{◌≡◌, refl, ◌∙◌}
use mathlib.Core.List.{List, [], ◌∷◌, ◌++◌}
use lib.ListN.{length}
use Rattle.std.proofs.lemmas.Result.{err_from_is_err_and}
use Rattle.reg_matrix.specs.Lists.{concat_map}
use Rattle.job.specs.Layout.{starts_from}
use Rattle.reader.specs.Read.{all_members}
use Rattle.reader.proofs.Reading.{begin, more, stops, ends}
use Rattle.reader.proofs.Stores.{none_stored, more_stored, stored_append}
use Rattle.reader.proofs.Tables.{concat_more, concat_length, starts_then, starts_begun, starts_ended}
use Rattle.job.proofs.Lists.{starts_length}
use Rattle.reg_reader.proofs.classes.Goals as goal

pub loop-i-init : goal.loop-i-init
unfolding starts_from concat_map
loop-i-init c =
    ([], begin, refl, omega arith, record { starts = starts_begun {A = List ℕ} length c.args.starts.now c.put.ensures; members = none_stored }, refl)

pub returns-in_err-k-clause-read : goal.returns-in_err-k-clause-read
returns-in_err-k-clause-read c =
    let p = err_from_is_err_and c.from_residual.result c.from_residual.ensures.1 in
    rw (p.1, p.2) (stops c.loop-i.invariant.1 c.loop-i-test.true c.in_err-k.ensures.read)

pub loop-i-preserved : goal.loop-i-preserved
loop-i-preserved c =
    let v = c.loop-i.invariant in
    let w = c.in_ok-k.ensures.read in
    let x = w.0 in
    let n : 0 + length (starts_from length 0 v.0) ≡ c.loop-i.i + 1 = omega (arith, v.1.read, starts_length length 0 v.0) in
    let g : 0 + length (all_members v.0) ≡ c.loop-i.g = omega (arith, v.2) in
    let e : length (all_members v.0) + length x ≡ c.loop-i.g + c.in_ok-k.k = omega (arith, v.2, w.2) in (
      v.0 ++ (x ∷ []),
      more v.1 c.loop-i-test.true w.1,
      concat_length (λ (c : List ℕ). c) v.0 x ∙ e,
      omega (arith, v.3, w.3),
      record {
        starts = rw (starts_then (λ (c : List ℕ). c) v.0 x e) (more_stored v.4.starts (c.loop-i.g + c.in_ok-k.k) n c.put-in-loop-i.ensures);
        members = rw concat_more (stored_append v.4.members g w.4);
      },
      c.class.ensures.same ∙ v.5,
    )

pub returns-clause-read : goal.returns-clause-read
returns-clause-read c = (c.loop-i.invariant.0, ends c.loop-i.invariant.1 c.loop-i-test.false, c.loop-i.invariant.2, omega (arith, c.loop-i.invariant.3, c.loop-i.invariant.1.bound), record { starts = starts_ended length c.args.starts.now c.loop-i.invariant.0 c.put.ensures c.loop-i.invariant.4.starts; members = c.loop-i.invariant.4.members })
