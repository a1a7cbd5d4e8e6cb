use native.Mathlib.Omega.{arith}
use mathlib.Core.Path.{sym, ◌∙◌}
use Prim.Native.Nat.{◌<◌}
use lib.ListN.{get_or}
use lib.Seq.{ext_get_or}
use Rattle.std.proofs.Common.{rules}
use Rattle.allocator.specs.declared.Assignment.TheVariants.{Dead}
use Rattle.record_words.specs.Words.{record_in, records_in}
use Rattle.record_words.proofs.Filling.{made_at}
use Rattle.record_words.proofs.WordLaws.{record_in_lem, in_length}
use Rattle.record_words.proofs.read.Goals as goal

pub returns : goal.returns
returns c =
    let ws = c.args.words.now in
    let made = c.from_fn.ensures.items in
    ext_get_or Dead c.from_fn.result (records_in ws) (made.long ∙ sym (in_length ws))
    (λ i h.
    let k : i < 512 = omega (arith, h, made.long) in
    made_at _ (λ v. record_in (get_or ws v 0)) _ (λ v x q k. search rules) c.from_fn.result Dead 0 512 made.each i (omega arith) (omega (arith, k)) ∙ sym (record_in_lem ws i k))
