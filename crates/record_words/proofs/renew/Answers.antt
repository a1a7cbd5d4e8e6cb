use Prim.Native.Nat.{◌<◌}
use native.Mathlib.Omega.{arith}
use mathlib.Core.Path.{refl, sym, ap, ◌∙◌}
use lib.ListN.{length, drop, length-take, take-append-drop, get_or-append}
use lib.Seq.{set-append_left}
use Rattle.record_words.specs.Words.{record_in}
use Rattle.record_words.proofs.WordLaws.{renew_start, renew_more, renew_end, store_back}
use Rattle.record_words.proofs.renew.Goals as goal

pub loop-word-init : goal.loop-word-init
loop-word-init c = rw (take-append-drop c.min-n.result c.args.words.now) (renew_start _)

pub loop-word-preserved : goal.loop-word-preserved
loop-word-preserved c =
    let l = c.loop-word in
    let n = c.min-n.result in
    let words = c.args.words.now in
    let inside : l.word-index < length l.word-items = omega (arith, l.auto.word-items) in
    let few : l.word-index < 512 = omega (arith, length-take n words) in
    rw (sym (set-append_left l.word-items (drop n words) l.word-index c.word_of.result inside))
    (renew_more l.invariant _ _ few (rw (c.record_of.ensures ∙ ap record_in (sym (get_or-append l.word-items (drop n words) 0 l.word-index inside))) at c.word_of.ensures) refl)

pub returns-clause-words_after : goal.returns-clause-words_after
returns-clause-words_after c = renew_end c.loop-word.invariant (omega (arith, length-take c.min-n.result c.args.words.now))

pub returns-clause-words_unchanged : goal.returns-clause-words_unchanged
returns-clause-words_unchanged c = λ p m. store_back c.loop-word.invariant.stored (omega (arith, m, length-take c.min-n.result c.args.words.now)) p m
