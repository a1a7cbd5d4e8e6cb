use mathlib.Core.Path.{◌∙◌}
use Rattle.context.proofs.CarryLaws.{evict_start, evict_end, evict_pass, evict_idle, evict_one}
use Rattle.context.proofs.carry.evict_all.Goals as goal
use Rattle.context.proofs.carry.evict_all.Goals.{then-is_gone+in-Assigned, then-is_gone+in_default, else-is_gone}

pub loop-v-init : goal.loop-v-init
loop-v-init c = (search, evict_start _ _ _ _)

pub loop-v-preserved : goal.loop-v-preserved
loop-v-preserved c =
    elim c.if-is_gone.branch [
      | then-is_gone+in-Assigned w ↦
          rw (w.state-is, w.words-is) (
            search,
            evict_one _ _ _ _ _ _ _ c.loop-v.invariant.1 c.loop-v-test.true w.if-is_gone.true _ (w.record_of-a.ensures ∙ rw w.at.ensures) _ _ _ w.in-Assigned.is _ w.take_back.ensures.after _ _ (rw w.waiting.ensures at w.word_of.ensures) w.put.ensures,
          )
      | then-is_gone+in_default w ↦
          rw (w.state-is, w.words-is) (
            c.loop-v.invariant.0,
            evict_idle _ _ _ _ _ _ _ c.loop-v.invariant.1 c.loop-v-test.true w.if-is_gone.true _ (w.record_of-a.ensures ∙ rw w.at.ensures) w.in_default.not-Assigned,
          )
      | else-is_gone w ↦
          rw (w.state-is, w.words-is) (c.loop-v.invariant.0, evict_pass _ _ _ _ _ _ _ c.loop-v.invariant.1 c.loop-v-test.true w.if-is_gone.false)
    ]

pub returns-clause-after : goal.returns-clause-after
returns-clause-after c = evict_end _ _ _ _ _ _ _ c.loop-v.invariant.1 c.loop-v-test.false
