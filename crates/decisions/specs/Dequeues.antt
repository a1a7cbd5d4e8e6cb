-- The same decisions, by what the code has of the number that is dequeued. Assumes nothing.
use Rattle.allocator.specs.declared.CandidateReg.{CandidateReg}
use Rattle.record_words.specs.Words.{held_in}
use Rattle.order.specs.Hinted.{hinted_by, offers}
use Rattle.stage.specs.Searching.{lent_for}
use Rattle.decisions.specs.Deciding.{Decided, clear_in, none_clear_in, in_order}
use Rattle.decisions.specs.declared.Dequeued.{Dequeued}

-- where c is the first candidate that is clear
abbrev pub clear_for : Dequeued → CandidateReg → Decided
clear_for d c = clear_in (lent_for d.search) d.search.maps.now (held_in d.search.words.now) d.search.spills.now (hinted_by d.order.now) d.flag c

-- where none is
abbrev pub none_clear_for : Dequeued → Decided
none_clear_for d =
    none_clear_in (lent_for d.search) d.search.maps.now (held_in d.search.words.now) d.search.spills.now d.flag d.spill_weight (offers d.order.now) d.stage

abbrev pub decided_for : Dequeued → Decided
decided_for d =
    in_order (lent_for d.search) d.search.maps.now (held_in d.search.words.now) d.search.spills.now (hinted_by d.order.now) d.order.now.class.now d.flag
    d.spill_weight d.stage
