use Rattle.std.proofs.Common.{sym, ap, ◌∙◌}
use Rattle.reg_matrix.specs.Refused.{numbered}
use Rattle.results.proofs.ReadLaws.{line_called}
use Rattle.results.proofs.sheet_line.Goals as goal

pub returns : goal.returns
returns c =
    let k = c.next.ensures in
    line_called _ _ _ _ _ _ _ (sym c.short_words.ensures ∙ c.if-short_words.false) c.if-answer-lt2.false c.if-next-lt2.false _ _ _ _ _ _ _ c.listing_of-listing.ensures c.number.ensures.0 c.at.ensures c.record_of-record.ensures (ap numbered (sym c.in_ok-found.was) ∙ k.0, k.1) c.store_next.ensures
