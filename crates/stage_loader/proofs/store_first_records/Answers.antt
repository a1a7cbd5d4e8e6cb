use Rattle.allocator.proofs.Weights.{plain_zero}
use Rattle.stage_loader.proofs.FirstWords.{first_read}
use Rattle.stage_loader.proofs.store_first_records.Goals as goal

pub returns-clause-read_back : goal.returns-clause-read_back
returns-clause-read_back c = λ m. first_read _ _ _ c.fill.ensures m (c.word_of-first.ensures.1 plain_zero)
