use Rattle.record_words.proofs.WordLaws.{store_back}
use Rattle.record_words.proofs.store.Goals as goal

pub returns-clause-read_back : goal.returns-clause-read_back
returns-clause-read_back c = store_back c.loop-i.invariant c.loop-i-test.false
