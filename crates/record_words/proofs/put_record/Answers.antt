use Rattle.record_words.proofs.WordLaws.{put_inside, put_past}
use Rattle.record_words.proofs.put_record.Goals as goal

pub returns-then-i-lt512 : goal.returns-then-i-lt512
returns-then-i-lt512 c = put_inside _ _ _ _ _ c.if-i-lt512.true c.word_of-word.ensures.1 c.put.ensures

pub returns-else-i-lt512 : goal.returns-else-i-lt512
returns-else-i-lt512 c = put_past _ _ _ c.if-i-lt512.false
