-- How the state stands in lent numbers (document 01, "Limits", "Where the Rust's forms give way"): the table's two buffers (see reg_matrix), the
-- queue and the last registers. The records go by value. A longer buffer keeps its tail. Assumes nothing.
use Rattle.std.specs.Prelude.{ℕ, zero, suc, ◌+◌, max, List, [], ◌∷◌, ◌++◌, map, get_or}
use Rattle.std.proofs.Math.Option.{Option, none, some}
use Rattle.reg_matrix.specs.Lists.{count}
use Rattle.reg_matrix.specs.Layout.{end_words, rest_words}
use Rattle.job.specs.Model.{Job}
use Rattle.job.specs.Layout.{load_limits}
use Rattle.allocator.specs.State.{State, Stage}
use Rattle.allocator.specs.Queue.{encode}

-- layout: 01, "Limits": what a call on a loaded stage is lent: the job's buffers, the table's, the queue's 1,024 words and the last registers of 512
-- sets
abbrev pub stage_limits : List ℕ
stage_limits = load_limits ++ (1024 ∷ 512 ∷ [])

-- layout: the greater of each two neighbours
unfoldable pub pair_max : List ℕ → List ℕ
pair_max [] = []
pair_max (a ∷ []) = a ∷ []
pair_max (a ∷ b ∷ xs) = max a b ∷ pair_max xs

-- layout: n rounds of that, the last round first, and then the list
unfoldable pub rounds : ℕ → List ℕ → List ℕ
rounds zero ks = ks
rounds (suc n) ks = rounds n (pair_max ks) ++ ks

-- layout: a key plus one: number 0 at stage Split, with no hints and size 0, has the key 0, and 0 says that v is not queued
abbrev pub key_word : Job → ℕ → Option Stage → ℕ
key_word j v none = 0
key_word j v (some q) = encode j v q + 1

-- layout: 01, "Queue". Word 512 + v is the key of v plus one, or 0 where v is not queued; word i from 1 to 511 is the greater of the words 2 i and 2
-- i + 1
unfoldable pub queue_words : Job → State → List ℕ
queue_words j s = 0 ∷ rounds 9 (map (λ v. key_word j v (get_or s.queued v none)) (count 0 512))

-- layout: a register plus one, or 0 for none
abbrev pub last_word : Option ℕ → ℕ
last_word none = 0
last_word (some r) = r + 1

-- layout: 01, "Candidates", the register last given to each set
unfoldable pub last_words : State → List ℕ
last_words s = map (λ t. last_word (get_or s.last t none)) (count 0 512)

-- layout: the buffers that calls change
pub record StateBuffers : Type 0 where
  pub ends : List ℕ
  pub rests : List ℕ
  pub queue : List ℕ
  pub last : List ℕ

-- layout: the content of each
unfoldable pub state_buffers : Job → State → StateBuffers
state_buffers j s = record { ends = end_words s.table; rests = rest_words s.table; queue = queue_words j s; last = last_words s }
