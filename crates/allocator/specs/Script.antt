-- Scripts of calls and what they print (docs/SCRIPT.md): the form in which direct calls are compared with the Rust. Every call is lent full
-- buffers. Assumes nothing.
use Rattle.std.specs.Prelude.{ℕ, zero, suc, List, [], ◌∷◌, ◌++◌, Bool, true, false, cond, ltb, eqb, length, take, drop}
use Rattle.std.proofs.Math.Option.{Option, none, some}
use Rattle.std.specs.Float.{binary32}
use Rattle.std.specs.Float.Ieee.{of_bits, to_bits}
use Rattle.reg_matrix.specs.Lists.{ascii, insert_by, concat_map, count}
use Rattle.reg_matrix.specs.Lines.{number, sp, line, refused_line, table_lines, report_line}
use Rattle.reg_matrix.specs.Questions.{Checked, not_checked, checked, check_limits, ask_check, Spared, not_asked, is_spare, table_limits, ask_spare}
use Rattle.reg_matrix.specs.declared.ValueSegment.{ValueSegment}
use Rattle.job.specs.Model.{Job}
use Rattle.job.specs.Parser.{Parsed, refused, parsed, Parser, ◌>>=◌, done, each, little}
use Rattle.job.specs.Load.{Loaded, not_loaded, loaded}
use Rattle.allocator.specs.State.{State, Stage, Assignment, Assigned, Unassigned, Dead, record_of, fresh_state}
use Rattle.allocator.specs.Queue.{encode}
use Rattle.allocator.specs.Layout.{stage_limits}
use Rattle.allocator.specs.Calls.{load, Call, placing, evicting, running, Answer, refused as refused_by, placed, evicted, ended, answer_of, after}
use Rattle.allocator.specs.Sheet.{end_line}

-- docs/SCRIPT.md: a call that may change the stage; a check of segments on a register, in full or short form; whether a unit is spare over a range
pub data ScriptCall : Type 0 where
  calls : Call → ScriptCall
  checks : Bool → ℕ → List ValueSegment → ScriptCall
  asks_spare : ℕ → ValueSegment → ScriptCall

-- ---- reading: a call is a byte and its arguments

-- docs/SCRIPT.md: two points and what follows them
abbrev pub points : Parser ℕ → Parser ValueSegment
points value = do
  a ← little 4
  b ← little 4
  x ← value
  done (record { from = a; to = b; value = x })

-- docs/SCRIPT.md, 1: 01's direct placement
abbrev pub placing_call : Parser ScriptCall
placing_call = do
  v ← little 2
  r ← little 1
  w ← little 4
  done (calls (placing stage_limits v r (of_bits binary32 w)))

-- docs/SCRIPT.md, 2: 01's direct eviction
abbrev pub evicting_call : Parser ScriptCall
evicting_call = do
  v ← little 2
  done (calls (evicting stage_limits v))

-- docs/SCRIPT.md, 3: a run with a budget
abbrev pub running_call : Parser ScriptCall
running_call = do
  b ← little 4
  done (calls (running stage_limits b))

-- docs/SCRIPT.md, 4 and 5: a check, short or full
abbrev pub checking_call : Bool → Parser ScriptCall
checking_call full = do
  r ← little 1
  n ← little 1
  ss ← each (λ before. points (little 2)) n []
  done (checks full r ss)

-- docs/SCRIPT.md, 6: a spare question
abbrev pub spare_call : Parser ScriptCall
spare_call = do
  u ← little 1
  p ← points (done 0)
  done (asks_spare u p)

-- docs/SCRIPT.md: by the first byte; any refusal here means a bad script
abbrev pub call_of_kind : ℕ → Parser ScriptCall
call_of_kind k =
    cond (eqb k 1) placing_call
    (cond (eqb k 2) evicting_call
    (cond (eqb k 3) running_call
    (cond (eqb k 4) (checking_call false)
    (cond (eqb k 5) (checking_call true)
    (cond (eqb k 6) spare_call (λ s. refused 0))))))

-- docs/SCRIPT.md: a byte and its arguments
unfoldable pub script_call : Parser ScriptCall
script_call = do
  k ← little 1
  call_of_kind k

-- ---- the state, printed

-- docs/SCRIPT.md: the evicted-for-preference flag
abbrev pub flag_text : Bool → List ℕ
flag_text true = ascii " 1"
flag_text false = ascii " 0"

-- docs/SCRIPT.md: a record as 01's `Assignment` has it
abbrev pub record_text : Assignment → List ℕ
record_text (Assigned f r w) = ascii " assigned" ++ flag_text f ++ sp (number r) ++ sp (number (to_bits binary32 w))
record_text (Unassigned f) = ascii " unassigned" ++ flag_text f
record_text Dead = ascii " dead"

-- docs/SCRIPT.md: `s N ..`
abbrev pub record_line : State → ℕ → List ℕ
record_line s v = line (ascii "s " ++ number v ++ record_text (record_of s v))

-- docs/SCRIPT.md: keys, greatest first as in 01's "Queue"
unfoldable pub insert_key : List ℕ → ℕ → List ℕ
insert_key ks k = insert_by (λ k x. ltb x k) k ks

-- docs/SCRIPT.md: the key of v among those of the others, where it is queued
abbrev pub key_before : Job → ℕ → Option Stage → List ℕ → List ℕ
key_before j v none ks = ks
key_before j v (some q) ks = insert_key ks (encode j v q)

-- docs/SCRIPT.md: of the numbers from v on, who stand so in the queue
unfoldable pub queue_keys : Job → ℕ → List (Option Stage) → List ℕ
queue_keys j v [] = []
queue_keys j v (q ∷ qs) = key_before j v q (queue_keys j (suc v) qs)

-- docs/SCRIPT.md: ` SET:REGISTER`, where one was given
abbrev pub last_text : ℕ → Option ℕ → List ℕ → List ℕ
last_text t none more = more
last_text t (some r) more = sp (number t ++ ascii ":" ++ number r) ++ more

-- docs/SCRIPT.md: of the sets from t on
unfoldable pub last_texts : ℕ → List (Option ℕ) → List ℕ
last_texts t [] = []
last_texts t (r ∷ rs) = last_text t r (last_texts (suc t) rs)

-- docs/SCRIPT.md: records, queue, last registers and 01's entry lines
unfoldable pub state_lines : Job → State → List ℕ
state_lines j s =
    concat_map (record_line s) (count 0 (length j.virt_regs))
    ++ line (ascii "q" ++ concat_map (λ k. sp (number k)) (queue_keys j 0 s.queued))
    ++ line (ascii "l" ++ last_texts 0 s.last)
    ++ table_lines s.table

-- ---- what a call prints, and the state after it

-- docs/SCRIPT.md: what a call answers
abbrev pub answer_line : Answer → List ℕ
answer_line (refused_by n) = refused_line n
answer_line (placed r) = line (ascii "ok")
answer_line (evicted r) = line (ascii "ok")
answer_line (ended w n) = end_line w n

-- docs/SCRIPT.md: what a check answers
abbrev pub checked_lines : Checked → List ℕ
checked_lines (not_checked n) = refused_line n
checked_lines (checked rs) = line (ascii "check") ++ concat_map report_line rs

-- docs/SCRIPT.md: what a spare question answers
abbrev pub spared_line : Spared → List ℕ
spared_line (not_asked n) = refused_line n
spared_line (is_spare true) = line (ascii "spare")
spared_line (is_spare false) = line (ascii "busy")

-- docs/SCRIPT.md: questions change nothing
abbrev pub state_after : Job → State → ScriptCall → State
state_after j s (calls c) = after j s c
state_after j s (checks full r ss) = s
state_after j s (asks_spare u p) = s

-- docs/SCRIPT.md: the answer, and after a call that may change it the state
unfoldable pub said_by : Job → State → ScriptCall → List ℕ
said_by j s (calls c) = answer_line (answer_of j s c) ++ state_lines j (after j s c)
said_by j s (checks full r ss) = checked_lines (ask_check (check_limits (length ss)) j.regs j.fixed s.table full r ss)
said_by j s (asks_spare u p) = spared_line (ask_spare table_limits s.table u p)

-- docs/SCRIPT.md: of calls one after another
unfoldable pub said_by_all : Job → State → List ScriptCall → List ℕ
said_by_all j s [] = []
said_by_all j s (c ∷ cs) = said_by j s c ++ said_by_all j (state_after j s c) cs

-- ---- the transcript

-- docs/SCRIPT.md: of the calls that these bytes hold: at most n, as each takes a byte
unfoldable pub transcript_from : ℕ → Job → State → List ℕ → List ℕ
transcript_from zero j s bytes = []
transcript_from (suc n) j s [] = []
transcript_from (suc n) j s (b ∷ bytes) =
    elim (script_call (b ∷ bytes)) [
      | refused k ↦ line (ascii "bad script")
      | parsed c left ↦ said_by j s c ++ transcript_from n j (state_after j s c) left
    ]

-- docs/SCRIPT.md: of the calls on the job, where it loads
abbrev pub on_loaded : List ℕ → Loaded → List ℕ
on_loaded bytes (not_loaded n) = refused_line n
on_loaded bytes (loaded j) = transcript_from (length bytes) j (fresh_state j) bytes

-- docs/SCRIPT.md: a job's length, the job, and the calls
abbrev pub after_length : Parsed ℕ → List ℕ
after_length (refused k) = line (ascii "bad script")
after_length (parsed n bytes) = cond (ltb (length bytes) n) (line (ascii "bad script")) (on_loaded (drop n bytes) (load stage_limits (take n bytes)))

-- docs/SCRIPT.md: what a script prints
unfoldable pub transcript : List ℕ → List ℕ
transcript bytes = after_length (little 4 bytes)
