-- Lists of calls in lent numbers: which calls the words are, and what carrying them out one after another leaves and answers (document 01, "Order",
-- "Holding"). Assumes nothing.
use Rattle.std.specs.Prelude.{ℕ, ◌/◌, ◌≡◌, List, [], ◌∷◌, Bool, true, false, cond, ◌&&◌, ltb, leb, eqb, length, Option, Some, None, Result, Ok, Err}
use Rattle.std.specs.Float.{binary32}
use Rattle.std.specs.Float.Ieee.{of_bits}
use Rattle.std.proofs.lemmas.List.Edits.{sets}
use Rattle.reg_matrix.specs.Lists.{concat_map, foldl}
use Rattle.reg_matrix.specs.declared.Refusal.{Refusal}
use Rattle.job.specs.Model.{Job}
use Rattle.job.specs.Layout.{JobSlices, header_of, lists_in}
use Rattle.job.specs.declared.JobHeader.{JobHeader}
use Rattle.allocator.specs.declared.Assignment.{Assignment}
use Rattle.allocator.specs.State.{State}
use Rattle.allocator.specs.Layout.{StateBuffers}
use Rattle.allocator.specs.Calls.{Call, placing, evicting, running, Answer, refused, placed, evicted, ended, answer_of, after, answers}
use Rattle.allocator.specs.Reached.{Reached}
use Rattle.moves.specs.Standing.{JobStands}
use Rattle.narrow.specs.Cut.{cut}
use Rattle.run_loop.specs.Running.{ending_number}
use Rattle.calls.specs.Calling.{refusal_number, value_number, sizes_of, StateStands, Called}
use Rattle.calls.specs.Trace.{Trace}
use Rattle.call_lists.specs.declared.lists.CallAnswer.{CallAnswer}
use Rattle.call_lists.specs.declared.lists.CallAnswer.TheVariants.{Placed, Evicted, Ran}
use Rattle.call_lists.specs.declared.lists.ListedCall.{ListedCall}
use Rattle.call_lists.specs.declared.lists.ListedCall.TheVariants.{Place, Evict, Run}

-- ---- a call in four words: its kind, a number or a budget, a register, the bits of a weight. What a kind does not need is not read.

-- kind 1 places, 2 evicts, 3 runs
unfoldable pub call_of : List ℕ → ℕ → ℕ → ℕ → ℕ → Call
call_of lent k n r w =
    cond (eqb k 1) (placing lent (cut 65535 n) (cut 255 r) (of_bits binary32 (cut 0xFFFF_FFFF w)))
    (cond (eqb k 2) (evicting lent (cut 65535 n)) (running lent n))

abbrev pub is_kind : ℕ → Bool
is_kind k = leb 1 k && leb k 3

-- ---- the calls of a list, which ends where fewer than four words are left, or at a word that is no kind

unfoldable pub calls_in : List ℕ → List ℕ → List Call
calls_in lent [] = []
calls_in lent (k ∷ []) = []
calls_in lent (k ∷ n ∷ []) = []
calls_in lent (k ∷ n ∷ r ∷ []) = []
calls_in lent (k ∷ n ∷ r ∷ w ∷ more) = cond (is_kind k) (call_of lent k n r w ∷ calls_in lent more) []

-- ---- what the code reads: the call at the front of a list, with its numbers cut to what they count

unfoldable pub listed_by : ℕ → ℕ → ℕ → ℕ → Option ListedCall
listed_by k n r w =
    cond (eqb k 1) (Some (Place (record { v = cut 65535 n; reg = cut 255 r; weight = cut 0xFFFF_FFFF w })))
    (cond (eqb k 2) (Some (Evict (cut 65535 n))) (cond (eqb k 3) (Some (Run n)) None))

unfoldable pub listed : List ℕ → Option ListedCall
listed [] = None
listed (k ∷ []) = None
listed (k ∷ n ∷ []) = None
listed (k ∷ n ∷ r ∷ []) = None
listed (k ∷ n ∷ r ∷ w ∷ more) = listed_by k n r w

-- the rules' call that it is, with these sizes lent
abbrev pub call_in : List ℕ → ListedCall → Call
call_in lent (Place asked) = placing lent asked.v asked.reg (of_bits binary32 asked.weight)
call_in lent (Evict v) = evicting lent v
call_in lent (Run budget) = running lent budget

-- ---- an answer in three numbers

abbrev pub word_number : Answer → ℕ
word_number (refused n) = 0
word_number (placed r) = 0
word_number (evicted r) = 0
word_number (ended e n) = ending_number e

-- the refusal's number or 0; the word's number or 0; the register given or taken away, or the dequeues
abbrev pub numbers_of : Answer → List ℕ
numbers_of a = refusal_number a ∷ word_number a ∷ value_number a ∷ []

-- ---- the code's answer of one call

-- the number of a run's word or 0, and the register given or taken away, or the dequeues
abbrev pub answer_numbers : CallAnswer → ℕ × ℕ
answer_numbers (Placed r) = (0, r)
answer_numbers (Evicted r) = (0, r)
answer_numbers (Ran end) = (ending_number end.ending, end.dequeues)

module _ {A : Type 0} where
  -- the word's number or 0
  abbrev pub word_in : Result (A × CallAnswer) Refusal → ℕ
  word_in (Ok (a, x)) = (answer_numbers x).0
  word_in (Err r) = 0

  -- the register given or taken away, or the dequeues, or 0
  abbrev pub value_in : Result (A × CallAnswer) Refusal → ℕ
  value_in (Ok (a, x)) = (answer_numbers x).1
  value_in (Err r) = 0

-- ---- what is done

-- a call that answered n, the word's number e and the value x. Of any content it is a call of a trace
pub record CallAnswered (header : JobHeader) (B : JobSlices) (c : Call)
    (S : StateBuffers) (rs : List Assignment) (S' : StateBuffers) (rs' : List Assignment) (n e x : ℕ) : Type 0 where
  pub called : Called header B c S rs S' rs' n
  pub numbers :
      (j : Job) (s : State) (t : StateBuffers)
      → Reached j s
      → JobStands j (lists_in B)
      → header ≡ header_of j
      → StateStands j s t S rs
      → (e ≡ word_number (answer_of j s c)) × (x ≡ value_number (answer_of j s c))

-- the same, with its three numbers stored in A from place `to` on
pub record CallStored (header : JobHeader) (B : JobSlices) (c : Call)
    (S : StateBuffers) (rs : List Assignment) (S' : StateBuffers) (rs' : List Assignment) (A : List ℕ) (to : ℕ) (A' : List ℕ) : Type 0 where
  pub n : ℕ
  pub e : ℕ
  pub x : ℕ
  pub answered : CallAnswered header B c S rs S' rs' n e x
  pub stored : A' ≡ sets A to (n ∷ e ∷ x ∷ [])

-- A list of calls, from S and rs to S' and rs'. Of any content: all its calls are made, each on what the last one left. On a state that calls reach:
-- the state after the list stands there, and A has the numbers of the answers from its front on, three for each call.
pub record ListDone (header : JobHeader) (B : JobSlices) (list : List ℕ)
    (S : StateBuffers) (rs : List Assignment) (A : List ℕ) (S' : StateBuffers) (rs' : List Assignment) (A' : List ℕ) (done : ℕ) : Type 0 where
  pub counted : done ≡ length (calls_in (sizes_of B S) list)
  pub traced : Trace header B S rs (calls_in (sizes_of B S) list) S' rs'
  pub reached :
      (j : Job) (s : State) (t : StateBuffers)
      → Reached j s
      → JobStands j (lists_in B)
      → header ≡ header_of j
      → StateStands j s t S rs
      → StateStands j (foldl (after j) s (calls_in (sizes_of B S) list)) t S' rs'
      × (A' ≡ sets A 0 (concat_map numbers_of (answers j s (calls_in (sizes_of B S) list))))

-- three numbers have no room for each four words of the list
abbrev pub no_room : List ℕ → List ℕ → Bool
no_room A list = ltb (length A / 3) (length list / 4)

-- 15 alone, with nothing changed, where the answers have no room; else the list is carried out
pub record ListCarriedOut (header : JobHeader) (B : JobSlices) (list : List ℕ)
    (S : StateBuffers) (rs : List Assignment) (A : List ℕ) (S' : StateBuffers) (rs' : List Assignment) (A' : List ℕ) (refusal done : ℕ) : Type 0 where
  pub short : no_room A list ≡ true → (refusal ≡ 15) × (done ≡ 0) × (S' ≡ S) × (rs' ≡ rs) × (A' ≡ A)
  pub carried : no_room A list ≡ false → (refusal ≡ 0) × ListDone header B list S rs A S' rs' A' done
