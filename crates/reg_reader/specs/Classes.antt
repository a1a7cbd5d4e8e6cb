-- What reading the classes promises, in the terms of the parser: the same refusal, or how many classes and members there are, and what is stored.
-- Assumes nothing.
use Rattle.std.specs.Prelude.{ℕ, ◌≤◌, ◌≡◌, List, length, Result, Ok, Err}
use Rattle.reg_matrix.specs.Refused.{number_of}
use Rattle.reg_matrix.specs.declared.Refusal.{Refusal}
use Rattle.job.specs.Parser.{Parsed, refused, parsed}
use Rattle.reader.specs.Read.{all_members}

abbrev pub ClassesOut : List ℕ → Parsed (List (List ℕ)) → Result (ℕ × ℕ) Refusal → (List (List ℕ) → Type 0) → Type 0
ClassesOut l p (Err r) stored = p ≡ refused (number_of r)
ClassesOut l p (Ok (n, k)) stored =
    (cs : List (List ℕ)) × (p ≡ parsed cs l) × (length cs ≡ n) × (length (all_members cs) ≡ k) × (k ≤ 1024) × stored cs
