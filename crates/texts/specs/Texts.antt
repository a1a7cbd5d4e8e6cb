-- A text that code has stored in a line, piece by piece, as far as the line has room. Assumes nothing.
use Rattle.std.specs.Prelude.{ℕ, ◌+◌, ◌≤◌, ◌<◌, ◌≡◌, ◌⊎◌, List, length}
use Rattle.std.proofs.lemmas.List.Edits.{sets}
use Rattle.texts.specs.declared.Line.{Line}

-- of a line as it was, a place and a text: how the line is afterwards, with the text from that place on, and which place comes next: that behind the
-- text, or, where the text has no room, one where nothing has
pub record Stored (s : List ℕ) (at : ℕ) (text : List ℕ) (t : List ℕ) (next : ℕ) : Type 0 where
  pub line : t ≡ sets s at text
  pub place : ((at + length text ≤ length s) × (next ≡ at + length text)) ⊎ ((length s < at + length text) × (length s ≤ next))

-- a text that a `Line` has stored at its place
abbrev pub StoredIn : Line → List ℕ → Line → Type 0
StoredIn before text after = Stored before.bytes.now before.at text after.bytes.now after.at
