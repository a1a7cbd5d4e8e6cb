-- What the reader of the probe range promises, in the terms of the parsers of Load.antt. Assumes nothing.
use Rattle.std.specs.Prelude.{ℕ, List, Bool}
use Rattle.std.proofs.Math.Option.{Option, none, some}
use Rattle.reg_matrix.specs.Refused.{number_of}
use Rattle.reg_matrix.specs.declared.Refusal.{Refusal}
use Rattle.reg_matrix.specs.declared.ValueSegment.{ValueSegment}
use Rattle.std.specs.Prelude.{Option as Maybe, Some, None, Result, Ok, Err}
use Rattle.job.specs.Parser.{Parser, Parsed, refused, parsed, done, if_bit, ◌>>=◌}
use Rattle.job.specs.Load.{range}

abbrev pub probe_field : Bool → Parser (Option ValueSegment)
probe_field stands = if_bit stands none (do r ← range 0 (done 0); done (some r))

abbrev pub range_of : Maybe (ℕ × ℕ) → Option ValueSegment
range_of None = none
range_of (Some (a, b)) = some (record { from = a; to = b; value = 0 })

abbrev pub probe_view : List ℕ → Result (Maybe (ℕ × ℕ)) Refusal → Parsed (Option ValueSegment)
probe_view l (Ok p) = parsed (range_of p) l
probe_view l (Err r) = refused (number_of r)
