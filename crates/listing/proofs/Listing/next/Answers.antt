use mathlib.Core.Path.{refl}
use Rattle.lines.specs.LineTexts.{sheet_of}
use Rattle.listing.proofs.LineLaws.{front_answered}
use Rattle.listing.proofs.Listing.next.Goals as goal

pub returns-in-Some : goal.returns-in-Some
returns-in-Some c =
    let first = c.in-Some.ensures.cases in
    front_answered c.args.self c.args.assignment (sheet_of c.args.sheet) c.args.line.now first.enough first.same c.next_line.ensures refl
