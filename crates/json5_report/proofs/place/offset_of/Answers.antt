use Rattle.std.proofs.lemmas.Str.{IsCharBoundary-end}
use Rattle.json5_report.proofs.place.offset_of.Goals as goal

pub returns-in-Some : goal.returns-in-Some
returns-in-Some c = let found = c.in-Some.ensures in record { boundary = found.boundary; at = λ h. found.at }

pub returns-in-None : goal.returns-in-None
returns-in-None c = record { boundary = IsCharBoundary-end c.args.text.now; at = λ h. absurd (c.in-None.ensures h) }
