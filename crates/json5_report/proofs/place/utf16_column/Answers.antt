use Rattle.std.proofs.Common.{◌≡◌, ◌-◌, take, subst, arith}
use Rattle.std.specs.Str.{chars}
use Rattle.std.proofs.lemmas.Str.{IsCharBoundary-start}
use Rattle.json5_tokens.specs.Places.{AreUnitsOfLine}
use Rattle.json5_report.proofs.place.utf16_column.Goals as goal

pub returns-in-Some : goal.returns-in-Some
returns-in-Some c inside =
    let whole : c.args.offset - 0 ≡ c.args.offset = omega arith in
    subst (λ k. AreUnitsOfLine (chars (take k c.args.text.now)) c.utf16_units.result) whole (subst (λ front. AreUnitsOfLine (chars front) c.utf16_units.result) c.in-Some.ensures.cases.0 c.utf16_units.ensures)

pub returns-in-None : goal.returns-in-None
returns-in-None c inside = absurd (c.in-None.ensures.cases (omega arith) (IsCharBoundary-start c.args.text.now c.utf8.text) inside)
