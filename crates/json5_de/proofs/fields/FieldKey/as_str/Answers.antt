use Rattle.json5_tokens.proofs.TextTokens.{slice_starts, slice_ends}
use Rattle.json5_de.proofs.fields.FieldKey.as_str.Goals as goal

pub range-requires-clause-start_boundary : goal.range-requires-clause-start_boundary
range-requires-clause-start_boundary g c = λ past.
    let (u, at) = rw c.in-Some.is at c.self.invariant in
    slice_starts c.as_text.result.now u c.in-Some.span.start c.in-Some.span.end c.as_text.utf8 (rw c.as_text.ensures at)

pub range-requires-clause-end_boundary : goal.range-requires-clause-end_boundary
range-requires-clause-end_boundary g c =
    let (u, at) = rw c.in-Some.is at c.self.invariant in
    slice_ends c.as_text.result.now u c.in-Some.span.start c.in-Some.span.end c.as_text.utf8 (rw c.as_text.ensures at)
