use Rattle.std.proofs.Common.{ap, sym, ◌∙◌, subst}
use Rattle.std.specs.Str.{chars}
use Rattle.json5_tokens.specs.Cursor.{Cursor}
use Rattle.json5_tokens.specs.TextTokens.{IsSliceAt}
use Rattle.json5_tokens.proofs.TextTokens.{stands_between}
use Rattle.json5_tokens.proofs.scanner.Scanner.borrowed_text_of_span.Goals as goal

pub returns : goal.returns
returns g c = λ u at.
    let span = c.args.span in
    let there = subst (λ x. IsSliceAt x u span.start span.end) (sym (ap (λ (s : Cursor). s.input) c.self.view_is) ∙ ap chars c.as_borrowed.ensures) at in
    ap (λ x. x.now) c.unwrap_or.ensures ∙ stands_between c.as_borrowed.result.now u span.start span.end c.get.result _ c.as_borrowed.utf8 c.get.ensures.cases there
