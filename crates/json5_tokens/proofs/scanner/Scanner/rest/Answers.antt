use Rattle.std.proofs.Common.{drop, ap, sym, ◌∙◌, subst}
use Rattle.std.specs.Str.{chars, IsCharBoundary}
use Rattle.json5_tokens.specs.Cursor.{Cursor}
use Rattle.json5_tokens.proofs.TextCuts.{same_text}
use Rattle.json5_tokens.proofs.scanner.Scanner.rest.Goals as goal

pub range_from-requires : goal.range_from-requires
range_from-requires g c =
    let same = same_text c.args.text.now _ c.utf8.text c.self.invariant.is_text (c.requires ∙ sym (ap (λ (s : Cursor). s.input) c.self.view_is)) in
    λ inside. subst (λ z. IsCharBoundary z c.self.inside.offset) (sym same) c.self.invariant.cut

pub returns : goal.returns
returns g c =
    let same = same_text c.args.text.now _ c.utf8.text c.self.invariant.is_text (c.requires ∙ sym (ap (λ (s : Cursor). s.input) c.self.view_is)) in
    ap chars (c.range_from.ensures.value ∙ ap (drop c.self.inside.offset) same) ∙ ap (λ (s : Cursor). s.unread) c.self.view_is
