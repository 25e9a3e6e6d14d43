use Rattle.std.proofs.Common.{◌≡◌, ◌∙◌, ◌++◌, ap, sym}
use Rattle.std.specs.Char.{encode_utf8}
use Rattle.json5_tokens.specs.Cursor.{Cursor}
use Rattle.json5_lexemes.proofs.RunsPassed.{char_taken}
use Rattle.json5_lexemes.proofs.rest.Rest.eat.Goals as goal

pub returns-clause-taken : goal.returns-clause-taken
returns-clause-taken c = λ t.
    let whole : c.self.inside.text.now ≡ encode_utf8 c.in-Some.next ++ c.as_str-self-inside.result.now = sym c.chars-rest.ensures.rest ∙ c.in-Some.ensures.steps.0 ∙ ap (λ z. encode_utf8 c.in-Some.next ++ z) (sym c.as_str-self-inside.ensures) in
    ap (λ (z : Cursor). z.unread) (sym c.self.view_is) ∙ char_taken c.self.inside.text.now c.as_str-self-inside.result.now c.in-Some.next c.args.c c.ranges.c.0 c.if-next-c.false c.as_str-self-inside.utf8 whole
