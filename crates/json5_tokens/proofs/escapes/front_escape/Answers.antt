use Rattle.std.proofs.Common.{◌∷◌, ◌∙◌, ap}
use Rattle.std.specs.Str.{chars}
use Rattle.json5_tokens.proofs.ShortEscapes.{alone_there, unicode_there}
use Rattle.json5_tokens.proofs.escapes.front_escape.Goals as goal

pub returns-then-c-eq117 : goal.returns-then-c-eq117
returns-then-c-eq117 c =
    let after = c.in_ok-sign.after.now in
    let digits = c.in_ok-c.rest.now in
    unicode_there c.args.text.now after digits c.short_unicode.result (c.in_ok-sign.ensures.chars ∙ ap (λ z. z ∷ chars after) c.if-sign-ne92.false) (c.in_ok-c.ensures.chars ∙ ap (λ z. z ∷ chars digits) c.if-c-eq117.true)
    c.short_unicode.ensures

pub returns : goal.returns
returns c =
    let after = c.in_ok-sign.after.now in
    alone_there c.args.text.now after c.in_ok-c.rest.now c.in_ok-c.c c.in_ok-spelled.spelled (c.in_ok-sign.ensures.chars ∙ ap (λ z. z ∷ chars after) c.if-sign-ne92.false) c.in_ok-c.ensures.chars c.in_ok-c.ensures.text
    c.in_ok-spelled.ensures
