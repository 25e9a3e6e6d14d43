use Rattle.std.proofs.Common.{◌≡◌, true, false, ◌∷◌, ap, sym, ◌∙◌}
use Rattle.std.specs.Str.{chars}
use Rattle.std.proofs.lemmas.Str.{chars_past_char}
use Rattle.json5_de.specs.Convert.{one_character}
use Rattle.json5_de.proofs.InputEnds.{peeked, some_left, none_left}
use Rattle.json5_de.proofs.de.strings.only_character.Goals as goal

pub returns-then-is_some : goal.returns-then-is_some
returns-then-is_some c =
    let rest = c.next.new.self.rest.now in
    let whole : chars c.args.text.now ≡ c.in_ok-first.first ∷ chars rest = chars_past_char c.args.text.now rest c.in_ok-first.first c.utf8.text (sym c.chars-rest.ensures.rest ∙ c.in_ok-first.ensures.steps.0) in
    let (d, r, more) = some_left (chars rest) (peeked (chars rest) c.next-2.result c.is_some.result true c.if-is_some.true c.is_some.ensures c.next-2.ensures.steps.2) in
    ap (λ x. one_character x false) (whole ∙ ap (λ y. c.in_ok-first.first ∷ y) more)

pub returns : goal.returns
returns c =
    let rest = c.next.new.self.rest.now in
    let whole : chars c.args.text.now ≡ c.in_ok-first.first ∷ chars rest = chars_past_char c.args.text.now rest c.in_ok-first.first c.utf8.text (sym c.chars-rest.ensures.rest ∙ c.in_ok-first.ensures.steps.0) in
    let none = none_left (chars rest) (peeked (chars rest) c.next-2.result c.is_some.result false c.if-is_some.false c.is_some.ensures c.next-2.ensures.steps.2) in
    ap (λ x. one_character x false) (whole ∙ ap (λ y. c.in_ok-first.first ∷ y) none)
