use Rattle.std.proofs.Common.{◌≡◌, [], ◌∷◌, ap, sym, ◌∙◌, rules}
use Rattle.std.specs.Prelude.{string_bytes}
use lib.Chars.{codes}
use Rattle.cli_edit.proofs.WordsTaken.{no_strings, two_names}
use Rattle.cli_edit.proofs.requests.choice_of.Goals as goal

pub returns-in-Some-split_first : goal.returns-in-Some-split_first
returns-in-Some-split_first c =
    let one : c.args.rest.now ≡ c.in-Some.word.now ∷ c.in-Some.more.now = search rules in
    let two : c.in-Some.more.now ≡ c.in-Some-split_first.key.now ∷ c.in-Some-split_first.more.now = search rules in
    let none : c.in-Some-split_first.more.now ≡ [] = no_strings c.in-Some-split_first.more.now (sym c.is_empty.ensures ∙ c.if-is_empty.true) in
    let said : string_bytes c.in-Some.word.now ≡ codes "--before" = search rules in
    two_names c.args.rest.now c.in-Some.more.now c.in-Some-split_first.more.now c.in-Some.word.now c.in-Some-split_first.key.now one two none said
    ∙ ap (λ z. codes "--before" ∷ z ∷ []) (sym c.as_str-in-Some-split_first.ensures.value)
