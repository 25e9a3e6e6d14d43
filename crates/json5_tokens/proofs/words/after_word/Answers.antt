use Rattle.std.proofs.Common.{◌≡◌, ◌++◌, ap, sym, ◌∙◌, subst, refl, rules, drop, length}
use Rattle.std.specs.Str.{IsUtf8, chars}
use Rattle.std.proofs.lemmas.List.{take-append-drop}
use Rattle.std.proofs.lemmas.Str.{chars-append, IsUtf8-drop}
use Rattle.json5_tokens.proofs.words.after_word.Goals as goal

pub returns : goal.returns
returns c =
    let word = c.args.word.now in
    let text = c.args.text.now in
    let same : c.in_ok-front.front.now ≡ word = search rules in
    let back : IsUtf8 c.in_ok-front.rest.now = subst IsUtf8 (sym c.in_ok-front.ensures.back) (IsUtf8-drop text (length word) c.utf8.text (c.in_ok-front.ensures.variant.0 refl)) in
    let whole : text ≡ word ++ c.in_ok-front.rest.now =
    sym (take-append-drop (length word) text) ∙ ap (λ z. z ++ drop (length word) text) (sym c.in_ok-front.ensures.front ∙ same) ∙ ap (λ z. word ++ z) (sym c.in_ok-front.ensures.back) in
    record { split = ap chars whole ∙ chars-append word c.in_ok-front.rest.now c.utf8.word; text_rest = back }
