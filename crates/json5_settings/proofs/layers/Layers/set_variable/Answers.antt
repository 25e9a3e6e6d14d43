use Rattle.std.proofs.Common.{◌∙◌, ◌++◌, ap, refl, sym}
use Rattle.json5_settings.proofs.MembersMade.{words_set}
use Rattle.json5_settings.proofs.layers.Layers.set_variable.Goals as goal

pub returns-in-None : goal.returns-in-None
returns-in-None c = (refl, λ words. c.in-None.ensures.cases words)

pub returns-in-Some : goal.returns-in-Some
returns-in-Some c =
    let (n, (long, split, at), rest, count) = c.in-Some.ensures.cases in
    words_set c.args.prefix.now c.args.name.now c.in-Some.words.now c.args.value.now _ _ c.set_words.result (split ∙ ap (λ l. c.args.prefix.now ++ l) (sym rest)) c.set_words.ensures
