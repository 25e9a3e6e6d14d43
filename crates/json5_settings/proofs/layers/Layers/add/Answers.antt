use Rattle.std.proofs.Common.{sym, subst}
use Rattle.std.specs.Str.{chars}
use Rattle.json5_grammar.specs.Language.Documents.{Doc, max_depth}
use Rattle.json5_settings.specs.Stacks.{AreDocuments}
use Rattle.json5_settings.specs.Texts.{layers_in}
use Rattle.json5_settings.proofs.Layered.{documents_more}
use Rattle.json5_settings.proofs.layers.Layers.add.Goals as goal

pub invariant_of-self-2 : goal.invariant_of-self-2
invariant_of-self-2 c =
    let (t, document) = c.in_ok-check_document.ensures.sound in
    let there = subst (λ z. Doc max_depth (chars z) t) (sym c.in_ok-from_str-2.ensures.ok) document in
    subst (λ z. AreDocuments (layers_in z)) (sym c.in_ok-push.ensures.items) (documents_more c.self.inside.layers.items _ c.self.invariant (t, there))
