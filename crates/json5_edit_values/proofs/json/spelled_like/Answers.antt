use Rattle.std.proofs.Common.{subst, sym}
use Rattle.std.specs.Str.{chars}
use Rattle.json5_grammar.specs.Language.Values.{Val}
use Rattle.json5_edit_values.proofs.json.spelled_like.Goals as goal

pub returns-in-Ok : goal.returns-in-Ok
returns-in-Ok c = λ t v.
    let (u, spells, means) = c.in-Ok.ensures t (subst (λ z. Val (chars z) t) (sym c.as_str-2.ensures.value) v) in
    (u, spells, means, λ no. absurd (no (c.is_plain.ensures.0 c.if-not-is_plain.false)))
