use Rattle.std.proofs.Common.{sym, subst}
use Rattle.std.specs.Bool.{OnTrue}
use Rattle.std.specs.Str.{chars}
use Rattle.json5_grammar.specs.Language.Values.{Val}
use Rattle.json5_edit_values.proofs.laid_out.laid_out.Goals as goal

pub returns-then-lays_out : goal.returns-then-lays_out
returns-then-lays_out c = λ t v.
    let spelled = subst (λ z. Val (chars z) t) (sym c.as_str-3.ensures.value) v in
    subst (λ z. Val (chars z) t) c.as_str-4.ensures.value (subst (λ b. OnTrue b (Val (chars c.as_str-4.result.now) t)) c.if-lays_out.true (c.lays_out.ensures t spelled))
