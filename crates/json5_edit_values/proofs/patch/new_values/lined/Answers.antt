use Rattle.std.proofs.Common.{subst, sym}
use Rattle.std.specs.Bool.{OnTrue}
use Rattle.std.specs.Str.{chars}
use Rattle.json5_grammar.specs.Language.Values.{Val}
use Rattle.json5_edit.proofs.Placed.{ok_then}
use Rattle.json5_edit_values.proofs.patch.new_values.lined.Goals as goal

pub returns-then-lays_out : goal.returns-then-lays_out
returns-then-lays_out c = λ v w.
    subst (λ b. OnTrue b (Val (chars c.args.part.now) v)) c.if-lays_out.true (c.lays_out.ensures v (subst (λ z. Val (chars z) v) (sym c.as_str.ensures.value) w))

pub returns : goal.returns
returns c = ok_then c.owned.result (λ made e v w. subst (λ z. Val (chars z) v) e w) c.owned.ensures.made
