use Rattle.std.proofs.Common.{subst, string_bytes}
use Rattle.std.specs.Str.{chars}
use Rattle.json5_grammar.specs.Language.Values.{Val}
use Rattle.json5_edit.proofs.Placed.{ok_then}
use Rattle.json5_edit_values.proofs.PatchesMade.{pushed_by}
use Rattle.json5_edit_values.proofs.patch.adding.push_at.Goals as goal

pub returns : goal.returns
returns c =
    ok_then c.push.result (λ made k. pushed_by c.args.new c.args.text.now c.as_str.result.now (string_bytes made) c.args.steps.now (λ v w. c.in_ok-value.ensures v (subst (λ z. Val (chars z) v) c.as_str.ensures.value w)) k) c.push.ensures.made
