use Rattle.std.proofs.Common.{◌≡◌, ap, subst, ◌∙◌}
use Rattle.std.specs.Prelude.{MatchResult}
use Rattle.std.specs.Str.{chars}
use Rattle.json5_types.specs.Errors.{LacksMemory}
use Rattle.json5_types.specs.ValueMeanings.{text, value_of}
use Rattle.json5_macro.proofs.PartsAdded.{one_char}
use Rattle.json5_macro.proofs.to_value.CharToValue.to_value.Goals as goal

pub returns : goal.returns
returns c =
    subst (λ t. MatchResult c.text.result (λ v. value_of v ≡ text t) LacksMemory) (ap chars c.encode_utf8.ensures.value ∙ one_char c.args.self c.ranges.self.0) c.text.ensures
