use Rattle.std.proofs.Common.{string_bytes, subst}
use Rattle.std.specs.Bool.{OnTrue}
use Rattle.std.specs.Str.{chars}
use Rattle.json5_grammar.specs.Language.Documents.{max_depth}
use Rattle.json5_types.specs.ValueMeanings.{value_of}
use Rattle.json5_edit.specs.Places.{IsValue}
use Rattle.json5_edit_values.proofs.ValuesSpelled.{means_alike}
use Rattle.json5_edit_values.proofs.json.json_of.Goals as goal

pub returns-then-is_value : goal.returns-then-is_value
returns-then-is_value c = λ t v.
    let single = subst (λ b. OnTrue b (IsValue max_depth (chars c.as_str.result.now))) c.if-is_value.true c.is_value.ensures in
    means_alike (chars c.args.written.now) (chars (string_bytes c.in_ok-json.json)) t (value_of c.in_ok-value.value) v c.in_ok-value.ensures.sound c.in_ok-json.ensures.3.reads_back (subst (λ z. IsValue max_depth (chars z)) c.as_str.ensures.value single)
