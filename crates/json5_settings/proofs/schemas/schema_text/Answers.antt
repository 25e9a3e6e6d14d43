use Rattle.std.proofs.Common.{◌≡◌, ap, ◌∙◌, refl, subst, string_bytes}
use Rattle.std.specs.Str.{chars}
use Rattle.json5_grammar.specs.Language.Documents.{max_depth}
use Rattle.json5_styles.specs.LaidBack.{ReadsAs}
use Rattle.json5_types.specs.ValueMeanings.{value_of, object}
use Rattle.json5_types.specs.declared.value.Value as value
use Rattle.json5_types.proofs.ValuesCompared.{view-Object}
use Rattle.json5_styles.proofs.TextsBack.{json_back}
use Rattle.json5_settings.specs.Schemas.{schema_of}
use Rattle.json5_settings.proofs.SlipsSeen.{if_ok_then}
use Rattle.json5_settings.proofs.SchemasMade.{schema_chars}
use Rattle.json5_settings.proofs.schemas.schema_text.Goals as goal

pub returns-clause-is_json : goal.returns-clause-is_json
returns-clause-is_json c = (json_back _ _ _ c.to_json.ensures).0

pub returns-clause-reads_back : goal.returns-clause-reads_back
returns-clause-reads_back c =
    let means : value_of (value.Object c.put_in_front.new.parts) ≡ schema_of c.args.comments.now (value_of c.args.value.now) =
    view-Object c.put_in_front.new.parts ∙ ap object (c.in_ok-put_in_front.ensures ∙ rw (schema_chars, c.in_ok-parts.ensures) refl) in
    if_ok_then c.to_json.result (json_back _ _ _ c.to_json.ensures).1 (λ made reads. subst (λ x. ReadsAs max_depth (chars (string_bytes made)) x) means reads)
