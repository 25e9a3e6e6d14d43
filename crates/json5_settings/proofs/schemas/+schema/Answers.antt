use Rattle.std.proofs.Common.{◌≡◌, rules, ap, ◌∙◌, refl, ◌∷◌, ◌++◌, take, string_bytes}
use Rattle.std.specs.Prelude.{codes}
use Rattle.std.proofs.lemmas.List.{take_more}
use Rattle.json5_types.specs.ValueMeanings.{value_of, fields_view, object}
use Rattle.json5_types.specs.declared.value.Value as value
use Rattle.json5_types.proofs.ValuesCompared.{view-Array, view-Object}
use Rattle.json5_settings.specs.Schemas.{part_inside, schema_parts, member_path, member_schemas}
use Rattle.json5_settings.proofs.SlipsSeen.{if_ok_then}
use Rattle.json5_settings.proofs.SchemasMade.{default_inside, description_chars, type_chars, items_chars, properties_chars, one_schema_more}
use Rattle.json5_settings.proofs.schemas.+schema.Goals as goal
use Rattle.json5_settings.proofs.schemas.+schema.Goals.{parts_at-in-Array+in_ok-parts-in-Array, parts_at-in-Object+in_ok-schemas-in-Object+in_ok-parts-in-Object, parts_at-in-Null+in_ok-parts-in-Null}

pub parts_at-returns : goal.parts_at-returns
parts_at-returns t c =
    let cs = c.args.comments.now in
    let at = c.args.at.now in
    let inside : fields_view c.match-value.parts.items ≡ part_inside cs at (value_of c.args.value.now) = elim c.match-value.branch [
      | parts_at-in-Array+in_ok-parts-in-Array w ↦
          ap (λ v. fields_view v.items) w.parts-is ∙ w.in_ok-parts-in-Array.ensures
          ∙ rw (w.in-Array.is, view-Array w.in-Array.items, ← w.deref.ensures.value) refl
      | parts_at-in-Object+in_ok-schemas-in-Object+in_ok-parts-in-Object w ↦
          ap (λ v. fields_view v.items) w.parts-is ∙ w.in_ok-parts-in-Object.ensures
          ∙ rw (properties_chars, view-Object w.in_ok-schemas-in-Object.schemas, w.in_ok-schemas-in-Object.ensures, w.deref-in-Object.ensures.value, w.in-Object.is, view-Object w.in-Object.fields) refl
      | parts_at-in-Null+in_ok-parts-in-Null w ↦
          ap (λ v. fields_view v.items) w.parts-is ∙ w.in_ok-parts-in-Null.ensures
          ∙ default_inside cs at c.args.value.now w.in-Null.is
    ] in
    c.in_ok-put_in_front-2.ensures ∙ rw (description_chars, c.words_at.ensures, c.in_ok-put_in_front.ensures, type_chars, c.type_of.ensures, inside) refl

pub parts_of_first-returns : goal.parts_of_first-returns
parts_of_first-returns t c =
    let path : string_bytes c.in_ok-path.path ≡ c.args.at.now ++ codes "[0]" = c.in_ok-path.ensures.ok in
    let first : c.args.items.now ≡ c.in-Some.first.now ∷ c.in-Some.field-0-1.now = c.in-Some.ensures.cases.0 in
    if_ok_then c.alone.result c.alone.ensures (λ parts is. is ∙ rw (items_chars, view-Object c.in_ok-parts.parts, c.in_ok-parts.ensures, c.as_str.ensures.value, path, first) refl)

pub schemas_of-loop-key-preserved : goal.schemas_of-loop-key-preserved
schemas_of-loop-key-preserved t c =
    let l = c.loop-key in
    let fs = c.args.fields.now in
    let f = c.loop-key-item.result in
    let named : string_bytes c.in_ok-key.key ≡ string_bytes f.0 = c.in_ok-key.ensures.ok ∙ c.as_str-in-loop-key-2.ensures.value in
    let schema : value_of (value.Object c.in_ok-parts.parts) ≡ object (schema_parts c.args.comments.now (member_path c.args.at.now (string_bytes f.0)) (value_of f.1)) =
    view-Object c.in_ok-parts.parts ∙ ap object (c.in_ok-parts.ensures ∙ rw (c.as_str-in-loop-key.ensures.value, c.in_ok-path.ensures, c.as_str.ensures.value) refl) in
    let more = one_schema_more c.args.comments.now c.args.at.now (take l.key-index fs) l.schemas.items f (c.in_ok-key.key, value.Object c.in_ok-parts.parts) l.invariant named schema in
    ap fields_view c.in_ok-push.ensures.items ∙ more ∙ ap (λ z. member_schemas c.args.comments.now c.args.at.now (fields_view z)) (search (rules, take_more, c.loop-key-item.is))
