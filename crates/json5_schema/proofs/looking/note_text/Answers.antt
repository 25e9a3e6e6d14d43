use Rattle.std.proofs.Common.{◌∙◌, ap, sym}
use Rattle.json5_types.specs.ValueMeanings.{object, value_of, fields_view}
use Rattle.json5_types.proofs.ValuesCompared.{view-Object}
use Rattle.json5_schema.specs.Refusals.{IsWrong}
use Rattle.json5_schema.specs.RefusalSteps.{IsFormatFault, IsKeyFault, IsNoName, IsNoReference, IsPatternFault}
use Rattle.json5_schema.proofs.Refusing.{at_anchor, at_format, at_keys, at_pattern, at_reference, refused}
use Rattle.json5_schema.proofs.looking.note_text.Goals as goal

pub returns-in-Reference-String : goal.returns-in-Reference-String
returns-in-Reference-String c =
    let w = c.in-Reference-String in
    refused c.note.result (IsNoReference c.as_str.result.now) (IsWrong c.args.rules.is_strict c.args.name.now c.args.shape (value_of c.args.argument.now))
    (λ p k. at_reference c.args.rules.is_strict c.args.name.now c.args.shape c.args.argument.now w.text c.as_str.result.now p w.is-0 w.is-1 c.as_str.ensures.value c.as_str.utf8 k) c.note.ensures

pub returns-in-Anchor-String : goal.returns-in-Anchor-String
returns-in-Anchor-String c =
    let w = c.in-Anchor-String in
    let text = c.as_str-in-Anchor-String in
    refused c.note_anchor.result (IsNoName c.args.name.now text.result.now) (IsWrong c.args.rules.is_strict c.args.name.now c.args.shape (value_of c.args.argument.now))
    (λ p k. at_anchor c.args.rules.is_strict c.args.name.now c.args.shape c.args.argument.now w.text text.result.now p w.is-0 w.is-1 text.ensures.value text.utf8 k) c.note_anchor.ensures

pub returns-in-Pattern-String : goal.returns-in-Pattern-String
returns-in-Pattern-String c =
    let w = c.in-Pattern-String in
    let text = c.as_str-in-Pattern-String in
    refused c.compile.result (IsPatternFault text.result.now) (IsWrong c.args.rules.is_strict c.args.name.now c.args.shape (value_of c.args.argument.now))
    (λ p k. at_pattern c.args.rules.is_strict c.args.name.now c.args.shape c.args.argument.now w.text text.result.now p w.is-0 w.is-1 text.ensures.value text.utf8 k) c.compile.ensures

pub returns-in-PatternSchemas-Object : goal.returns-in-PatternSchemas-Object
returns-in-PatternSchemas-Object c =
    let w = c.in-PatternSchemas-Object in
    let fs = fields_view c.deref.result.now in
    let is = ap value_of w.is-1 ∙ (view-Object w.schemas ∙ ap (λ z. object (fields_view z)) (sym c.deref.ensures.value)) in
    refused c.compile_keys.result (IsKeyFault fs) (IsWrong c.args.rules.is_strict c.args.name.now c.args.shape (value_of c.args.argument.now))
    (λ p k. at_keys c.args.rules.is_strict c.args.name.now c.args.shape (value_of c.args.argument.now) fs p w.is-0 is k) c.compile_keys.ensures

pub returns-in-Format-String : goal.returns-in-Format-String
returns-in-Format-String c =
    let w = c.in-Format-String in
    let text = c.as_str-in-Format-String in
    refused c.note_format.result (IsFormatFault c.args.rules text.result.now) (IsWrong c.args.rules.is_strict c.args.name.now c.args.shape (value_of c.args.argument.now))
    (λ p k. at_format c.args.rules c.args.name.now c.args.shape c.args.argument.now w.text text.result.now p w.is-0 w.is-1 text.ensures.value text.utf8 k) c.note_format.ensures
