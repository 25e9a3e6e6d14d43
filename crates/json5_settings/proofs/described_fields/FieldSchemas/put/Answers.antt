use Rattle.std.proofs.Common.{◌≡◌, refl}
use Rattle.json5_types.specs.ValueMeanings.{fields_view}
use Rattle.json5_settings.proofs.FieldsAdded.{on_ok_then, other_added, property_added, required_added}
use Rattle.json5_settings.proofs.KeywordsPut.{of_ok}
use Rattle.json5_settings.proofs.described_fields.FieldSchemas.put.Goals as goal

pub returns-then-is_required-clause-adds : goal.returns-then-is_required-clause-adds
returns-then-is_required-clause-adds c = λ kw is.
    let given = of_ok (λ made. fields_view made.items ≡ kw) _ _ c.in_ok-keywords.was is in
    let property = property_added c.args.self.now.properties.items c.push.new.self.items c.in_ok-key.key c.in_ok-keywords.keywords c.args.name.now kw c.in_ok-push.ensures.items c.in_ok-key.ensures.ok given in
    on_ok_then c.require.result c.require.ensures.adds (λ added. required_added c.args.name.now kw c.args.is_required c.args.self.now _ c.require.new.self c.if-is_required.true property refl added)

pub returns-clause-adds : goal.returns-clause-adds
returns-clause-adds c = λ kw is.
    let given = of_ok (λ made. fields_view made.items ≡ kw) _ _ c.in_ok-keywords.was is in
    let property = property_added c.args.self.now.properties.items c.push.new.self.items c.in_ok-key.key c.in_ok-keywords.keywords c.args.name.now kw c.in_ok-push.ensures.items c.in_ok-key.ensures.ok given in
    other_added c.args.name.now kw c.args.is_required c.args.self.now _ c.if-is_required.false property refl
