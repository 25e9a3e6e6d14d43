use Rattle.std.proofs.Common.{◌≡◌, ◌∙◌, [], ◌∷◌, Err, Ok, sym, true}
use Rattle.json5_de.specs.ConvertLists.{if_some}
use Rattle.json5_de.specs.Lending.{map_state_of}
use Rattle.json5_fields.specs.Layouts.{has_name}
use Rattle.json5_fields.specs.Spares.{spared}
use Rattle.json5_settings_types.proofs.NamesTaken.{free_alike, takes_by_name}
use Rattle.json5_settings_types.proofs.renamed.RenamedStructFields.read.Goals as goal

pub returns-in-Ok-clause-tries : goal.returns-in-Ok-clause-tries
returns-in-Ok-clause-tries g c =
    let names = c.args.fields.now.name.now ∷ c.args.fields.now.old_name.now ∷ [] in
    let named : has_name names c.args.name.now ≡ true = sym c.is_named.ensures ∙ c.if-not-is_named.false in
    takes_by_name names g.T.Deserialize.convert _ _ _ g.T.Deserialize.content g.T.Deserialize.refuses c.args.name.now c.args.map.now c.take_field.new.map c.args.fields.now.value c.take_field.new.found (Ok tt) named c.in-Ok.ensures.taken

pub returns-in-Err-clause-tries : goal.returns-in-Err-clause-tries
returns-in-Err-clause-tries g c =
    let names = c.args.fields.now.name.now ∷ c.args.fields.now.old_name.now ∷ [] in
    let named : has_name names c.args.name.now ≡ true = sym c.is_named.ensures ∙ c.if-not-is_named.false in
    takes_by_name names g.T.Deserialize.convert _ _ _ g.T.Deserialize.content g.T.Deserialize.refuses c.args.name.now c.args.map.now c.take_field.new.map c.args.fields.now.value c.take_field.new.found (Err c.in-Err.e) named c.in-Err.ensures.taken

pub returns-in-Err-clause-no_memory : goal.returns-in-Err-clause-no_memory
returns-in-Err-clause-no_memory g c =
    let names = c.args.fields.now.name.now ∷ c.args.fields.now.old_name.now ∷ [] in
    let named : has_name names c.args.name.now ≡ true = sym c.is_named.ensures ∙ c.if-not-is_named.false in
    free_alike names g.T.Deserialize.convert (if_some g.T.Deserialize.content c.args.fields.now.value) c.args.name.now named (spared g.T.Deserialize.convert g.T.Deserialize.allocation_free) (map_state_of c.args.map.now) c.in-Err.e c.in-Err.ensures.no_memory
