use Rattle.std.proofs.Common.{[], inr, string_bytes}
use Rattle.json5_edit.proofs.Changed.{edited_as, not_edited}
use Rattle.json5_edit.proofs.Placed.{ok_then}
use Rattle.json5_edit_values.proofs.PathsPut.{leads_none, leads_there, path_refused, set_refused}
use Rattle.json5_edit_values.proofs.PutsMade.{set_puts}
use Rattle.json5_edit_values.proofs.ValuesSpelled.{err_then}
use Rattle.json5_edit_values.proofs.putting.put_in.Goals as goal

pub add_missing-requires : goal.add_missing-requires
add_missing-requires c = leads_none c.args.text.now c.args.path.now _ c.in-Ok-None.field-0-is c.in-Ok-None.ensures.found

pub returns-in-Ok-Some : goal.returns-in-Ok-Some
returns-in-Ok-Some c = record {
  made = ok_then c.set.result (λ made k. set_puts c.args.text.now c.args.value.now (string_bytes made) c.args.path.now k) c.set.ensures.set;
  plain = ok_then c.set.result (λ made k quoted. k) c.set.ensures.plain;
  refused = err_then c.set.result (λ e k. set_refused c.args.text.now c.args.value.now c.args.path.now e (leads_there c.args.text.now c.args.path.now _ _ c.in-Ok-Some.field-0-is c.in-Ok-Some.ensures.found) k) c.set.ensures.refused;
}

pub returns-in-Ok-None : goal.returns-in-Ok-None
returns-in-Ok-None c = edited_as c.add_missing.result (λ made k. inr k) (λ made k. k) (λ e k. k) c.add_missing.ensures

pub returns-in-Err : goal.returns-in-Err
returns-in-Err c = not_edited (path_refused c.args.text.now c.args.value.now c.args.path.now c.of_text.result (c.of_text.ensures c.args.text.now [] c.in-Err.ensures.refused))
