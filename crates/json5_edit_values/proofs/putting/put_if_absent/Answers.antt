use Rattle.std.proofs.Common.{[], inl, inr}
use Rattle.json5_edit.proofs.Changed.{edited_as, not_edited}
use Rattle.json5_edit_values.proofs.PathsPut.{leads_none, leads_there, path_refused}
use Rattle.json5_edit_values.proofs.PutsPlain.{plain_same}
use Rattle.json5_edit_values.proofs.putting.put_if_absent.Goals as goal

pub add_missing-requires : goal.add_missing-requires
add_missing-requires c = leads_none c.args.text.now c.args.path.now _ c.in-Ok-None.field-0-is c.in-Ok-None.ensures.found

pub returns-in_ok-from_str-in-Ok-Some : goal.returns-in_ok-from_str-in-Ok-Some
returns-in_ok-from_str-in-Ok-Some c = record {
  made = inl (leads_there c.args.text.now c.args.path.now _ _ c.in-Ok-Some.field-0-is c.in-Ok-Some.ensures.found, c.in_ok-from_str-in-Ok-Some.ensures.ok);
  plain = plain_same c.args.names c.args.text.now c.args.value.now _ c.in_ok-from_str-in-Ok-Some.ensures.ok;
  refused = tt;
}

pub returns-in-Ok-None : goal.returns-in-Ok-None
returns-in-Ok-None c = edited_as c.add_missing.result (λ made k. inr k) (λ made k. k) (λ e k. k) c.add_missing.ensures

pub returns-in-Err : goal.returns-in-Err
returns-in-Err c = not_edited (path_refused c.args.text.now c.args.value.now c.args.path.now c.of_text.result (c.of_text.ensures c.args.text.now [] c.in-Err.ensures.refused))
