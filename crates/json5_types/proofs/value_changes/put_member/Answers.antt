use Rattle.std.proofs.Common.{Some, set, refl, sym, ap, ◌∙◌, string_bytes}
use Rattle.std.specs.Str.{chars}
use Rattle.json5_types.specs.ValueMeanings.{value_of, fields_view}
use Rattle.json5_types.proofs.MembersPlaced.{found_there, put_there, put_last}
use Rattle.json5_types.proofs.value_changes.put_member.Goals as goal

pub returns-in-Some : goal.returns-in-Some
returns-in-Some c =
    let key = chars (string_bytes c.args.key) in
    let old = c.args.fields.now.items in
    let place = c.in-Some.place in
    let last = rw (c.deref.ensures.value, c.as_str.ensures.value) at c.in-Some.ensures in (
      ap (λ m. fields_view (set old place m)) c.replace-found.ensures.after ∙ put_there key c.args.key c.args.value old place last refl,
      ap (λ m. Some (value_of m.1)) c.replace-found.ensures.value ∙ sym (found_there key old place c.index_mut.result.now last c.index_mut.ensures.value),
    )

pub returns-in_ok-push-in-None : goal.returns-in_ok-push-in-None
returns-in_ok-push-in-None c =
    let key = chars (string_bytes c.args.key) in
    let none = rw (c.deref.ensures.value, c.as_str.ensures.value) at c.in-None.ensures in
    (ap fields_view c.in_ok-push-in-None.ensures.items ∙ put_last key c.args.key c.args.value c.args.fields.now.items none refl, sym none)
