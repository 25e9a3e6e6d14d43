use Rattle.std.proofs.Common.{◌≡◌, rules, arith, ap, sym, ◌∙◌, [], ◌∷◌, ◌++◌, map, take, take_all, append_assoc, string_bytes, false}
use Rattle.std.proofs.lemmas.List.{take_more}
use Rattle.json5_types.specs.ValueMeanings.{fields_view}
use Rattle.toml.specs.Data as toml
use Rattle.toml.specs.View.{view, members_view}
use Rattle.toml.proofs.Views as views
use Rattle.json5_convert.specs.Toml.{data_members, undated_members}
use Rattle.json5_convert.proofs.TomlParts.{data_of-String, data_of-value, undated_view, same_items, one_more, data_members-last, undated_members-last}
use Rattle.json5_convert.proofs.toml_values.+value.Goals as goal

pub value_in-returns-in_ok-from_str-in-String : goal.value_in-returns-in_ok-from_str-in-String
value_in-returns-in_ok-from_str-in-String t c =
    rw (c.in-String.is, views.view-String c.in-String.text) (data_of-String c.in_ok-from_str-in-String.field-0 ∙ ap toml.string (c.in_ok-from_str-in-String.ensures.ok ∙ c.as_str.ensures.value))

pub value_in-returns-in_ok-format-in-Datetime : goal.value_in-returns-in_ok-format-in-Datetime
value_in-returns-in_ok-format-in-Datetime t c =
    rw (c.in-Datetime.is, views.view-Datetime c.in-Datetime.time) (data_of-String c.in_ok-format-in-Datetime.field-0 ∙ ap toml.string c.in_ok-format-in-Datetime.ensures.ok)

pub fields_in-loop-key-preserved : goal.fields_in-loop-key-preserved
fields_in-loop-key-preserved t c =
    let l = c.loop-key in
    let done = l.invariant.0 in
    let e : views.Entry = (c.in-Some.key.now, c.in-Some.part.now) in
    let left = c.next.new.self in
    let all : c.args.table.now.entries ≡ done ++ e ∷ left = l.invariant.1 ∙ ap (λ es. done ++ es) c.in-Some.ensures.steps in
    let named : string_bytes c.in_ok-key.key ≡ string_bytes e.0 = c.in_ok-key.ensures.ok ∙ c.as_str.ensures.value in
    let ours = data_members-last l.fields.items c.in_ok-key.key c.in_ok-value_in.field-0 in
    let theirs = ap undated_members (views.members_view-last done e.0 e.1) ∙ undated_members-last (members_view done) (string_bytes e.0) (view e.1) in (
      done ++ e ∷ [],
      all ∙ sym (append_assoc done (e ∷ []) left),
      ap (λ fs. data_members false (fields_view fs)) c.in_ok-push.ensures.items ∙ ours ∙ rw (l.invariant.2, named, c.in_ok-value_in.ensures) (sym theirs),
    )

pub items_in-loop-item-preserved : goal.items_in-loop-item-preserved
items_in-loop-item-preserved t c =
    let l = c.loop-item in
    let more = one_more data_of-value undated_view l.values.items (take l.item-index c.args.items.now) c.in_ok-value_in.field-0 c.item-item.result l.invariant c.in_ok-value_in.ensures in
    ap (map data_of-value) c.in_ok-push.ensures.items ∙ more ∙ ap (map undated_view) (search (rules, take_more, c.item-item.is))

pub items_in-returns : goal.items_in-returns
items_in-returns t c =
    let l = c.loop-item in
    let all : take l.item-index c.args.items.now ≡ c.args.items.now = take_all _ c.args.items.now (omega arith) in
    same_items l.values.items c.args.items.now (l.invariant ∙ ap (map undated_view) all)
