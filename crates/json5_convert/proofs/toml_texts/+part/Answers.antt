use Rattle.std.proofs.Common.{◌≡◌, ◌≤◌, length, arith, rules, refl, ap, sym, ◌∙◌, map, take, take_all, drop_of_length-le, string_bytes}
use Rattle.std.proofs.lemmas.Result.{err_from_is_err_and}
use Rattle.json5_types.proofs.ValuesCompared.{view-String, view-Object}
use Rattle.toml.specs.Data as toml
use Rattle.toml.specs.View as view
use Rattle.toml.proofs.Views.{view-Table}
use Rattle.json5_convert.specs.Toml.{put, string_data}
use Rattle.json5_convert.proofs.TomlDates.{ordered_string}
use Rattle.json5_convert.proofs.TomlHeld.{ordered_part, ordered_items-map, members_view-insert, ordered_next, held_next, absent, present}
use Rattle.json5_convert.proofs.toml_texts.+part.Goals as goal

pub array_in-returns : goal.array_in-returns
array_in-returns t c =
    let l = c.loop-index in
    let xs = c.args.items.now in
    let all : take l.index xs ≡ xs = take_all _ xs (omega arith) in
    let left : length xs ≤ l.index = search rules in
    (l.invariant.1 (rw (drop_of_length-le xs left) tt), ap view.items_of (l.invariant.0 ∙ ap (map (ordered_part c.args.dates)) all) ∙ sym (ordered_items-map c.args.dates xs))

pub part_in-returns-in_ok-string_in-in-String : goal.part_in-returns-in_ok-string_in-in-String
part_in-returns-in_ok-string_in-in-String t c =
    let text = c.in-String.text in (
      rw (c.in-String.is, view-String text) tt,
      c.in_ok-string_in-in-String.ensures ∙ ap (string_data c.args.dates) c.as_str.ensures.value ∙ rw c.in-String.is (sym (ordered_string c.args.dates text)),
    )

pub part_in-returns-in_ok-table_in-in-Object : goal.part_in-returns-in_ok-table_in-in-Object
part_in-returns-in_ok-table_in-in-Object t c =
    let has = c.in_ok-table_in-in-Object.ensures in
    rw (c.in-Object.is, view-Object c.in-Object.fields, view-Table c.in_ok-table_in-in-Object.field-0, ← c.deref-in-Object.ensures.value) (has.0, ap toml.table has.1)

pub part_in-returns-in_err-table_in-in-Object : goal.part_in-returns-in_err-table_in-in-Object
part_in-returns-in_err-table_in-in-Object t c =
    let (y, is, from) = err_from_is_err_and c.from_residual-in_err-table_in-in-Object.result c.from_residual-in_err-table_in-in-Object.ensures.1 in
    rw (is, from) (λ some held. c.in_err-table_in-in-Object.ensures some (rw (c.in-Object.is, view-Object c.in-Object.fields, ← c.deref-in-Object.ensures.value) at held))

pub table_in-returns-then-is_some : goal.table_in-returns-then-is_some
table_in-returns-then-is_some t c = λ _ all.
    let l = c.loop-key in
    let f = c.loop-key-item.result in
    let done = view.members_view l.table.entries in
    let here = rw (held_next c.args.dates done c.args.fields.now l.key-index f c.loop-key-test.true c.loop-key-item.is) at (l.invariant.2 all) in
    let named : string_bytes c.in_ok-name.name ≡ string_bytes f.0 = c.in_ok-name.ensures.ok ∙ c.as_str.ensures.value in
    present c.in_ok-name.name l.table.entries c.in_ok-insert.field-0 (string_bytes f.0) named c.in_ok-insert.ensures.old (sym c.is_some.ensures ∙ c.if-is_some.true) here.1

pub table_in-loop-key-preserved : goal.table_in-loop-key-preserved
table_in-loop-key-preserved t c =
    let l = c.loop-key in
    let f = c.loop-key-item.result in
    let done = view.members_view l.table.entries in
    let named : string_bytes c.in_ok-name.name ≡ string_bytes f.0 = c.in_ok-name.ensures.ok ∙ c.as_str.ensures.value in
    let same : view.members_view c.insert.new.self.entries ≡ put (string_bytes f.0) (ordered_part c.args.dates f.1) done =
    ap view.members_view c.in_ok-insert.ensures.entries ∙ members_view-insert l.table.entries c.in_ok-name.name c.in-Ok.part ∙ rw (named, c.in-Ok.ensures.1) refl in
    let none = absent c.in_ok-name.name l.table.entries c.in_ok-insert.field-0 (string_bytes f.0) named c.in_ok-insert.ensures.old (sym c.is_some.ensures ∙ c.if-is_some.false) in
    let next = held_next c.args.dates done c.args.fields.now l.key-index f c.loop-key-test.true c.loop-key-item.is in (
      rw same (sym (ordered_next c.args.dates done c.args.fields.now l.key-index f c.loop-key-test.true c.loop-key-item.is) ∙ l.invariant.0),
      λ rest. l.invariant.1 (rw next (c.in-Ok.ensures.0, none, rw same at rest)),
      λ all. rw same ((rw next at (l.invariant.2 all)).2),
    )
