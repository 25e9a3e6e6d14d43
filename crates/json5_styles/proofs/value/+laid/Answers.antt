use Rattle.std.proofs.Common.{◌≡◌, ◌+◌, ◌<◌, ◌≤◌, suc, true, false, [], ◌∷◌, ◌++◌, length, drop_of_length-le, refl, sym, ap, subst, rules, arith, append_assoc, string_bytes, Ok, Err}
use Rattle.std.specs.Str.{chars}
use Rattle.json5_grammar.specs.Language.Numbers.{decimal, whole}
use Rattle.json5_types.proofs.ValuesCompared.{view-Null, view-String, view-Array, view-Object}
use Rattle.json5_types.specs.ValueLookups.{datum_depth, items_depth, fields_depth}
use Rattle.json5_types.specs.ValueMeanings.{value_of, items_view, fields_view}
use Rattle.json5_write.specs.Brackets.{sign_of}
use Rattle.json5_write.specs.Out.{piece}
use Rattle.json5_write.proofs.OutputsJoined.{Reaches-none, Reaches-first, Reaches-next}
use Rattle.json5_write.proofs.PiecesWritten.{chars_null, chars_left_bracket, chars_right_bracket, chars_left_brace, chars_right_brace}
use Rattle.json5_write.proofs.ShortWritesJoined.{Reaches-stop, Reaches-end}
use Rattle.json5_styles.specs.LaidBack.{ItemsHaveNumbers, FieldsHaveNumbers}
use Rattle.json5_styles.specs.Styles.{comma_if, closed, laid, items_laid, fields_laid}
use Rattle.json5_styles.specs.Layouts.{style_of, laid_in}
use Rattle.json5_styles.proofs.ItemsLaid.{items_left, next_on_line, closed_on_line, next_item, next_field, item_within, field_within, items_numbers, fields_numbers, view-Decimal, view-Whole}
use Rattle.json5_styles.proofs.PiecesPut.{chars_no_element, stop_first, then_second, put_as, wrote_as, refused_as, reaches_as, number_put, number_had, on_ok}
use Rattle.json5_styles.proofs.value.+laid.Goals as goal

pub put_value-returns-in-Null : goal.put_value-returns-in-Null
put_value-returns-in-Null g t c = record {
  text = rw (c.in-Null.is, view-Null) (rw chars_null at c.put_piece.ensures);
  numbers = rw (c.in-Null.is, view-Null) (on_ok c.put_piece.result tt);
}

pub put_value-returns-in-String : goal.put_value-returns-in-String
put_value-returns-in-String g t c = record {
  text = rw (c.in-String.is, view-String c.in-String.text, ← c.as_str.ensures.value) c.put_string.ensures;
  numbers = rw (c.in-String.is, view-String c.in-String.text) (on_ok c.put_string.result tt);
}

pub put_value-returns-in-Array : goal.put_value-returns-in-Array
put_value-returns-in-Array g t c = record {
  text = rw (c.in-Array.is, view-Array c.in-Array.items, ← c.deref.ensures.value) c.put_array.ensures.text;
  numbers = rw (c.in-Array.is, view-Array c.in-Array.items, ← c.deref.ensures.value) c.put_array.ensures.numbers;
}

pub put_value-returns-in-Object : goal.put_value-returns-in-Object
put_value-returns-in-Object g t c = record {
  text = rw (c.in-Object.is, view-Object c.in-Object.fields, ← c.deref-in-Object.ensures.value) c.put_object.ensures.text;
  numbers = rw (c.in-Object.is, view-Object c.in-Object.fields, ← c.deref-in-Object.ensures.value) c.put_object.ensures.numbers;
}

pub put_value-returns-in-Decimal : goal.put_value-returns-in-Decimal
put_value-returns-in-Decimal g t c = record {
  text =
      let d = c.in-Decimal.number in
      rw (c.in-Decimal.is, view-Decimal d) (number_put (decimal d) c.args.printer.now c.put_decimal.new.self c.put_decimal.result c.put_decimal.ensures);
  numbers =
      let d = c.in-Decimal.number in
      rw (c.in-Decimal.is, view-Decimal d) (number_had (decimal d) c.args.printer.now c.put_decimal.new.self c.put_decimal.result c.put_decimal.ensures);
}

pub put_value-returns-in-Whole : goal.put_value-returns-in-Whole
put_value-returns-in-Whole g t c = record {
  text =
      let z = c.in-Whole.number in
      rw (c.in-Whole.is, view-Whole z) (number_put (whole z) c.args.printer.now c.put_whole.new.printer c.put_whole.result c.put_whole.ensures);
  numbers =
      let z = c.in-Whole.number in
      rw (c.in-Whole.is, view-Whole z) (number_had (whole z) c.args.printer.now c.put_whole.new.printer c.put_whole.result c.put_whole.ensures);
}

pub put_value-put_array-requires : goal.put_value-put_array-requires
put_value-put_array-requires g t c =
    let deep : datum_depth (value_of c.args.value.now) ≡ suc (items_depth (items_view c.deref.result.now)) = rw (c.in-Array.is, view-Array c.in-Array.items, ← c.deref.ensures.value) refl in
    λ κs sub. (omega (arith, deep, c.decreases), (search rules, omega (arith, deep, c.requires)))

pub put_value-put_object-requires : goal.put_value-put_object-requires
put_value-put_object-requires g t c =
    let deep : datum_depth (value_of c.args.value.now) ≡ suc (fields_depth (fields_view c.deref-in-Object.result.now)) = rw (c.in-Object.is, view-Object c.in-Object.fields, ← c.deref-in-Object.ensures.value) refl in
    λ κs sub. (omega (arith, deep, c.decreases), (search rules, omega (arith, deep, c.requires)))

-- ---- arrays

pub put_array-put_items_on_line-requires : goal.put_array-put_items_on_line-requires
put_array-put_items_on_line-requires g t c = λ κs sub. (omega (arith, c.decreases), (search rules, (c.requires.shallow, rw c.in-Compact.is refl)))

pub put_array-put_items-requires : goal.put_array-put_items-requires
put_array-put_items-requires g t c = λ κs sub. (omega (arith, c.decreases), (search rules, c.requires.shallow))

pub put_items-put_value-requires : goal.put_items-put_value-requires
put_items-put_value-requires g t c =
    let left : c.loop-item.item-index < length c.args.items.now = search rules in
    let inside = item_within c.args.items.now c.loop-item.item-index c.item-item.result left c.item-item.is in
    λ κs sub. (omega (arith, inside, c.decreases), (search rules, omega (arith, inside, c.requires)))

pub put_items-returns-in_err-put_piece : goal.put_items-returns-in_err-put_piece
put_items-returns-in_err-put_piece g t c = record {
  text =
      let s = style_of c.args.form.now.spelling c.args.form.now.layout in
      stop_first (91 ∷ []) (items_laid s c.args.depth false (items_view c.args.items.now)) _ _ _ _ c.from_residual.ensures.1 (refused_as _ _ _ _ _ chars_left_bracket c.in_err-put_piece.ensures);
  numbers = search rules;
}

pub put_items-loop-item-init : goal.put_items-loop-item-init
put_items-loop-item-init g t c =
    let s = style_of c.args.form.now.spelling c.args.form.now.layout in
    record { numbers = λ h. h; reaches = Reaches-first (piece (91 ∷ [])) (piece (items_laid s c.args.depth false (items_view c.args.items.now))) _ _ (wrote_as _ _ _ _ chars_left_bracket c.in_ok-put_piece.ensures) }

pub put_items-returns-in_err-put : goal.put_items-returns-in_err-put
put_items-returns-in_err-put g t c = record {
  text =
      let l = c.loop-item in
      let s = style_of c.args.form.now.spelling c.args.form.now.layout in
      let left : l.item-index < length c.args.items.now = search rules in
      let v = c.item-item.result in
      let next = reaches_as _ _ _ _ _ (next_item s c.args.depth l.started c.args.items.now l.item-index v left c.item-item.is) l.invariant.reaches in
      Reaches-stop _ (piece (comma_if l.started ++ s.line (c.args.depth + 1))) _ _ _ _ _ _ next c.from_residual-in_err-put.ensures.1 (refused_as _ _ _ _ _ (c.within-line.ensures l.started) c.in_err-put.ensures);
  numbers = search rules;
}

pub put_items-returns-in_err-put_value : goal.put_items-returns-in_err-put_value
put_items-returns-in_err-put_value g t c = record {
  text =
      let l = c.loop-item in
      let s = style_of c.args.form.now.spelling c.args.form.now.layout in
      let left : l.item-index < length c.args.items.now = search rules in
      let v = c.item-item.result in
      let next = reaches_as _ _ _ _ _ (next_item s c.args.depth l.started c.args.items.now l.item-index v left c.item-item.is) l.invariant.reaches in
      let after = Reaches-next _ (piece (comma_if l.started ++ s.line (c.args.depth + 1))) _ _ _ _ next (wrote_as _ _ _ _ (c.within-line.ensures l.started) c.in_ok-put.ensures) in
      Reaches-stop _ (piece (laid s (c.args.depth + 1) (value_of v))) _ _ _ _ _ _ after c.from_residual-in_err-put_value.ensures.1 c.in_err-put_value.ensures.text;
  numbers = search rules;
}

pub put_items-loop-item-preserved : goal.put_items-loop-item-preserved
put_items-loop-item-preserved g t c =
    let l = c.loop-item in
    let s = style_of c.args.form.now.spelling c.args.form.now.layout in
    let left : l.item-index < length c.args.items.now = search rules in
    let v = c.item-item.result in
    let next = reaches_as _ _ _ _ _ (next_item s c.args.depth l.started c.args.items.now l.item-index v left c.item-item.is) l.invariant.reaches in
    let after = Reaches-next _ (piece (comma_if l.started ++ s.line (c.args.depth + 1))) _ _ _ _ next (wrote_as _ _ _ _ (c.within-line.ensures l.started) c.in_ok-put.ensures) in
    record {
      reaches = Reaches-next _ (piece (laid s (c.args.depth + 1) (value_of v))) _ _ _ _ after c.in_ok-put_value.ensures.text;
      numbers = λ rest. l.invariant.numbers (items_numbers c.args.items.now l.item-index v left c.item-item.is c.in_ok-put_value.ensures.numbers rest);
    }

pub put_items-returns-in_err-end_lines : goal.put_items-returns-in_err-end_lines
put_items-returns-in_err-end_lines g t c = record {
  text =
      let l = c.loop-item in
      let s = style_of c.args.form.now.spelling c.args.form.now.layout in
      let none : length c.args.items.now ≤ l.item-index = search rules in
      let last = reaches_as _ _ _ _ _ (ap (λ x. items_laid s c.args.depth l.started (items_view x)) (drop_of_length-le c.args.items.now none)) l.invariant.reaches in
      Reaches-stop _ (piece (closed s c.args.depth l.started)) (piece (93 ∷ [])) _ _ _ _ _ last c.from_residual-in_err-end_lines.ensures.1 c.in_err-end_lines.ensures;
  numbers = search rules;
}

pub put_items-returns : goal.put_items-returns
put_items-returns g t c = record {
  text =
      let l = c.loop-item in
      let s = style_of c.args.form.now.spelling c.args.form.now.layout in
      let none : length c.args.items.now ≤ l.item-index = search rules in
      let last = reaches_as _ _ _ _ _ (ap (λ x. items_laid s c.args.depth l.started (items_view x)) (drop_of_length-le c.args.items.now none)) l.invariant.reaches in
      Reaches-end _ (piece (93 ∷ [])) _ _ _ _ (Reaches-next _ (piece (closed s c.args.depth l.started)) (piece (93 ∷ [])) _ _ _ last c.in_ok-end_lines.ensures) (put_as _ _ _ _ _ chars_right_bracket c.put_piece-2.ensures);
  numbers =
      let l = c.loop-item in
      let none : length c.args.items.now ≤ l.item-index = search rules in
      on_ok c.put_piece-2.result (l.invariant.numbers (subst (λ x. ItemsHaveNumbers (items_view x)) (sym (drop_of_length-le c.args.items.now none)) tt));
}

-- ---- arrays on one line

pub put_items_on_line-put_item_after-requires : goal.put_items_on_line-put_item_after-requires
put_items_on_line-put_item_after-requires g t c =
    let left : c.loop-item.item-index < length c.args.items.now = search rules in
    let inside = item_within c.args.items.now c.loop-item.item-index c.item-item.result left c.item-item.is in
    λ κs sub. (omega (arith, inside, c.decreases), (search rules, omega (arith, inside, c.requires.shallow)))

pub put_items_on_line-loop-item-init : goal.put_items_on_line-loop-item-init
put_items_on_line-loop-item-init g t c = record { numbers = λ h. h; reaches = Reaches-none _ _ }

pub put_items_on_line-returns-in_err-put_item_after : goal.put_items_on_line-returns-in_err-put_item_after
put_items_on_line-returns-in_err-put_item_after g t c = record {
  text =
      let l = c.loop-item in
      let f = c.args.form.now in
      let left : l.item-index < length c.args.items.now = search rules in
      let v = c.item-item.result in
      let next = reaches_as _ _ _ _ _ (next_on_line f.spelling f.layout c.args.depth l.before c.args.items.now l.item-index v c.requires.on_line left c.item-item.is) l.invariant.reaches in
      Reaches-stop _ (piece (sign_of l.before ∷ laid_in f (c.args.depth + 1) (value_of v))) _ _ _ _ _ _ next c.from_residual.ensures.1 c.in_err-put_item_after.ensures.text;
  numbers = search rules;
}

pub put_items_on_line-loop-item-preserved : goal.put_items_on_line-loop-item-preserved
put_items_on_line-loop-item-preserved g t c =
    let l = c.loop-item in
    let f = c.args.form.now in
    let left : l.item-index < length c.args.items.now = search rules in
    let v = c.item-item.result in
    let next = reaches_as _ _ _ _ _ (next_on_line f.spelling f.layout c.args.depth l.before c.args.items.now l.item-index v c.requires.on_line left c.item-item.is) l.invariant.reaches in
    record {
      reaches = Reaches-next _ (piece (sign_of l.before ∷ laid_in f (c.args.depth + 1) (value_of v))) _ _ _ _ next c.in_ok-put_item_after.ensures.text;
      numbers = λ rest. l.invariant.numbers (items_numbers c.args.items.now l.item-index v left c.item-item.is c.in_ok-put_item_after.ensures.numbers rest);
    }

pub put_items_on_line-returns-in-Bracket : goal.put_items_on_line-returns-in-Bracket
put_items_on_line-returns-in-Bracket g t c = record {
  text =
      let l = c.loop-item in
      let f = c.args.form.now in
      let none : length c.args.items.now ≤ l.item-index = search rules in
      let empty = ap (λ x. items_left (style_of f.spelling f.layout) c.args.depth l.before (items_view x)) (drop_of_length-le c.args.items.now none) in
      let last = rw c.in-Bracket.is at (reaches_as _ _ _ _ _ empty l.invariant.reaches) in
      Reaches-end _ (piece (91 ∷ 93 ∷ [])) _ _ _ _ last (put_as _ _ _ _ _ chars_no_element c.put_piece.ensures);
  numbers =
      let l = c.loop-item in
      let none : length c.args.items.now ≤ l.item-index = search rules in
      on_ok c.put_piece.result (l.invariant.numbers (subst (λ x. ItemsHaveNumbers (items_view x)) (sym (drop_of_length-le c.args.items.now none)) tt));
}

pub put_items_on_line-returns-in-Comma : goal.put_items_on_line-returns-in-Comma
put_items_on_line-returns-in-Comma g t c = record {
  text =
      let l = c.loop-item in
      let f = c.args.form.now in
      let none : length c.args.items.now ≤ l.item-index = search rules in
      let empty = ap (λ x. items_left (style_of f.spelling f.layout) c.args.depth l.before (items_view x)) (drop_of_length-le c.args.items.now none) in
      let closes = ap (λ x. x ++ 93 ∷ []) (closed_on_line f.spelling f.layout c.args.depth true c.requires.on_line) in
      let last = reaches_as _ _ _ _ _ closes (rw c.in-Comma.is at (reaches_as _ _ _ _ _ empty l.invariant.reaches)) in
      Reaches-end _ (piece (93 ∷ [])) _ _ _ _ last (put_as _ _ _ _ _ chars_right_bracket c.put_piece-in-Comma.ensures);
  numbers =
      let l = c.loop-item in
      let none : length c.args.items.now ≤ l.item-index = search rules in
      on_ok c.put_piece-in-Comma.result (l.invariant.numbers (subst (λ x. ItemsHaveNumbers (items_view x)) (sym (drop_of_length-le c.args.items.now none)) tt));
}

-- ---- an element after what stands before it

pub put_item_after-put_value-requires : goal.put_item_after-put_value-requires
put_item_after-put_value-requires g t c = λ κs sub. (omega (arith, c.decreases), (search rules, c.requires.shallow))

pub put_item_after-returns-in-Whole-clause-text : goal.put_item_after-returns-in-Whole-clause-text
put_item_after-returns-in-Whole-clause-text g t c = rw (c.in-Whole.is, view-Whole c.in-Whole.number) c.put_whole_after.ensures.text

pub put_item_after-returns-in-Whole-clause-numbers : goal.put_item_after-returns-in-Whole-clause-numbers
put_item_after-returns-in-Whole-clause-numbers g t c = rw (c.in-Whole.is, view-Whole c.in-Whole.number) c.put_whole_after.ensures.numbers

pub put_item_after-returns-in-String-clause-text : goal.put_item_after-returns-in-String-clause-text
put_item_after-returns-in-String-clause-text g t c = rw (c.in-String.is, view-String c.in-String.text, ← c.as_str.ensures.value) c.put_string_after.ensures

pub put_item_after-returns-in-String-clause-numbers : goal.put_item_after-returns-in-String-clause-numbers
put_item_after-returns-in-String-clause-numbers g t c = rw (c.in-String.is, view-String c.in-String.text) (on_ok c.put_string_after.result tt)

pub put_item_after-returns-in_err-put_piece-in_default-clause-text : goal.put_item_after-returns-in_err-put_piece-in_default-clause-text
put_item_after-returns-in_err-put_piece-in_default-clause-text g t c =
    let rest = laid_in c.args.form.now c.args.depth (value_of c.args.item.now) in
    stop_first (sign_of c.args.before ∷ []) rest _ _ _ _ c.from_residual.ensures.1 (refused_as _ _ _ _ _ c.text.ensures c.in_err-put_piece-in_default.ensures)

pub put_item_after-returns-in_ok-put_piece-in_default-clause-text : goal.put_item_after-returns-in_ok-put_piece-in_default-clause-text
put_item_after-returns-in_ok-put_piece-in_default-clause-text g t c =
    let rest = laid_in c.args.form.now c.args.depth (value_of c.args.item.now) in
    then_second (sign_of c.args.before ∷ []) rest _ _ _ _ (wrote_as _ _ _ _ c.text.ensures c.in_ok-put_piece-in_default.ensures) c.put_value.ensures.text

-- ---- objects

pub put_object-put_value-requires : goal.put_object-put_value-requires
put_object-put_value-requires g t c =
    let left : c.loop-key.key-index < length c.args.fields.now = search rules in
    let inside = field_within c.args.fields.now c.loop-key.key-index c.loop-key-item.result left c.loop-key-item.is in
    λ κs sub. (omega (arith, inside, c.decreases), (search rules, omega (arith, inside, c.requires)))

pub put_object-returns-in_err-put_piece : goal.put_object-returns-in_err-put_piece
put_object-returns-in_err-put_piece g t c = record {
  text =
      let s = style_of c.args.form.now.spelling c.args.form.now.layout in
      stop_first (123 ∷ []) (fields_laid s c.args.depth false (fields_view c.args.fields.now)) _ _ _ _ c.from_residual.ensures.1 (refused_as _ _ _ _ _ chars_left_brace c.in_err-put_piece.ensures);
  numbers = search rules;
}

pub put_object-loop-key-init : goal.put_object-loop-key-init
put_object-loop-key-init g t c =
    let s = style_of c.args.form.now.spelling c.args.form.now.layout in
    record { numbers = λ h. h; reaches = Reaches-first (piece (123 ∷ [])) (piece (fields_laid s c.args.depth false (fields_view c.args.fields.now))) _ _ (wrote_as _ _ _ _ chars_left_brace c.in_ok-put_piece.ensures) }

pub put_object-returns-in_err-put : goal.put_object-returns-in_err-put
put_object-returns-in_err-put g t c = record {
  text =
      let l = c.loop-key in
      let s = style_of c.args.form.now.spelling c.args.form.now.layout in
      let left : l.key-index < length c.args.fields.now = search rules in
      let v = c.loop-key-item.result in
      let next = reaches_as _ _ _ _ _ (next_field s c.args.depth l.started c.args.fields.now l.key-index v left c.loop-key-item.is) l.invariant.reaches in
      Reaches-stop _ (piece (comma_if l.started ++ s.line (c.args.depth + 1))) _ _ _ _ _ _ next c.from_residual-in_err-put.ensures.1 (refused_as _ _ _ _ _ (c.within-line.ensures l.started) c.in_err-put.ensures);
  numbers = search rules;
}

pub put_object-returns-in_err-put_key : goal.put_object-returns-in_err-put_key
put_object-returns-in_err-put_key g t c = record {
  text =
      let l = c.loop-key in
      let s = style_of c.args.form.now.spelling c.args.form.now.layout in
      let left : l.key-index < length c.args.fields.now = search rules in
      let v = c.loop-key-item.result in
      let next = reaches_as _ _ _ _ _ (next_field s c.args.depth l.started c.args.fields.now l.key-index v left c.loop-key-item.is) l.invariant.reaches in
      let after = Reaches-next _ (piece (comma_if l.started ++ s.line (c.args.depth + 1))) _ _ _ _ next (wrote_as _ _ _ _ (c.within-line.ensures l.started) c.in_ok-put.ensures) in
      let key = s.key (chars (string_bytes v.0)) in
      let value = laid s (c.args.depth + 1) (value_of v.1) in
      let stop = put_as _ _ _ _ (Err _) (append_assoc key (58 ∷ s.gap) value) (stop_first (key ++ 58 ∷ s.gap) value _ _ _ (Err _) refl (rw c.deref.ensures at c.in_err-put_key.ensures)) in
      Reaches-stop _ (piece (key ++ 58 ∷ (s.gap ++ value))) _ _ _ _ _ _ after c.from_residual-in_err-put_key.ensures.1 stop;
  numbers = search rules;
}

pub put_object-returns-in_err-put_value : goal.put_object-returns-in_err-put_value
put_object-returns-in_err-put_value g t c = record {
  text =
      let l = c.loop-key in
      let s = style_of c.args.form.now.spelling c.args.form.now.layout in
      let left : l.key-index < length c.args.fields.now = search rules in
      let v = c.loop-key-item.result in
      let next = reaches_as _ _ _ _ _ (next_field s c.args.depth l.started c.args.fields.now l.key-index v left c.loop-key-item.is) l.invariant.reaches in
      let after = Reaches-next _ (piece (comma_if l.started ++ s.line (c.args.depth + 1))) _ _ _ _ next (wrote_as _ _ _ _ (c.within-line.ensures l.started) c.in_ok-put.ensures) in
      let key = s.key (chars (string_bytes v.0)) in
      let value = laid s (c.args.depth + 1) (value_of v.1) in
      let stop = put_as _ _ _ _ (Err _) (append_assoc key (58 ∷ s.gap) value) (then_second (key ++ 58 ∷ s.gap) value _ _ _ (Err _) (rw c.deref.ensures at c.in_ok-put_key.ensures) c.in_err-put_value.ensures.text) in
      Reaches-stop _ (piece (key ++ 58 ∷ (s.gap ++ value))) _ _ _ _ _ _ after c.from_residual-in_err-put_value.ensures.1 stop;
  numbers = search rules;
}

pub put_object-loop-key-preserved : goal.put_object-loop-key-preserved
put_object-loop-key-preserved g t c =
    let l = c.loop-key in
    let s = style_of c.args.form.now.spelling c.args.form.now.layout in
    let left : l.key-index < length c.args.fields.now = search rules in
    let v = c.loop-key-item.result in
    let next = reaches_as _ _ _ _ _ (next_field s c.args.depth l.started c.args.fields.now l.key-index v left c.loop-key-item.is) l.invariant.reaches in
    let after = Reaches-next _ (piece (comma_if l.started ++ s.line (c.args.depth + 1))) _ _ _ _ next (wrote_as _ _ _ _ (c.within-line.ensures l.started) c.in_ok-put.ensures) in
    let key = s.key (chars (string_bytes v.0)) in
    let value = laid s (c.args.depth + 1) (value_of v.1) in
    let entry = put_as _ _ _ _ (Ok tt) (append_assoc key (58 ∷ s.gap) value) (then_second (key ++ 58 ∷ s.gap) value _ _ _ (Ok tt) (rw c.deref.ensures at c.in_ok-put_key.ensures) c.in_ok-put_value.ensures.text) in
    record {
      reaches = Reaches-next _ (piece (key ++ 58 ∷ (s.gap ++ value))) _ _ _ _ after entry;
      numbers = λ rest. l.invariant.numbers (fields_numbers c.args.fields.now l.key-index v left c.loop-key-item.is c.in_ok-put_value.ensures.numbers rest);
    }

pub put_object-returns-in_err-end_lines : goal.put_object-returns-in_err-end_lines
put_object-returns-in_err-end_lines g t c = record {
  text =
      let l = c.loop-key in
      let s = style_of c.args.form.now.spelling c.args.form.now.layout in
      let none : length c.args.fields.now ≤ l.key-index = search rules in
      let last = reaches_as _ _ _ _ _ (ap (λ x. fields_laid s c.args.depth l.started (fields_view x)) (drop_of_length-le c.args.fields.now none)) l.invariant.reaches in
      Reaches-stop _ (piece (closed s c.args.depth l.started)) (piece (125 ∷ [])) _ _ _ _ _ last c.from_residual-in_err-end_lines.ensures.1 c.in_err-end_lines.ensures;
  numbers = search rules;
}

pub put_object-returns : goal.put_object-returns
put_object-returns g t c = record {
  text =
      let l = c.loop-key in
      let s = style_of c.args.form.now.spelling c.args.form.now.layout in
      let none : length c.args.fields.now ≤ l.key-index = search rules in
      let last = reaches_as _ _ _ _ _ (ap (λ x. fields_laid s c.args.depth l.started (fields_view x)) (drop_of_length-le c.args.fields.now none)) l.invariant.reaches in
      Reaches-end _ (piece (125 ∷ [])) _ _ _ _ (Reaches-next _ (piece (closed s c.args.depth l.started)) (piece (125 ∷ [])) _ _ _ last c.in_ok-end_lines.ensures) (put_as _ _ _ _ _ chars_right_brace c.put_piece-2.ensures);
  numbers =
      let l = c.loop-key in
      let none : length c.args.fields.now ≤ l.key-index = search rules in
      on_ok c.put_piece-2.result (l.invariant.numbers (subst (λ x. FieldsHaveNumbers (fields_view x)) (sym (drop_of_length-le c.args.fields.now none)) tt));
}
