use Rattle.std.proofs.Common.{rules, false, ◌+◌, sym, ap, subst, ◌∙◌, ◌≡◌, ◌<◌, ◌≤◌, length, drop, [], ◌∷◌, drop_of_length-le}
use Rattle.std.specs.Prelude.{Ok, Err}
use Rattle.std.specs.Str.{chars}
use Rattle.json5_types.proofs.LookedUp.{from_here}
use Rattle.json5_types.proofs.ValuesCompared.{view-Null}
use Rattle.json5_grammar.specs.Language.Characters.{left_bracket, right_bracket, left_brace, right_brace, colon_sign, space}
use Rattle.json5_write.specs.WrittenTrees.{named, text, elements_of, fields_of}
use Rattle.json5_write.specs.ValueTrees.{value_tree, key_of_string}
use Rattle.json5_write.specs.Commas.{comma_before, member_line}
use Rattle.json5_write.specs.Writes.{Wrote, RefusesBy}
use Rattle.json5_write.specs.ShortWrites.{PutsTree, refusal_by}
use Rattle.json5_write.specs.Out.{out, line, piece, ◌then◌, key_out, elements_out, fields_out}
use Rattle.json5_write.proofs.OutputsJoined.{Reaches-first, Reaches-next}
use Rattle.json5_write.proofs.ShortWritesJoined.{Puts-as, Puts-stop, Reaches-stop, Reaches-end}
use Rattle.json5_write.proofs.PiecesWritten.{chars_null, chars_colon_space}
use Rattle.json5_write.proofs.Commas.{member_parts, left_first, elements_as, fields_as, element_line_on, member_line_on, element_put, element_unbegun, open_stop, element_stop, member_stop, left_closed, tree_put}
use Rattle.json5_write.proofs.ValuesInside.{item_first, tree-String, tree-Array, tree-Object}
use Rattle.json5_write.proofs.value.+tree.Goals as goal

pub put_value-returns-in-Null : goal.put_value-returns-in-Null
put_value-returns-in-Null g t c = rw (c.in-Null.is, view-Null) (rw chars_null at c.put_piece.ensures)

pub put_value-returns-in-String : goal.put_value-returns-in-String
put_value-returns-in-String g t c =
    subst (λ u. PutsTree u c.args.printer.now c.put_str.result c.put_str.new.self)
    (ap (λ b. text (chars b)) c.as_str.ensures.value ∙ sym (ap value_tree c.in-String.is ∙ tree-String c.in-String.text)) c.put_str.ensures

pub put_value-returns-in-Array : goal.put_value-returns-in-Array
put_value-returns-in-Array g t c = rw (c.in-Array.is, tree-Array c.in-Array.items, ← c.deref.ensures.value) c.put_elements.ensures

pub put_value-returns-in-Object : goal.put_value-returns-in-Object
put_value-returns-in-Object g t c = rw (c.in-Object.is, tree-Object c.in-Object.fields, ← c.deref-in-Object.ensures.value) c.put_members.ensures

-- ---- arrays

pub put_elements-returns-in_err-open_brackets : goal.put_elements-returns-in_err-open_brackets
put_elements-returns-in_err-open_brackets g t c =
    let at = c.args.printer.now in
    open_stop left_bracket (elements_out at.limit (elements_of value_tree c.args.items.now) at.depth false) at _ _ _ c.in_err-open_brackets.ensures.opens c.from_residual.ensures.1

pub put_elements-loop-item-init : goal.put_elements-loop-item-init
put_elements-loop-item-init g t c = record { left = left_first left_bracket _ _ _ c.in_ok-open_brackets.ensures.opens c.in_ok-open_brackets.ensures.deeper }

pub put_elements-returns-in_err-start_line : goal.put_elements-returns-in_err-start_line
put_elements-returns-in_err-start_line g t c =
    let left : c.loop-item.item-index < length c.args.items.now = search rules in
    let next = elements_as c.loop-item.comma_due (ap (elements_of value_tree) (item_first c.args.items.now c.loop-item.item-index c.item-item.result left c.item-item.is)) c.loop-item.invariant.left in
    element_stop _ _ _ _ _ c.loop-item.comma_due next (element_unbegun c.loop-item.printer _ _ c.loop-item.comma_due _ c.in_err-start_line.ensures) c.from_residual-in_err-start_line.ensures.1

pub put_elements-returns-in_err-put_value : goal.put_elements-returns-in_err-put_value
put_elements-returns-in_err-put_value g t c =
    let left : c.loop-item.item-index < length c.args.items.now = search rules in
    let next = elements_as c.loop-item.comma_due (ap (elements_of value_tree) (item_first c.args.items.now c.loop-item.item-index c.item-item.result left c.item-item.is)) c.loop-item.invariant.left in
    element_stop _ _ _ _ _ c.loop-item.comma_due next (element_put _ c.loop-item.comma_due _ (Err c.in_err-put_value.field-0.0) c.in_ok-start_line.ensures c.in_err-put_value.ensures) c.from_residual-in_err-put_value.ensures.1

pub put_elements-loop-item-preserved : goal.put_elements-loop-item-preserved
put_elements-loop-item-preserved g t c =
    let left : c.loop-item.item-index < length c.args.items.now = search rules in
    let next = elements_as c.loop-item.comma_due (ap (elements_of value_tree) (item_first c.args.items.now c.loop-item.item-index c.item-item.result left c.item-item.is)) c.loop-item.invariant.left in
    record { left = element_line_on _ _ c.loop-item.comma_due next (element_put _ c.loop-item.comma_due _ (Ok tt) c.in_ok-start_line.ensures c.in_ok-put_value.ensures) }

pub put_elements-returns : goal.put_elements-returns
put_elements-returns g t c =
    let none : length c.args.items.now ≤ c.loop-item.item-index = search rules in
    let last = elements_as c.loop-item.comma_due (ap (elements_of value_tree) (drop_of_length-le c.args.items.now none)) c.loop-item.invariant.left in
    left_closed right_bracket _ _ c.loop-item.comma_due last c.close_brackets.ensures

-- ---- objects

pub put_members-returns-in_err-open_brackets : goal.put_members-returns-in_err-open_brackets
put_members-returns-in_err-open_brackets g t c =
    let at = c.args.printer.now in
    open_stop left_brace (fields_out at.limit (fields_of key_of_string value_tree c.args.fields.now) at.depth false) at _ _ _ c.in_err-open_brackets.ensures.opens c.from_residual.ensures.1

pub put_members-loop-key-init : goal.put_members-loop-key-init
put_members-loop-key-init g t c = record { left = left_first left_brace _ _ _ c.in_ok-open_brackets.ensures.opens c.in_ok-open_brackets.ensures.deeper }

pub put_members-returns-in_err-put_member : goal.put_members-returns-in_err-put_member
put_members-returns-in_err-put_member g t c =
    let left : c.loop-key.key-index < length c.args.fields.now = search rules in
    let next = fields_as c.loop-key.comma_due (ap (fields_of key_of_string value_tree) (from_here c.args.fields.now c.loop-key.key-index c.loop-key-item.result left c.loop-key-item.is)) c.loop-key.invariant.left in
    member_stop _ _ (key_of_string c.loop-key-item.result.0) (value_tree c.loop-key-item.result.1) (fields_of key_of_string value_tree (drop (c.loop-key.key-index + 1) c.args.fields.now)) _ c.loop-key.comma_due next (subst (λ b. RefusesBy (comma_before c.loop-key.comma_due (member_line c.loop-key.printer.limit c.loop-key.printer.depth (named (chars b)) (value_tree c.loop-key-item.result.1))) c.loop-key.printer (refusal_by c.in_err-put_member.field-0.0) c.put_member.new.printer) c.deref.ensures c.in_err-put_member.ensures) c.from_residual-in_err-put_member.ensures.1

pub put_members-loop-key-preserved : goal.put_members-loop-key-preserved
put_members-loop-key-preserved g t c =
    let left : c.loop-key.key-index < length c.args.fields.now = search rules in
    let next = fields_as c.loop-key.comma_due (ap (fields_of key_of_string value_tree) (from_here c.args.fields.now c.loop-key.key-index c.loop-key-item.result left c.loop-key-item.is)) c.loop-key.invariant.left in
    record { left = member_line_on (key_of_string c.loop-key-item.result.0) (value_tree c.loop-key-item.result.1) (fields_of key_of_string value_tree (drop (c.loop-key.key-index + 1) c.args.fields.now)) c.loop-key.comma_due next (subst (λ b. Wrote (comma_before c.loop-key.comma_due (member_line c.loop-key.printer.limit c.loop-key.printer.depth (named (chars b)) (value_tree c.loop-key-item.result.1))) c.loop-key.printer c.put_member.new.printer) c.deref.ensures c.in_ok-put_member.ensures) }

pub put_members-returns : goal.put_members-returns
put_members-returns g t c =
    let none : drop c.loop-key.key-index c.args.fields.now ≡ [] = drop_of_length-le c.args.fields.now (search rules) in
    let last = fields_as c.loop-key.comma_due (ap (fields_of key_of_string value_tree) none) c.loop-key.invariant.left in
    left_closed right_brace _ _ c.loop-key.comma_due last c.close_brackets.ensures

pub put_member-returns-in_err-start_line : goal.put_member-returns-in_err-start_line
put_member-returns-in_err-start_line g t c =
    let s = c.args.printer.now in
    let k = named (chars c.args.key.now) in
    let u = value_tree c.args.value.now in
    let rest = piece (colon_sign ∷ space ∷ []) then out s.limit u s.depth in
    Puts-as _ _ _ _ _ (member_parts c.args.comma_due s.limit s.depth k u) (Puts-stop (comma_before c.args.comma_due (piece (line s.depth))) (key_out k then rest) _ _ _ _ c.from_residual.ensures.1 c.in_err-start_line.ensures)

pub put_member-returns-in_err-put_key : goal.put_member-returns-in_err-put_key
put_member-returns-in_err-put_key g t c =
    let s = c.args.printer.now in
    let k = named (chars c.args.key.now) in
    let u = value_tree c.args.value.now in
    let rest = piece (colon_sign ∷ space ∷ []) then out s.limit u s.depth in
    let first = Reaches-first (comma_before c.args.comma_due (piece (line s.depth))) (key_out k then rest) _ _ c.in_ok-start_line.ensures in
    Puts-as _ _ _ _ _ (member_parts c.args.comma_due s.limit s.depth k u) (Reaches-stop _ (key_out k) rest _ _ _ _ _ first c.from_residual-in_err-put_key.ensures.1 c.in_err-put_key.ensures)

pub put_member-returns-in_err-put_piece : goal.put_member-returns-in_err-put_piece
put_member-returns-in_err-put_piece g t c =
    let s = c.args.printer.now in
    let k = named (chars c.args.key.now) in
    let u = value_tree c.args.value.now in
    let o = out s.limit u s.depth in
    let colon = piece (colon_sign ∷ space ∷ []) in
    let first = Reaches-first (comma_before c.args.comma_due (piece (line s.depth))) (key_out k then (colon then o)) _ _ c.in_ok-start_line.ensures in
    let next = Reaches-next _ (key_out k) (colon then o) _ _ _ first c.in_ok-put_key.ensures in
    Puts-as _ _ _ _ _ (member_parts c.args.comma_due s.limit s.depth k u) (Reaches-stop _ colon o _ _ _ _ _ next c.from_residual-in_err-put_piece.ensures.1 (rw chars_colon_space at c.in_err-put_piece.ensures))

pub put_member-returns : goal.put_member-returns
put_member-returns g t c =
    let s = c.args.printer.now in
    let k = named (chars c.args.key.now) in
    let u = value_tree c.args.value.now in
    let o = out s.limit u s.depth in
    let colon = piece (colon_sign ∷ space ∷ []) in
    let put = rw chars_colon_space at c.in_ok-put_piece.ensures in
    let first = Reaches-first (comma_before c.args.comma_due (piece (line s.depth))) (key_out k then (colon then o)) _ _ c.in_ok-start_line.ensures in
    let next = Reaches-next _ (key_out k) (colon then o) _ _ _ first c.in_ok-put_key.ensures in
    let value = tree_put _ _ _ u c.in_ok-start_line.ensures (tree_put _ _ _ u c.in_ok-put_key.ensures (tree_put _ _ _ u put c.put_value.ensures)) in
    Puts-as _ _ _ _ _ (member_parts c.args.comma_due s.limit s.depth k u) (Reaches-end _ o _ _ _ _ (Reaches-next _ colon o _ _ _ next put) value)
