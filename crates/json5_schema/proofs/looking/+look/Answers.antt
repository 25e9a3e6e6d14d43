use Rattle.std.proofs.Common.{◌≡◌, ◌∙◌, ◌+◌, arith, ap, sym, refl, drop, inl, inr, None, rules, string_bytes}
use Rattle.std.specs.Str.{chars}
use Rattle.std.proofs.lemmas.Result.{err_from_is_err_and}
use Rattle.std.proofs.lemmas.Grind.{common_steps}
use Rattle.json5_types.specs.declared.value.Value.{the_lemmas}
use Rattle.json5_types.specs.ValueMeanings.{boolean, array, object, value_of, items_view, fields_view}
use Rattle.json5_types.specs.ValueLookups.{boolean_of, items_in, fields_in}
use Rattle.json5_types.proofs.ValuesCompared.{view-Array, view-Object}
use Rattle.json5_types.proofs.LookedUp.{from_here}
use Rattle.json5_schema.proofs.Knowing.{map_ok, value_from}
use Rattle.json5_schema.proofs.Shaping.{alone_either_held, alone_held, boolean_taken, by_holding_of, each_taken, either_held, elements_held, first_named_taken, first_shaped, first_taken, keywords_shaped, members_held, named_taken, no_elements_held, no_members_held, none_held, through}
use Rattle.json5_schema.specs.declared.faults.Problem.TheVariants as problem
use Rattle.json5_schema.specs.declared.shape.Holding.TheVariants as holding
use Rattle.json5_schema.specs.declared.shape.Shape.TheVariants as shape
use Rattle.json5_schema.specs.Refusals.{asks_beside, format_shape, id_shape, IsFaulty, IsFaultySchema, IsWrong}
use Rattle.json5_schema.specs.RefusalSteps.{members_by, IsFaultyArgument, IsFaultyBy, IsFaultyKeyword, IsFaultyMember, IsOutOfShape}
use Rattle.json5_schema.specs.Shapes.{holding_of}
use Rattle.json5_schema.proofs.Refusing.{because, widened, refused, element_at, member_at, keyword_of, out_of_shape, no_schema, by_holding, alone_faulty, either_faulty, alone_either_faulty, element_faulty, member_faulty, argument_there, both_yes, other_names}
use Rattle.json5_schema.proofs.looking.+look.Goals as goal

pub look-returns-in-Bool-clause-taken : goal.look-returns-in-Bool-clause-taken
look-returns-in-Bool-clause-taken t c =
    let is : value_of c.args.schema.now ≡ boolean c.in-Bool.field-0 = first_of (search (rules, the_lemmas), search rules, grind (arith, common_steps)) in
    boolean_taken (value_of c.args.schema.now) c.in-Bool.field-0 is

pub look-returns-in-Object-clause-taken : goal.look-returns-in-Object-clause-taken
look-returns-in-Object-clause-taken t c = rw (c.in-Object.is, view-Object c.in-Object.keywords, ← c.deref.ensures.value) c.look_at_keywords.ensures.taken

pub look_at_keywords-loop-name-preserved : goal.look_at_keywords-loop-name-preserved
look_at_keywords-loop-name-preserved t c =
    let l = c.loop-name in
    let f = c.loop-name-item.result in
    let rest = drop (l.name-index + 1) c.args.keywords.now in
    let left = from_here c.args.keywords.now l.name-index f (omega (arith, c.loop-name-test.true)) c.loop-name-item.is in
    λ h. l.invariant (first_shaped f c.as_str.result.now rest (drop l.name-index c.args.keywords.now) left c.as_str.ensures.value c.as_str.utf8 c.in_ok-look_at_keyword.ensures.taken h)

pub look_at_keywords-returns-clause-taken : goal.look_at_keywords-returns-clause-taken
look_at_keywords-returns-clause-taken t c =
    let l = c.loop-name in
    keywords_shaped c.args.keywords.now l.name-index (omega (arith, c.loop-name-test.false)) l.invariant

pub look_at_keyword-returns-clause-taken : goal.look_at_keyword-returns-clause-taken
look_at_keyword-returns-clause-taken t c =
    map_ok c.look_at.result (through c.args.name.now (value_of c.args.argument.now) c.shape_in-shape.result (format_shape c.args.rules) (id_shape c.args.rules (value_of c.args.argument.now)) c.shape_in-shape.ensures) c.look_at.ensures.taken

pub look_at-returns-clause-taken : goal.look_at-returns-clause-taken
look_at-returns-clause-taken t c = map_ok c.look_into.result (λ held. (c.in_ok-check_shape.ensures.taken, held)) c.look_into.ensures.taken

pub look_into-returns-in-Nothing-clause-taken : goal.look_into-returns-in-Nothing-clause-taken
look_into-returns-in-Nothing-clause-taken t c = by_holding_of c.args.shape _ (value_of c.args.argument.now) (sym c.in-Nothing.is ∙ c.holding_of.ensures) (none_held (value_of c.args.argument.now))

pub look_into-returns-in-Alone-clause-taken : goal.look_into-returns-in-Alone-clause-taken
look_into-returns-in-Alone-clause-taken t c =
    map_ok c.look.result (λ t. by_holding_of c.args.shape _ (value_of c.args.argument.now) (sym c.in-Alone.is ∙ c.holding_of.ensures) (alone_held (value_of c.args.argument.now) t)) c.look.ensures.taken

pub look_into-returns-in-Elements-clause-taken : goal.look_into-returns-in-Elements-clause-taken
look_into-returns-in-Elements-clause-taken t c =
    map_ok c.look_at_elements.result (by_holding_of c.args.shape _ (value_of c.args.argument.now) (sym c.in-Elements.is ∙ c.holding_of.ensures)) c.look_at_elements.ensures.taken

pub look_into-returns-in-AloneOrElements-clause-taken : goal.look_into-returns-in-AloneOrElements-clause-taken
look_into-returns-in-AloneOrElements-clause-taken t c =
    map_ok c.look_at_either.result (by_holding_of c.args.shape _ (value_of c.args.argument.now) (sym c.in-AloneOrElements.is ∙ c.holding_of.ensures)) c.look_at_either.ensures.taken

pub look_into-returns-in-Members-clause-taken : goal.look_into-returns-in-Members-clause-taken
look_into-returns-in-Members-clause-taken t c =
    map_ok c.look_at_members.result (by_holding_of c.args.shape _ (value_of c.args.argument.now) (sym c.in-Members.is ∙ c.holding_of.ensures)) c.look_at_members.ensures.taken

pub look_into-returns-in-MembersOrNames-clause-taken : goal.look_into-returns-in-MembersOrNames-clause-taken
look_into-returns-in-MembersOrNames-clause-taken t c =
    map_ok c.look_at_members-in-MembersOrNames.result (by_holding_of c.args.shape _ (value_of c.args.argument.now) (sym c.in-MembersOrNames.is ∙ c.holding_of.ensures)) c.look_at_members-in-MembersOrNames.ensures.taken

pub look_at_elements-returns-in-Array-clause-taken : goal.look_at_elements-returns-in-Array-clause-taken
look_at_elements-returns-in-Array-clause-taken t c =
    let is = ap value_of c.in-Array.is ∙ view-Array c.in-Array.schemas in
    map_ok c.look_at_each.result (λ h. elements_held (value_of c.args.argument.now) _ is (rw (← c.deref.ensures.value) h)) c.look_at_each.ensures.taken

pub look_at_elements-returns-in_default-clause-taken : goal.look_at_elements-returns-in_default-clause-taken
look_at_elements-returns-in_default-clause-taken t c =
    let none : items_in (value_of c.args.argument.now) ≡ None = first_of (search (rules, the_lemmas), search rules, grind (arith, common_steps)) in
    no_elements_held (value_of c.args.argument.now) none

pub look_at_either-returns-in-Array-clause-taken : goal.look_at_either-returns-in-Array-clause-taken
look_at_either-returns-in-Array-clause-taken t c =
    let is = ap value_of c.in-Array.is ∙ view-Array c.in-Array.schemas in
    map_ok c.look_at_each.result (λ h. either_held (value_of c.args.argument.now) _ is (rw (← c.deref.ensures.value) h)) c.look_at_each.ensures.taken

pub look_at_either-returns-in_default-clause-taken : goal.look_at_either-returns-in_default-clause-taken
look_at_either-returns-in_default-clause-taken t c =
    let none : items_in (value_of c.args.argument.now) ≡ None = first_of (search (rules, the_lemmas), search rules, grind (arith, common_steps)) in
    map_ok c.look.result (alone_either_held (value_of c.args.argument.now) none) c.look.ensures.taken

pub look_at_members-returns-in-Object-clause-taken : goal.look_at_members-returns-in-Object-clause-taken
look_at_members-returns-in-Object-clause-taken t c =
    let is = ap value_of c.in-Object.is ∙ view-Object c.in-Object.schemas in
    map_ok c.look_at_named.result (λ h. members_held c.args.or_names (value_of c.args.argument.now) _ is (rw (← c.deref.ensures.value) h)) c.look_at_named.ensures.taken

pub look_at_members-returns-in_default-clause-taken : goal.look_at_members-returns-in_default-clause-taken
look_at_members-returns-in_default-clause-taken t c =
    let none : fields_in (value_of c.args.argument.now) ≡ None = first_of (search (rules, the_lemmas), search rules, grind (arith, common_steps)) in
    no_members_held c.args.or_names (value_of c.args.argument.now) none

pub look_at_each-loop-index-preserved : goal.look_at_each-loop-index-preserved
look_at_each-loop-index-preserved t c =
    let l = c.loop-index in
    let x = c.index-schemas-index.result in
    let rest = drop (l.index-counter + 1) c.args.schemas.now in
    let left = value_from c.args.schemas.now l.index-counter x (omega (arith, c.loop-index-test.true)) c.index-schemas-index.is in
    λ h. l.invariant (first_taken x rest (drop l.index-counter c.args.schemas.now) left c.in_ok-look.ensures.taken h)

pub look_at_each-returns-clause-taken : goal.look_at_each-returns-clause-taken
look_at_each-returns-clause-taken t c =
    let l = c.loop-index in
    each_taken c.args.schemas.now l.index-counter (omega (arith, c.loop-index-test.false)) l.invariant

pub look_at_named-loop-name-preserved : goal.look_at_named-loop-name-preserved
look_at_named-loop-name-preserved t c =
    let l = c.loop-name in
    let f = c.loop-name-item.result in
    let rest = drop (l.name-index + 1) c.args.schemas.now in
    let left = from_here c.args.schemas.now l.name-index f (omega (arith, c.loop-name-test.true)) c.loop-name-item.is in
    λ h. l.invariant (first_named_taken c.args.or_names f rest (drop l.name-index c.args.schemas.now) left c.in_ok-look_at_member.ensures.taken h)

pub look_at_named-returns-clause-taken : goal.look_at_named-returns-clause-taken
look_at_named-returns-clause-taken t c =
    let l = c.loop-name in
    named_taken c.args.or_names c.args.schemas.now l.name-index (omega (arith, c.loop-name-test.false)) l.invariant

pub look_at_member-returns-clause-taken : goal.look_at_member-returns-clause-taken
look_at_member-returns-clause-taken t c = map_ok c.look.result (λ t. inr t) c.look.ensures.taken

-- ---- refusals

pub look-returns-in_default-clause-refused : goal.look-returns-in_default-clause-refused
look-returns-in_default-clause-refused t c =
    let none : boolean_of (value_of c.args.schema.now) ≡ None = first_of (search (rules, the_lemmas), search rules, grind (arith, common_steps)) in
    let other : fields_in (value_of c.args.schema.now) ≡ None = first_of (search (rules, the_lemmas), search rules, grind (arith, common_steps)) in
    because c.fault.result (IsFaultySchema c.args.rules (value_of c.args.schema.now)) (problem.Expected shape.Schema) c.fault.ensures (inl (refl, no_schema (value_of c.args.schema.now) none other))

pub look-returns-in-Object-clause-refused : goal.look-returns-in-Object-clause-refused
look-returns-in-Object-clause-refused t c =
    rw (c.in-Object.is, view-Object c.in-Object.keywords, ← c.deref.ensures.value)
    (refused c.look_at_keywords.result (IsFaulty c.args.rules (object (fields_view c.deref.result.now))) (IsFaultySchema c.args.rules (object (fields_view c.deref.result.now))) (λ p k. inr k) c.look_at_keywords.ensures.refused)

pub look_at_keywords-returns-in_err-look_at_keyword-clause-refused : goal.look_at_keywords-returns-in_err-look_at_keyword-clause-refused
look_at_keywords-returns-in_err-look_at_keyword-clause-refused t c =
    let l = c.loop-name in
    let f = c.loop-name-item.result in
    let fs = fields_view c.args.keywords.now in
    let (y, is, from) = err_from_is_err_and c.from_residual.result c.from_residual.ensures.1 in
    rw (is, from) (widened _ (IsFaultyKeyword c.args.rules c.is_lone_reference-refers.result c.as_str.result.now (value_of f.1)) (IsFaulty c.args.rules (object fs))
    (λ p k. keyword_of c.args.rules c.is_lone_reference-refers.result c.args.keywords.now l.name-index f c.as_str.result.now p (omega (arith, c.loop-name-test.true)) c.loop-name-item.is c.as_str.ensures.value c.as_str.utf8 c.is_lone_reference-refers.ensures k)
    c.in_err-look_at_keyword.ensures.refused)

pub look_at_keyword-returns-then-is_passed_over-clause-refused : goal.look_at_keyword-returns-then-is_passed_over-clause-refused
look_at_keyword-returns-then-is_passed_over-clause-refused t c =
    let (on, asks) = both_yes c.args.refers _ (sym c.is_passed_over.ensures ∙ c.if-is_passed_over.true) in
    because c.fault.result (IsFaultyKeyword c.args.rules c.args.refers c.args.name.now (value_of c.args.argument.now)) problem.BesideReference c.fault.ensures
    (inl (refl, on, ap (asks_beside c.args.name.now) (sym c.shape_in-shape.ensures) ∙ asks))

pub look_at_keyword-returns-clause-refused : goal.look_at_keyword-returns-clause-refused
look_at_keyword-returns-clause-refused t c =
    refused c.look_at.result (IsFaultyArgument c.inner.result c.args.name.now c.shape_in-shape.result (value_of c.args.argument.now)) (IsFaultyKeyword c.args.rules c.args.refers c.args.name.now (value_of c.args.argument.now))
    (λ p k. inr (argument_there c.args.rules c.inner.result c.args.name.now c.shape_in-shape.result (value_of c.args.argument.now) p c.inner.ensures c.shape_in-shape.ensures k)) c.look_at.ensures.refused

pub look_at-returns-in_err-check_shape-clause-refused : goal.look_at-returns-in_err-check_shape-clause-refused
look_at-returns-in_err-check_shape-clause-refused t c =
    let (y, is, from) = err_from_is_err_and c.from_residual.result c.from_residual.ensures.1 in
    rw (is, from) (widened _ (IsOutOfShape c.args.shape (value_of c.args.argument.now)) (IsFaultyArgument c.args.rules c.args.name.now c.args.shape (value_of c.args.argument.now))
    (λ p k. inl (out_of_shape c.args.rules.is_strict c.args.name.now c.args.shape (value_of c.args.argument.now) p k)) c.in_err-check_shape.ensures.refused)

pub look_at-returns-in_err-note_text-clause-refused : goal.look_at-returns-in_err-note_text-clause-refused
look_at-returns-in_err-note_text-clause-refused t c =
    let (y, is, from) = err_from_is_err_and c.from_residual-in_err-note_text.result c.from_residual-in_err-note_text.ensures.1 in
    rw (is, from) (widened _ (IsWrong c.args.rules.is_strict c.args.name.now c.args.shape (value_of c.args.argument.now)) (IsFaultyArgument c.args.rules c.args.name.now c.args.shape (value_of c.args.argument.now))
    (λ p k. inl k) c.in_err-note_text.ensures)

pub look_at-returns-clause-refused : goal.look_at-returns-clause-refused
look_at-returns-clause-refused t c =
    refused c.look_into.result (IsFaultyBy c.args.rules (holding_of c.args.shape) (value_of c.args.argument.now)) (IsFaultyArgument c.args.rules c.args.name.now c.args.shape (value_of c.args.argument.now)) (λ p k. inr k) c.look_into.ensures.refused

pub look_into-returns-in-Alone-clause-refused : goal.look_into-returns-in-Alone-clause-refused
look_into-returns-in-Alone-clause-refused t c =
    by_holding c.look.result c.args.rules c.args.shape _ (value_of c.args.argument.now) (sym c.in-Alone.is ∙ c.holding_of.ensures)
    (refused c.look.result (IsFaultySchema c.args.rules (value_of c.args.argument.now)) (IsFaultyBy c.args.rules holding.Alone (value_of c.args.argument.now)) (alone_faulty c.args.rules (value_of c.args.argument.now)) c.look.ensures.refused)

pub look_into-returns-in-Elements-clause-refused : goal.look_into-returns-in-Elements-clause-refused
look_into-returns-in-Elements-clause-refused t c =
    by_holding c.look_at_elements.result c.args.rules c.args.shape _ (value_of c.args.argument.now) (sym c.in-Elements.is ∙ c.holding_of.ensures) c.look_at_elements.ensures.refused

pub look_into-returns-in-AloneOrElements-clause-refused : goal.look_into-returns-in-AloneOrElements-clause-refused
look_into-returns-in-AloneOrElements-clause-refused t c =
    by_holding c.look_at_either.result c.args.rules c.args.shape _ (value_of c.args.argument.now) (sym c.in-AloneOrElements.is ∙ c.holding_of.ensures) c.look_at_either.ensures.refused

pub look_into-returns-in-Members-clause-refused : goal.look_into-returns-in-Members-clause-refused
look_into-returns-in-Members-clause-refused t c =
    by_holding c.look_at_members.result c.args.rules c.args.shape _ (value_of c.args.argument.now) (sym c.in-Members.is ∙ c.holding_of.ensures) c.look_at_members.ensures.refused

pub look_into-returns-in-MembersOrNames-clause-refused : goal.look_into-returns-in-MembersOrNames-clause-refused
look_into-returns-in-MembersOrNames-clause-refused t c =
    by_holding c.look_at_members-in-MembersOrNames.result c.args.rules c.args.shape _ (value_of c.args.argument.now) (sym c.in-MembersOrNames.is ∙ c.holding_of.ensures) c.look_at_members-in-MembersOrNames.ensures.refused

pub look_at_elements-returns-in-Array-clause-refused : goal.look_at_elements-returns-in-Array-clause-refused
look_at_elements-returns-in-Array-clause-refused t c =
    rw (c.in-Array.is, view-Array c.in-Array.schemas, ← c.deref.ensures.value) c.look_at_each.ensures.refused

pub look_at_either-returns-in-Array-clause-refused : goal.look_at_either-returns-in-Array-clause-refused
look_at_either-returns-in-Array-clause-refused t c =
    rw (c.in-Array.is, view-Array c.in-Array.schemas, ← c.deref.ensures.value)
    (refused c.look_at_each.result (IsFaultyBy c.args.rules holding.Elements (array (items_view c.deref.result.now))) (IsFaultyBy c.args.rules holding.AloneOrElements (array (items_view c.deref.result.now)))
    (either_faulty c.args.rules (items_view c.deref.result.now)) c.look_at_each.ensures.refused)

pub look_at_either-returns-in_default-clause-refused : goal.look_at_either-returns-in_default-clause-refused
look_at_either-returns-in_default-clause-refused t c =
    let none : items_in (value_of c.args.argument.now) ≡ None = first_of (search (rules, the_lemmas), search rules, grind (arith, common_steps)) in
    refused c.look.result (IsFaultySchema c.args.rules (value_of c.args.argument.now)) (IsFaultyBy c.args.rules holding.AloneOrElements (value_of c.args.argument.now))
    (λ p k. alone_either_faulty c.args.rules (value_of c.args.argument.now) p none k) c.look.ensures.refused

pub look_at_members-returns-in-Object-clause-refused : goal.look_at_members-returns-in-Object-clause-refused
look_at_members-returns-in-Object-clause-refused t c =
    rw (c.in-Object.is, view-Object c.in-Object.schemas, ← c.deref.ensures.value) c.look_at_named.ensures.refused

pub look_at_each-returns-in_err-look-clause-refused : goal.look_at_each-returns-in_err-look-clause-refused
look_at_each-returns-in_err-look-clause-refused t c =
    let l = c.loop-index in
    let x = c.index-schemas-index.result in
    let xs = items_view c.args.schemas.now in
    let (y, is, from) = err_from_is_err_and c.from_residual-in_err-look.result c.from_residual-in_err-look.ensures.1 in
    rw (is, from) (widened _ (IsFaultySchema c.args.rules (value_of x)) (IsFaultyBy c.args.rules holding.Elements (array xs))
    (λ p k. element_faulty c.args.rules (value_of x) xs p (element_at c.args.schemas.now l.index-counter x (omega (arith, c.loop-index-test.true)) c.index-schemas-index.is) k) c.in_err-look.ensures.refused)

pub look_at_named-returns-in_err-look_at_member-clause-refused : goal.look_at_named-returns-in_err-look_at_member-clause-refused
look_at_named-returns-in_err-look_at_member-clause-refused t c =
    let l = c.loop-name in
    let f = c.loop-name-item.result in
    let fs = fields_view c.args.schemas.now in
    let (y, is, from) = err_from_is_err_and c.from_residual-in_err-look_at_member.result c.from_residual-in_err-look_at_member.ensures.1 in
    rw (is, from) (widened _ (IsFaultyMember c.args.rules c.args.or_names (value_of f.1)) (IsFaultyBy c.args.rules (members_by c.args.or_names) (object fs))
    (λ p k. member_faulty c.args.rules c.args.or_names (chars (string_bytes f.0)) (value_of f.1) fs p (member_at c.args.schemas.now l.name-index f (omega (arith, c.loop-name-test.true)) c.loop-name-item.is) k) c.in_err-look_at_member.ensures.refused)

pub look_at_member-returns-then-are_names_there-clause-taken : goal.look_at_member-returns-then-are_names_there-clause-taken
look_at_member-returns-then-are_names_there-clause-taken t c = inl (both_yes c.args.or_names _ (sym c.are_names_there.ensures ∙ c.if-are_names_there.true))

pub look_at_member-returns-clause-refused : goal.look_at_member-returns-clause-refused
look_at_member-returns-clause-refused t c =
    let other = other_names c.args.or_names _ (sym c.are_names_there.ensures ∙ c.if-are_names_there.false) in
    refused c.look.result (IsFaultySchema c.args.rules (value_of c.args.schema.now)) (IsFaultyMember c.args.rules c.args.or_names (value_of c.args.schema.now)) (λ p k. (other, k)) c.look.ensures.refused
