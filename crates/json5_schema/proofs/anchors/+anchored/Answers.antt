use Rattle.std.proofs.Common.{◌∙◌, ◌+◌, ◌≡◌, List, String, drop, None, arith, rules, refl, sym, ap}
use Rattle.std.proofs.lemmas.Grind.{common_steps}
use Rattle.std.specs.declared.alloc.Global.{Global}
use Rattle.json5_types.specs.declared.value.Value.{Value, the_lemmas}
use Rattle.json5_types.specs.ValueMeanings.{object, value_of, fields_view}
use Rattle.json5_types.specs.ValueLookups.{or_else, items_in, fields_in}
use Rattle.json5_types.proofs.ValuesCompared.{view-Object}
use Rattle.json5_types.proofs.LookedUp.{from_here}
use Rattle.json5_schema.specs.Conformance.{anchored_in}
use Rattle.json5_schema.proofs.Conforming.{rest_is}
use Rattle.json5_schema.proofs.Anchoring.{here_anchored, inner_anchored, through_schema, through_members, through_nothing, keyword_first, found_first, kept_found, none_first}
use Rattle.json5_schema.proofs.anchors.+anchored.Goals as goal

pub anchored-returns-in-Object : goal.anchored-returns-in-Object
anchored-returns-in-Object t c =
    let fs = c.deref.result.now in
    let is = ap value_of c.in-Object.is ∙ (view-Object c.in-Object.keywords ∙ ap (λ (xs : List (String Global × Value)). object (fields_view xs)) (sym c.deref.ensures.value)) in
    here_anchored (value_of c.args.schema.now) (fields_view fs) c.args.name.now is (sym c.has_anchor.ensures ∙ c.if-has_anchor.true)

pub anchored-returns-in-Object-2 : goal.anchored-returns-in-Object-2
anchored-returns-in-Object-2 t c =
    let fs = c.deref.result.now in
    let gs = c.deref-in-Object-2.result.now in
    let is = ap value_of c.in-Object.is ∙ (view-Object c.in-Object.keywords ∙ ap (λ (xs : List (String Global × Value)). object (fields_view xs)) (sym c.deref.ensures.value)) in
    let was = ap value_of c.in-Object-2.is ∙ (view-Object c.in-Object-2.keywords ∙ ap (λ (xs : List (String Global × Value)). object (fields_view xs)) (sym c.deref-in-Object-2.ensures.value)) in
    c.anchored_in.ensures ∙ inner_anchored (value_of c.args.schema.now) (fields_view fs) (fields_view gs) c.args.name.now is was (sym c.has_anchor.ensures ∙ c.if-has_anchor.false)

pub anchored_in-returns-then-is_some : goal.anchored_in-returns-then-is_some
anchored_in-returns-then-is_some t c =
    let l = c.loop-index in
    let f = c.index-keywords-index.result in
    let all = c.args.keywords.now in
    let rest = drop (l.index + 1) all in
    let left = from_here all l.index f (omega arith) c.index-keywords-index.is in
    let first = keyword_first c.args.name.now c.as_str-word.result.now f rest _ (drop l.index all) _ left (rest_is all (l.index + 1)) c.as_str-word.ensures.value c.as_str-word.utf8 refl in
    let there = sym c.is_some.ensures ∙ c.if-is_some.true in
    let kept = kept_found _ _ _ _ c.unless_named-found.ensures c.anchored_through-through.ensures in
    found_first c.unless_named-found.result (anchored_in c.args.name.now (fields_view rest)) there ∙ (ap (λ o. or_else o (anchored_in c.args.name.now (fields_view rest))) kept ∙ (sym first ∙ l.invariant))

pub anchored_in-loop-index-preserved : goal.anchored_in-loop-index-preserved
anchored_in-loop-index-preserved t c =
    let l = c.loop-index in
    let f = c.index-keywords-index.result in
    let all = c.args.keywords.now in
    let rest = drop (l.index + 1) all in
    let left = from_here all l.index f (omega arith) c.index-keywords-index.is in
    let first = keyword_first c.args.name.now c.as_str-word.result.now f rest _ (drop l.index all) _ left (rest_is all (l.index + 1)) c.as_str-word.ensures.value c.as_str-word.utf8 refl in
    let none = sym c.is_some.ensures ∙ c.if-is_some.false in
    let kept = kept_found _ _ _ _ c.unless_named-found.ensures c.anchored_through-through.ensures in
    sym (first ∙ (ap (λ o. or_else o (anchored_in c.args.name.now (fields_view rest))) (sym kept) ∙ none_first c.unless_named-found.result _ none)) ∙ l.invariant

pub anchored_through-returns-in-Object : goal.anchored_through-returns-in-Object
anchored_through-returns-in-Object t c =
    c.anchored.ensures ∙ through_schema (value_of c.args.argument.now) _ c.args.name.now c.args.word.now (ap value_of c.in-Object.is ∙ view-Object _) (sym c.takes_schema.ensures ∙ c.if-takes_schema.true)

pub anchored_through-returns-in-Object-2 : goal.anchored_through-returns-in-Object-2
anchored_through-returns-in-Object-2 t c =
    let is = ap value_of c.in-Object-2.is ∙ (view-Object c.in-Object-2.schemas ∙ ap (λ (xs : List (String Global × Value)). object (fields_view xs)) (sym c.deref-in-Object-2.ensures.value)) in
    c.anchored_members.ensures ∙ through_members (value_of c.args.argument.now) (fields_view c.deref-in-Object-2.result.now) c.args.name.now c.args.word.now is (sym c.takes_schema.ensures ∙ c.if-takes_schema.false)

pub anchored_through-returns-in_default : goal.anchored_through-returns-in_default
anchored_through-returns-in_default t c =
    let no_items : items_in (value_of c.args.argument.now) ≡ None = first_of (search (rules, the_lemmas), search rules, grind (arith, common_steps)) in
    let no_fields : fields_in (value_of c.args.argument.now) ≡ None = first_of (search (rules, the_lemmas), search rules, grind (arith, common_steps)) in
    through_nothing (value_of c.args.argument.now) c.args.name.now c.args.word.now no_items no_fields
