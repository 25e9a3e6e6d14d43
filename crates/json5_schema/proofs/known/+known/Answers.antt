use Rattle.std.proofs.Common.{◌∙◌, ◌+◌, ◌≡◌, drop, arith, ap, subst, sym, true, inl, None, string_bytes, rules}
use Rattle.std.proofs.lemmas.Grind.{common_steps}
use Rattle.std.proofs.lemmas.Result.{err_from_is_err_and}
use Rattle.std.specs.Str.{chars}
use Rattle.json5_types.specs.declared.value.Value.{the_lemmas}
use Rattle.json5_types.specs.ValueMeanings.{array, object, value_of, items_view, fields_view}
use Rattle.json5_types.specs.ValueLookups.{items_in, fields_in}
use Rattle.json5_types.proofs.ValuesCompared.{view-Array, view-Object}
use Rattle.json5_types.proofs.LookedUp.{from_here}
use Rattle.json5_schema.specs.Refusals.{IsNoKeyword}
use Rattle.json5_schema.specs.RefusalSteps.{IsUnknownAmong, IsUnknownIn, IsUnknownNamed, IsUnknownThrough}
use Rattle.json5_schema.specs.Subschemas.{takes_named, takes_schema, takes_schemas}
use Rattle.json5_schema.proofs.Knowing.{map_ok, none_known, none_among, none_named, through, keywords_done, each_done, named_done, first_known, value_from, first_of_each, first_named}
use Rattle.json5_schema.proofs.Refusing.{widened, refused, alone_of, element_at, element_of, member_at, member_of, unknown_of}
use Rattle.json5_schema.proofs.known.+known.Goals as goal

pub check_schema-returns-in-Object-clause-known : goal.check_schema-returns-in-Object-clause-known
check_schema-returns-in-Object-clause-known t c =
    rw (c.in-Object.is, view-Object c.in-Object.keywords, ← c.deref.ensures.value) c.check_keywords.ensures.known

pub check_schema-returns-in-Object-clause-unknown : goal.check_schema-returns-in-Object-clause-unknown
check_schema-returns-in-Object-clause-unknown t c =
    rw (c.in-Object.is, view-Object c.in-Object.keywords, ← c.deref.ensures.value) c.check_keywords.ensures.unknown

pub check_schema-returns-in_default-clause-known : goal.check_schema-returns-in_default-clause-known
check_schema-returns-in_default-clause-known t c =
    let none : fields_in (value_of c.args.schema.now) ≡ None = first_of (search (rules, the_lemmas), search rules, grind (arith, common_steps)) in
    none_known (value_of c.args.schema.now) none

pub check_keywords-loop-name-preserved : goal.check_keywords-loop-name-preserved
check_keywords-loop-name-preserved t c =
    let l = c.loop-name in
    let f = c.loop-name-item.result in
    let rest = drop (l.name-index + 1) c.args.keywords.now in
    let left = from_here c.args.keywords.now l.name-index f (omega (arith, c.loop-name-test.true)) c.loop-name-item.is in
    λ h. l.invariant (first_known f c.as_str.result.now rest (drop l.name-index c.args.keywords.now) left c.as_str.ensures.value c.as_str.utf8 c.in_ok-check_keyword.ensures.known h)

pub check_keywords-returns-clause-known : goal.check_keywords-returns-clause-known
check_keywords-returns-clause-known t c =
    let l = c.loop-name in
    keywords_done c.args.keywords.now l.name-index (omega (arith, c.loop-name-test.false)) l.invariant

pub check_keywords-returns-in_err-check_keyword-clause-unknown : goal.check_keywords-returns-in_err-check_keyword-clause-unknown
check_keywords-returns-in_err-check_keyword-clause-unknown t c =
    let l = c.loop-name in
    let f = c.loop-name-item.result in
    let (y, is, from) = err_from_is_err_and c.from_residual.result c.from_residual.ensures.1 in
    rw (is, from) (widened _ (IsUnknownThrough c.as_str.result.now (value_of f.1)) (IsUnknownIn (object (fields_view c.args.keywords.now)))
    (λ p k. unknown_of c.args.keywords.now l.name-index f c.as_str.result.now p (omega (arith, c.loop-name-test.true)) c.loop-name-item.is c.as_str.ensures.value c.as_str.utf8 k) c.in_err-check_keyword.ensures.unknown)

pub check_keyword-returns-then-not-is_known-clause-unknown : goal.check_keyword-returns-then-not-is_known-clause-unknown
check_keyword-returns-then-not-is_known-clause-unknown t c =
    widened c.no_keyword.result IsNoKeyword (IsUnknownThrough c.args.name.now (value_of c.args.argument.now)) (λ p k. inl (k, sym c.is_known.ensures ∙ c.if-not-is_known.true)) c.no_keyword.ensures

pub check_keyword-returns-in_err-check_alone-clause-unknown : goal.check_keyword-returns-in_err-check_alone-clause-unknown
check_keyword-returns-in_err-check_alone-clause-unknown t c =
    let (y, is, from) = err_from_is_err_and c.from_residual-in_err-check_alone.result c.from_residual-in_err-check_alone.ensures.1 in
    rw (is, from) (widened _ (λ p. (takes_schema c.args.name.now ≡ true) × IsUnknownIn (value_of c.args.argument.now) p) (IsUnknownThrough c.args.name.now (value_of c.args.argument.now)) (alone_of c.args.name.now (value_of c.args.argument.now)) c.in_err-check_alone.ensures.unknown)

pub check_keyword-returns-in_err-check_elements-clause-unknown : goal.check_keyword-returns-in_err-check_elements-clause-unknown
check_keyword-returns-in_err-check_elements-clause-unknown t c =
    let (y, is, from) = err_from_is_err_and c.from_residual-in_err-check_elements.result c.from_residual-in_err-check_elements.ensures.1 in
    rw (is, from) (widened _ (λ p. (takes_schemas c.args.name.now ≡ true) × IsUnknownAmong (value_of c.args.argument.now) p) (IsUnknownThrough c.args.name.now (value_of c.args.argument.now)) (element_of c.args.name.now (value_of c.args.argument.now)) c.in_err-check_elements.ensures.unknown)

pub check_keyword-returns-clause-known : goal.check_keyword-returns-clause-known
check_keyword-returns-clause-known t c =
    let known = sym c.is_known.ensures ∙ c.if-not-is_known.false in
    map_ok c.check_members.result (λ named. through c.args.name.now (value_of c.args.argument.now) known c.in_ok-check_alone.ensures.known c.in_ok-check_elements.ensures.known named) c.check_members.ensures.known

pub check_keyword-returns-clause-unknown : goal.check_keyword-returns-clause-unknown
check_keyword-returns-clause-unknown t c = refused c.check_members.result (λ p. (takes_named c.args.name.now ≡ true) × IsUnknownNamed (value_of c.args.argument.now) p) _ (member_of c.args.name.now (value_of c.args.argument.now)) c.check_members.ensures.unknown

pub check_alone-returns-clause-known : goal.check_alone-returns-clause-known
check_alone-returns-clause-known t c = map_ok c.check_schema.result (λ h e. h) c.check_schema.ensures.known

pub check_alone-returns-clause-unknown : goal.check_alone-returns-clause-unknown
check_alone-returns-clause-unknown t c =
    refused c.check_schema.result (IsUnknownIn (value_of c.args.argument.now)) _ (λ p k. (sym c.takes_schema.ensures ∙ c.if-not-takes_schema.false, k)) c.check_schema.ensures.unknown

pub check_elements-returns-in-Array-clause-known : goal.check_elements-returns-in-Array-clause-known
check_elements-returns-in-Array-clause-known t c =
    rw (c.in-Array.is, view-Array c.in-Array.schemas, ← c.deref.ensures.value) (map_ok c.check_each.result (λ h e. h) c.check_each.ensures.known)

pub check_elements-returns-in-Array-clause-unknown : goal.check_elements-returns-in-Array-clause-unknown
check_elements-returns-in-Array-clause-unknown t c =
    let is = ap value_of c.in-Array.is ∙ (view-Array c.in-Array.schemas ∙ ap (λ z. array (items_view z)) (sym c.deref.ensures.value)) in
    let takes = sym c.takes_schemas.ensures ∙ c.if-not-takes_schemas.false in
    refused c.check_each.result (IsUnknownAmong (array (items_view c.deref.result.now))) _ (λ p k. (takes, subst (λ z. IsUnknownAmong z p) (sym is) k)) c.check_each.ensures.unknown

pub check_elements-returns-in_default-clause-known : goal.check_elements-returns-in_default-clause-known
check_elements-returns-in_default-clause-known t c =
    let none : items_in (value_of c.args.argument.now) ≡ None = first_of (search (rules, the_lemmas), search rules, grind (arith, common_steps)) in
    λ e. none_among (value_of c.args.argument.now) none

pub check_members-returns-in-Object-clause-known : goal.check_members-returns-in-Object-clause-known
check_members-returns-in-Object-clause-known t c =
    rw (c.in-Object.is, view-Object c.in-Object.schemas, ← c.deref.ensures.value) (map_ok c.check_named.result (λ h e. h) c.check_named.ensures.known)

pub check_members-returns-in-Object-clause-unknown : goal.check_members-returns-in-Object-clause-unknown
check_members-returns-in-Object-clause-unknown t c =
    let is = ap value_of c.in-Object.is ∙ (view-Object c.in-Object.schemas ∙ ap (λ z. object (fields_view z)) (sym c.deref.ensures.value)) in
    let takes = sym c.takes_named.ensures ∙ c.if-not-takes_named.false in
    refused c.check_named.result (IsUnknownNamed (object (fields_view c.deref.result.now))) _ (λ p k. (takes, subst (λ z. IsUnknownNamed z p) (sym is) k)) c.check_named.ensures.unknown

pub check_members-returns-in_default-clause-known : goal.check_members-returns-in_default-clause-known
check_members-returns-in_default-clause-known t c =
    let none : fields_in (value_of c.args.argument.now) ≡ None = first_of (search (rules, the_lemmas), search rules, grind (arith, common_steps)) in
    λ e. none_named (value_of c.args.argument.now) none

pub check_named-loop-name-preserved : goal.check_named-loop-name-preserved
check_named-loop-name-preserved t c =
    let l = c.loop-name in
    let f = c.loop-name-item.result in
    let rest = drop (l.name-index + 1) c.args.schemas.now in
    let left = from_here c.args.schemas.now l.name-index f (omega (arith, c.loop-name-test.true)) c.loop-name-item.is in
    λ h. l.invariant (first_named f rest (drop l.name-index c.args.schemas.now) left c.in_ok-check_schema.ensures.known h)

pub check_named-returns-clause-known : goal.check_named-returns-clause-known
check_named-returns-clause-known t c =
    let l = c.loop-name in
    named_done c.args.schemas.now l.name-index (omega (arith, c.loop-name-test.false)) l.invariant

pub check_named-returns-in_err-check_schema-clause-unknown : goal.check_named-returns-in_err-check_schema-clause-unknown
check_named-returns-in_err-check_schema-clause-unknown t c =
    let l = c.loop-name in
    let f = c.loop-name-item.result in
    let (y, is, from) = err_from_is_err_and c.from_residual-in_err-check_schema.result c.from_residual-in_err-check_schema.ensures.1 in
    rw (is, from) (widened _ (IsUnknownIn (value_of f.1)) (IsUnknownNamed (object (fields_view c.args.schemas.now)))
    (λ p k. (value_of f.1, (chars (string_bytes f.0), member_at c.args.schemas.now l.name-index f (omega (arith, c.loop-name-test.true)) c.loop-name-item.is), k)) c.in_err-check_schema.ensures.unknown)

pub check_each-loop-index-preserved : goal.check_each-loop-index-preserved
check_each-loop-index-preserved t c =
    let l = c.loop-index in
    let x = c.index-schemas-index.result in
    let rest = drop (l.index-counter + 1) c.args.schemas.now in
    let left = value_from c.args.schemas.now l.index-counter x (omega (arith, c.loop-index-test.true)) c.index-schemas-index.is in
    λ h. l.invariant (first_of_each x rest (drop l.index-counter c.args.schemas.now) left c.in_ok-check_schema.ensures.known h)

pub check_each-returns-clause-known : goal.check_each-returns-clause-known
check_each-returns-clause-known t c =
    let l = c.loop-index in
    each_done c.args.schemas.now l.index-counter (omega (arith, c.loop-index-test.false)) l.invariant

pub check_each-returns-in_err-check_schema-clause-unknown : goal.check_each-returns-in_err-check_schema-clause-unknown
check_each-returns-in_err-check_schema-clause-unknown t c =
    let l = c.loop-index in
    let x = c.index-schemas-index.result in
    let (y, is, from) = err_from_is_err_and c.from_residual-in_err-check_schema.result c.from_residual-in_err-check_schema.ensures.1 in
    rw (is, from) (widened _ (IsUnknownIn (value_of x)) (IsUnknownAmong (array (items_view c.args.schemas.now)))
    (λ p k. (value_of x, element_at c.args.schemas.now l.index-counter x (omega (arith, c.loop-index-test.true)) c.index-schemas-index.is, k)) c.in_err-check_schema.ensures.unknown)
