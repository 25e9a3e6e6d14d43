use Rattle.std.proofs.Common.{if◌then◌else◌, List, String, refl, true, false, ◌≡◌, ◌∙◌, ◌<◌, ◌≤◌, ◌+◌, length, drop, arith, sym, ap, Some, None, option_map, string_bytes}
use Rattle.std.proofs.lemmas.List.{length-drop}
use Rattle.json5_types.specs.ValueMeanings.{array, object, value_of, items_view, fields_view}
use Rattle.json5_types.specs.ValueLookups.{boolean_of, fields_in}
use Rattle.json5_schema.specs.Conformance.{applicator_evaluates, applies, asked_evaluates, beside, conforming, contains_on, elements_left_on, is_in_place, keyword_holds, left_holds, less, members_left_on, names_hold, names_on, reaches, satisfied, unfolded}
use Rattle.json5_schema.specs.Views.{pairs_asked, pairs_view, part_view, question_of, asked_view}
use Rattle.json5_types.proofs.LookedUp.{from_here}
use Rattle.std.specs.Str.{chars}
use lib.Chars.{codes}
use Rattle.std.specs.declared.alloc.Global.{Global}
use Rattle.json5_types.specs.declared.value.Value.{Value}
use Rattle.json5_schema.proofs.Conforming.{rest_is, keywords_first, next, few_left, enough_left, pair_from}
use Rattle.json5_schema.proofs.Parts.{chosen_then, chosen_else, boolean_schema, object_schema, other_schema, asked_keyword, asserted_keyword, passed_keyword}
use Rattle.json5_types.proofs.ValuesCompared.{view-Array, view-Object}
use Rattle.json5_schema.proofs.Evaluating.{by_pairs, chosen_first, chosen_other, counted_by, evaluates_by_pairs, settles_as, keyword_at, left_elements, left_of_elements, left_of_members, named_evaluates, named_other, object_evaluated, other_evaluated}
use Rattle.json5_schema.proofs.conforms.+conforms.Goals as goal

pub is_within-returns-then-left-least : goal.is_within-returns-then-left-least
is_within-returns-then-left-least t c = λ v.
    let l = c.loop-index in
    let w = unfolded c.args.depth v (value_of c.args.root.now) conforming in
    let rest = drop (l.index + 1) c.args.pairs.now in
    let here = pair_from c.args.pairs.now l.index c.index-pairs-index.result (omega arith) c.index-pairs-index.is in
    let step = next w c.index-pairs-index.result rest (drop l.index c.args.pairs.now) l.least l.most c.in_ok-holds.holds here (c.in_ok-holds.ensures v) (sym c.is_full.ensures ∙ c.if-is_full.false) in
    let short : length rest < less c.in_ok-holds.holds l.least = omega (arith, length-drop (l.index + 1) c.args.pairs.now, c.less-least.ensures) in
    sym (l.invariant v) ∙ (sym step ∙ few_left w rest (less c.in_ok-holds.holds l.least) (less c.in_ok-holds.holds l.most) short)

pub is_within-returns-then-left-most : goal.is_within-returns-then-left-most
is_within-returns-then-left-most t c = λ v.
    let l = c.loop-index in
    let w = unfolded c.args.depth v (value_of c.args.root.now) conforming in
    let rest = drop (l.index + 1) c.args.pairs.now in
    let here = pair_from c.args.pairs.now l.index c.index-pairs-index.result (omega arith) c.index-pairs-index.is in
    let step = next w c.index-pairs-index.result rest (drop l.index c.args.pairs.now) l.least l.most c.in_ok-holds.holds here (c.in_ok-holds.ensures v) (sym c.is_full.ensures ∙ c.if-is_full.false) in
    let none : less c.in_ok-holds.holds l.least ≡ 0 = omega (arith, c.less-least.ensures) in
    let short : length rest ≤ less c.in_ok-holds.holds l.most = omega (arith, length-drop (l.index + 1) c.args.pairs.now, c.less-most.ensures) in
    sym (l.invariant v) ∙ (sym step ∙ enough_left w rest (less c.in_ok-holds.holds l.least) (less c.in_ok-holds.holds l.most) none short)

pub conforms_within-returns-in-Some : goal.conforms_within-returns-in-Some
conforms_within-returns-in-Some t c = λ v.
    boolean_schema c.args.depth v (value_of c.args.root.now) (value_of c.args.schema.now) (value_of c.args.value.now) c.in-Some.truth (omega arith) (sym c.as_bool.ensures ∙ c.in-Some.is)

pub conforms_within-returns-in-Some-as_object : goal.conforms_within-returns-in-Some-as_object
conforms_within-returns-in-Some-as_object t c =
    let members = fields_view c.in-Some-as_object.members.now in
    let known : fields_in (value_of c.args.schema.now) ≡ Some members = sym c.as_object.ensures ∙ ap (λ o. option_map (λ fields. fields_view fields.now) o) c.in-Some-as_object.is in
    object_schema c.keywords_hold.result c.args.depth (value_of c.args.root.now) (value_of c.args.schema.now) (value_of c.args.value.now) members (omega arith) known c.keywords_hold.ensures

pub conforms_within-returns-in-None : goal.conforms_within-returns-in-None
conforms_within-returns-in-None t c = λ v.
    let no_boolean : boolean_of (value_of c.args.schema.now) ≡ None = sym c.as_bool.ensures ∙ c.in_default.is in
    let no_object : fields_in (value_of c.args.schema.now) ≡ None = sym c.as_object.ensures ∙ ap (λ o. option_map (λ fields. fields_view fields.now) o) c.in-None.is in
    other_schema c.args.depth v (value_of c.args.root.now) (value_of c.args.schema.now) (value_of c.args.value.now) (omega arith) no_boolean no_object

pub keyword_holds-returns-in-Assertion : goal.keyword_holds-returns-in-Assertion
keyword_holds-returns-in-Assertion t c =
    asserted_keyword c.asserts.result c.args.depth (value_of c.args.root.now) (value_of c.args.member.now.1) (value_of c.args.value.now) c.as_str-name.result.now (string_bytes c.args.member.now.0) (fields_view c.args.members.now) (fields_view c.args.after.now)
    c.keyword_named.result c.in-Assertion.assertion (sym c.is_named.ensures ∙ c.if-is_named.false) c.as_str-name.utf8 c.as_str-name.ensures.value c.keyword_named.ensures c.in-Assertion.is c.asserts.ensures

pub keyword_holds-returns-in-Applicator : goal.keyword_holds-returns-in-Applicator
keyword_holds-returns-in-Applicator t c =
    asked_keyword c.applicator_holds.result c.args.depth (value_of c.args.root.now) (value_of c.args.member.now.1) (value_of c.args.value.now) c.as_str-name.result.now (string_bytes c.args.member.now.0) (fields_view c.args.members.now) (fields_view c.args.after.now)
    c.keyword_named.result (applies (value_of c.args.root.now) (fields_view c.args.members.now) c.in-Applicator.applicator (value_of c.args.member.now.1) (value_of c.args.value.now)) (sym c.is_named.ensures ∙ c.if-is_named.false) c.as_str-name.utf8 c.as_str-name.ensures.value c.keyword_named.ensures (rw c.in-Applicator.is refl) c.applicator_holds.ensures

pub keyword_holds-returns-in-Annotation : goal.keyword_holds-returns-in-Annotation
keyword_holds-returns-in-Annotation t c = λ v.
    passed_keyword c.args.depth v (value_of c.args.root.now) (value_of c.args.member.now.1) (value_of c.args.value.now) c.as_str-name.result.now (string_bytes c.args.member.now.0) (fields_view c.args.members.now) (fields_view c.args.after.now)
    c.keyword_named.result (sym c.is_named.ensures ∙ c.if-is_named.false) c.as_str-name.utf8 c.as_str-name.ensures.value c.keyword_named.ensures c.in-Annotation.is

pub keywords_hold-returns-then-not-branch : goal.keywords_hold-returns-then-not-branch
keywords_hold-returns-then-not-branch t c = λ v.
    let l = c.loop-index in
    let w = unfolded c.args.depth v (value_of c.args.root.now) in
    let f = c.index-members-index.result in
    let rest = drop (l.index + 1) c.args.members.now in
    let here = from_here c.args.members.now l.index f (omega arith) c.index-members-index.is in
    let known = c.in_ok-keyword_holds.ensures v in
    let no : keyword_holds w (value_of c.args.root.now) (fields_view c.args.members.now) (chars (string_bytes f.0)) (value_of f.1) (fields_view rest) (value_of c.args.value.now) ≡ false =
    ap (λ (ys : List (String Global × Value)). keyword_holds w (value_of c.args.root.now) (fields_view c.args.members.now) (chars (string_bytes f.0)) (value_of f.1) (fields_view ys) (value_of c.args.value.now)) (sym (rest_is c.args.members.now (l.index + 1))) ∙ known ∙ c.if-not-branch.true in
    sym (l.invariant v) ∙ keywords_first w (value_of c.args.root.now) (value_of c.args.value.now) (fields_view c.args.members.now) f rest (drop l.index c.args.members.now) false here no

pub keywords_hold-loop-index-preserved : goal.keywords_hold-loop-index-preserved
keywords_hold-loop-index-preserved t c = λ v.
    let l = c.loop-index in
    let w = unfolded c.args.depth v (value_of c.args.root.now) in
    let f = c.index-members-index.result in
    let rest = drop (l.index + 1) c.args.members.now in
    let here = from_here c.args.members.now l.index f (omega arith) c.index-members-index.is in
    let known = c.in_ok-keyword_holds.ensures v in
    let yes : keyword_holds w (value_of c.args.root.now) (fields_view c.args.members.now) (chars (string_bytes f.0)) (value_of f.1) (fields_view rest) (value_of c.args.value.now) ≡ true =
    ap (λ (ys : List (String Global × Value)). keyword_holds w (value_of c.args.root.now) (fields_view c.args.members.now) (chars (string_bytes f.0)) (value_of f.1) (fields_view ys) (value_of c.args.value.now)) (sym (rest_is c.args.members.now (l.index + 1))) ∙ known ∙ c.if-not-branch.false in
    sym (keywords_first w (value_of c.args.root.now) (value_of c.args.value.now) (fields_view c.args.members.now) f rest (drop l.index c.args.members.now) true here yes) ∙ l.invariant v

-- ---- a keyword that applies schemas

pub applicator_holds-returns-in-If : goal.applicator_holds-returns-in-If
applicator_holds-returns-in-If t c = rw c.in-If.is c.choice_holds.ensures

pub applicator_holds-returns-in-Contains : goal.applicator_holds-returns-in-Contains
applicator_holds-returns-in-Contains t c = rw c.in-Contains.is c.contains_holds.ensures

pub applicator_holds-returns-in-PropertyNames : goal.applicator_holds-returns-in-PropertyNames
applicator_holds-returns-in-PropertyNames t c = rw c.in-PropertyNames.is c.each_name_holds.ensures

pub applicator_holds-returns-in-UnevaluatedProperties : goal.applicator_holds-returns-in-UnevaluatedProperties
applicator_holds-returns-in-UnevaluatedProperties t c = rw c.in-UnevaluatedProperties.is c.rest_of_members_holds.ensures

pub applicator_holds-returns-in-UnevaluatedItems : goal.applicator_holds-returns-in-UnevaluatedItems
applicator_holds-returns-in-UnevaluatedItems t c = rw c.in-UnevaluatedItems.is c.rest_of_elements_holds.ensures

pub applicator_holds-returns-in_default : goal.applicator_holds-returns-in_default
applicator_holds-returns-in_default t c =
    let root = value_of c.args.root.now in
    let all = fields_view c.args.members.now in
    let a = value_of c.args.argument.now in
    let x = value_of c.args.value.now in
    let k = c.args.applicator in
    let d = c.in_default in
    settles_as c.pairs_hold.result c.args.depth root (λ w. satisfied w root (applies root all k a x)) (λ w. satisfied w root (pairs_asked root all k a x))
    (λ v. ap (satisfied (unfolded c.args.depth v root) root) (by_pairs k root a x all d.not-If d.not-Contains d.not-PropertyNames d.not-UnevaluatedProperties d.not-UnevaluatedItems)) c.pairs_hold.ensures

pub pairs_hold-returns : goal.pairs_hold-returns
pairs_hold-returns t c =
    let root = value_of c.args.root.now in
    settles_as c.satisfied.result c.args.depth root
    (λ w. satisfied w root (pairs_asked root (fields_view c.args.members.now) c.args.applicator (value_of c.args.argument.now) (value_of c.args.value.now))) (λ w. satisfied w root (asked_view c.in_ok-asked.asked))
    (λ v. ap (satisfied (unfolded c.args.depth v root) root) (sym c.in_ok-asked.ensures)) c.satisfied.ensures

pub choice_holds-returns-then-branch : goal.choice_holds-returns-then-branch
choice_holds-returns-then-branch t c =
    let all = fields_view c.args.members.now in
    chosen_then c.part_holds.result c.args.depth (value_of c.args.root.now) (value_of c.args.condition.now) (value_of c.args.value.now) (part_view c.find.result) (beside (codes "then") all) (beside (codes "else") all) c.in_ok-conforms_within.field-0
    c.find.ensures c.if-branch.true c.in_ok-conforms_within.ensures c.part_holds.ensures

pub choice_holds-returns-else-branch : goal.choice_holds-returns-else-branch
choice_holds-returns-else-branch t c =
    let all = fields_view c.args.members.now in
    chosen_else c.part_holds-else-branch.result c.args.depth (value_of c.args.root.now) (value_of c.args.condition.now) (value_of c.args.value.now) (part_view c.find-else-branch.result) (beside (codes "then") all) (beside (codes "else") all) c.in_ok-conforms_within.field-0
    c.find-else-branch.ensures c.if-branch.false c.in_ok-conforms_within.ensures c.part_holds-else-branch.ensures

pub contains_holds-returns-in-Array : goal.contains_holds-returns-in-Array
contains_holds-returns-in-Array t c =
    let root = value_of c.args.root.now in
    let s = value_of c.args.schema.now in
    let all = fields_view c.args.members.now in
    let xs = items_view c.deref.result.now in
    let is : value_of c.args.value.now ≡ array xs = ap value_of c.in-Array.is ∙ (view-Array c.in-Array.items ∙ ap (λ (ys : List Value). array (items_view ys)) (sym c.deref.ensures.value)) in
    settles_as c.count_holds.result c.args.depth root (λ w. satisfied w root (contains_on s all (value_of c.args.value.now))) (λ w. satisfied w root (contains_on s all (array xs)))
    (λ v. ap (λ y. satisfied (unfolded c.args.depth v root) root (contains_on s all y)) is) c.count_holds.ensures

pub count_holds-returns : goal.count_holds-returns
count_holds-returns t c = λ v.
    counted_by c.args.depth v (value_of c.args.root.now) (value_of c.args.schema.now) (fields_view c.args.members.now) (items_view c.args.items.now) (part_view c.find-least.result) (part_view c.find-most.result) (pairs_view c.deref.result.now)
    c.in_ok-count.count c.in_ok-is_counted.field-0 c.find-least.ensures c.find-most.ensures (ap pairs_view c.deref.ensures.value ∙ c.in_ok-pairs.ensures) (c.in_ok-count.ensures v) c.in_ok-is_counted.ensures

pub each_name_holds-returns-in-Object : goal.each_name_holds-returns-in-Object
each_name_holds-returns-in-Object t c =
    let root = value_of c.args.root.now in
    let s = value_of c.args.schema.now in
    let fs = fields_view c.deref.result.now in
    let is : value_of c.args.value.now ≡ object fs = ap value_of c.in-Object.is ∙ (view-Object c.in-Object.members ∙ ap (λ (ys : List (String Global × Value)). object (fields_view ys)) (sym c.deref.ensures.value)) in
    settles_as c.names_hold.result c.args.depth root (λ w. satisfied w root (names_on s (value_of c.args.value.now))) (λ w. names_hold (w conforming) s fs)
    (λ v. ap (λ y. satisfied (unfolded c.args.depth v root) root (names_on s y)) is) c.names_hold.ensures

pub rest_of_members_holds-returns-in-Object : goal.rest_of_members_holds-returns-in-Object
rest_of_members_holds-returns-in-Object t c =
    let root = value_of c.args.root.now in
    let s = value_of c.args.schema.now in
    let x = value_of c.args.value.now in
    let all = fields_view c.args.keywords.now in
    settles_as c.left_holds.result c.args.depth root (λ w. satisfied w root (members_left_on s all x)) (λ w. left_holds w root s all x)
    (λ v. left_of_members (unfolded c.args.depth v root) root s x all _ (ap value_of c.in-Object.is ∙ view-Object _)) c.left_holds.ensures

pub rest_of_elements_holds-returns-in-Array : goal.rest_of_elements_holds-returns-in-Array
rest_of_elements_holds-returns-in-Array t c =
    let root = value_of c.args.root.now in
    let s = value_of c.args.schema.now in
    let x = value_of c.args.value.now in
    let all = fields_view c.args.keywords.now in
    settles_as c.left_holds.result c.args.depth root (λ w. satisfied w root (elements_left_on s all x)) (λ w. left_holds w root s all x)
    (λ v. left_of_elements (unfolded c.args.depth v root) root s x all _ (ap value_of c.in-Array.is ∙ view-Array _)) c.left_holds.ensures

-- ---- what schemas evaluate, and what is left

pub keywords_evaluate-returns-then-branch : goal.keywords_evaluate-returns-then-branch
keywords_evaluate-returns-then-branch t c = λ v.
    let l = c.loop-index in
    let w = unfolded c.args.depth v (value_of c.args.root.now) in
    sym (l.invariant v)
    ∙ keyword_at w (value_of c.args.root.now) (value_of c.args.value.now) (fields_view c.args.keywords.now) (question_of c.args.child) c.args.keywords.now l.index c.index-keywords-index.result true (omega arith) c.index-keywords-index.is
    (c.in_ok-keyword_evaluates.ensures v ∙ c.if-branch.true)

pub keywords_evaluate-loop-index-preserved : goal.keywords_evaluate-loop-index-preserved
keywords_evaluate-loop-index-preserved t c = λ v.
    let l = c.loop-index in
    let w = unfolded c.args.depth v (value_of c.args.root.now) in
    sym
    (keyword_at w (value_of c.args.root.now) (value_of c.args.value.now) (fields_view c.args.keywords.now) (question_of c.args.child) c.args.keywords.now l.index c.index-keywords-index.result false (omega arith) c.index-keywords-index.is
    (c.in_ok-keyword_evaluates.ensures v ∙ c.if-branch.false))
    ∙ l.invariant v

pub keyword_evaluates-returns-in-Applicator : goal.keyword_evaluates-returns-in-Applicator
keyword_evaluates-returns-in-Applicator t c =
    named_evaluates c.applicator_evaluates.result c.args.depth (value_of c.args.root.now) (value_of c.args.member.now.1) (value_of c.args.value.now) c.as_str-name.result.now (string_bytes c.args.member.now.0) (fields_view c.args.keywords.now) (fields_view c.args.after.now)
    c.keyword_named.result (question_of c.args.child) (sym c.is_named.ensures ∙ c.if-is_named.false) c.as_str-name.utf8 c.as_str-name.ensures.value c.keyword_named.ensures (rw c.in-Applicator.is c.applicator_evaluates.ensures)

pub evaluates_within-returns-in-Some : goal.evaluates_within-returns-in-Some
evaluates_within-returns-in-Some t c =
    let keywords = fields_view c.in-Some.keywords.now in
    let known : fields_in (value_of c.args.schema.now) ≡ Some keywords = sym c.as_object.ensures ∙ ap (λ o. option_map (λ fields. fields_view fields.now) o) c.in-Some.is in
    object_evaluated c.object_evaluates.result c.args.depth (value_of c.args.root.now) (value_of c.args.schema.now) (value_of c.args.value.now) c.args.child keywords (omega arith) known c.object_evaluates.ensures

pub evaluates_within-returns-in-None : goal.evaluates_within-returns-in-None
evaluates_within-returns-in-None t c = λ v.
    let none : fields_in (value_of c.args.schema.now) ≡ None = sym c.as_object.ensures ∙ ap (λ o. option_map (λ fields. fields_view fields.now) o) c.in-None.is in
    other_evaluated c.args.depth v (value_of c.args.root.now) (value_of c.args.schema.now) (value_of c.args.value.now) c.args.child (omega arith) none

pub keyword_evaluates-returns-in-Assertion : goal.keyword_evaluates-returns-in-Assertion
keyword_evaluates-returns-in-Assertion t c = λ v.
    named_other c.args.depth v (value_of c.args.root.now) (value_of c.args.member.now.1) (value_of c.args.value.now) c.as_str-name.result.now (string_bytes c.args.member.now.0) (fields_view c.args.keywords.now) (fields_view c.args.after.now) c.keyword_named.result
    (question_of c.args.child) (sym c.is_named.ensures ∙ c.if-is_named.false) c.as_str-name.utf8 c.as_str-name.ensures.value c.keyword_named.ensures (λ w. rw c.in-Assertion.is refl)

pub keyword_evaluates-returns-in-Annotation : goal.keyword_evaluates-returns-in-Annotation
keyword_evaluates-returns-in-Annotation t c = λ v.
    named_other c.args.depth v (value_of c.args.root.now) (value_of c.args.member.now.1) (value_of c.args.value.now) c.as_str-name.result.now (string_bytes c.args.member.now.0) (fields_view c.args.keywords.now) (fields_view c.args.after.now) c.keyword_named.result
    (question_of c.args.child) (sym c.is_named.ensures ∙ c.if-is_named.false) c.as_str-name.utf8 c.as_str-name.ensures.value c.keyword_named.ensures (λ w. rw c.in-Annotation.is refl)

pub left_holds-returns-in-Array : goal.left_holds-returns-in-Array
left_holds-returns-in-Array t c =
    let is = ap value_of c.in-Array.is ∙ view-Array c.in-Array.items ∙ ap (λ (ys : List Value). array (items_view ys)) (sym c.deref-in-Array.ensures.value) in
    left_elements c.elements_left_hold.result c.args.depth (value_of c.args.root.now) (value_of c.args.schema.now) (value_of c.args.value.now) (fields_view c.args.keywords.now) _ is c.elements_left_hold.ensures

pub applicator_evaluates-returns-in-If : goal.applicator_evaluates-returns-in-If
applicator_evaluates-returns-in-If t c = rw c.in-If.is c.choice_evaluates.ensures

pub applicator_evaluates-returns-in-Contains : goal.applicator_evaluates-returns-in-Contains
applicator_evaluates-returns-in-Contains t c = rw c.in-Contains.is c.is_contained.ensures

pub applicator_evaluates-returns-in_default : goal.applicator_evaluates-returns-in_default
applicator_evaluates-returns-in_default t c =
    let root = value_of c.args.root.now in
    let all = fields_view c.args.keywords.now in
    let a = value_of c.args.argument.now in
    let x = value_of c.args.value.now in
    let k = c.args.applicator in
    let q = question_of c.args.child in
    settles_as c.pairs_evaluate.result c.args.depth root (λ w. applicator_evaluates w root all k a x q) (λ w. if is_in_place k then asked_evaluates w q (pairs_asked root all k a x) else reaches all k a q)
    (λ v. evaluates_by_pairs k (unfolded c.args.depth v root) root a x all q c.in_default.not-If c.in_default.not-Contains) c.pairs_evaluate.ensures

pub choice_evaluates-returns-then-not-branch : goal.choice_evaluates-returns-then-not-branch
choice_evaluates-returns-then-not-branch t c =
    let all = fields_view c.args.keywords.now in
    chosen_other c.part_evaluates.result c.args.depth (value_of c.args.root.now) (value_of c.args.condition.now) (value_of c.args.value.now) (part_view c.find.result) (beside (codes "then") all) (beside (codes "else") all) (question_of c.args.child)
    c.in_ok-conforms_within.field-0 c.find.ensures c.if-not-branch.true c.in_ok-conforms_within.ensures c.part_evaluates.ensures

pub choice_evaluates-returns : goal.choice_evaluates-returns
choice_evaluates-returns t c =
    let all = fields_view c.args.keywords.now in
    chosen_first c.part_evaluates-2.result c.args.depth (value_of c.args.root.now) (value_of c.args.condition.now) (value_of c.args.value.now) (part_view c.find-2.result) (beside (codes "then") all) (beside (codes "else") all) (question_of c.args.child)
    c.in_ok-conforms_within.field-0 c.in_ok-evaluates_within.field-0 c.find-2.ensures c.if-not-branch.false c.if-branch.false c.in_ok-conforms_within.ensures c.in_ok-evaluates_within.ensures c.part_evaluates-2.ensures
