use Rattle.std.proofs.Common.{◌≡◌, ◌≤◌, ◌+◌, ◌*◌, drop}
use Rattle.json5_types.specs.ValueMeanings.{value_of, items_view, fields_view}
use Rattle.json5_schema.specs.Conformance.{Answers, conforming, keywords_hold, names_hold, count_conforming, is_within, members_left_hold, elements_left_hold, keywords_evaluate, some_evaluate, unfolded}
use Rattle.json5_schema.specs.Views.{members_view, pairs_view, question_of}
use Rattle.json5_schema.proofs.conforms.+conforms.Given as goal

abbrev pub decreases-conforms_within : goal.decreases-conforms_within
decreases-conforms_within l = 16 * l.depth + 0

abbrev pub decreases-is_within : goal.decreases-is_within
decreases-is_within l = 16 * l.depth + 1

abbrev pub decreases-count_conforming : goal.decreases-count_conforming
decreases-count_conforming l = 16 * l.depth + 1

abbrev pub decreases-name_holds : goal.decreases-name_holds
decreases-name_holds l = 16 * l.depth + 1

abbrev pub decreases-names_hold : goal.decreases-names_hold
decreases-names_hold l = 16 * l.depth + 2

abbrev pub decreases-part_holds : goal.decreases-part_holds
decreases-part_holds l = 16 * l.depth + 1

abbrev pub decreases-evaluates_within : goal.decreases-evaluates_within
decreases-evaluates_within l = 16 * l.depth + 0

abbrev pub decreases-part_evaluates : goal.decreases-part_evaluates
decreases-part_evaluates l = 16 * l.depth + 1

abbrev pub decreases-choice_evaluates : goal.decreases-choice_evaluates
decreases-choice_evaluates l = 16 * l.depth + 2

abbrev pub decreases-pair_evaluates : goal.decreases-pair_evaluates
decreases-pair_evaluates l = 16 * l.depth + 1

abbrev pub decreases-some_evaluate : goal.decreases-some_evaluate
decreases-some_evaluate l = 16 * l.depth + 2

abbrev pub decreases-asked_evaluates : goal.decreases-asked_evaluates
decreases-asked_evaluates l = 16 * l.depth + 3

abbrev pub decreases-is_contained : goal.decreases-is_contained
decreases-is_contained l = 16 * l.depth + 1

abbrev pub decreases-applicator_evaluates : goal.decreases-applicator_evaluates
decreases-applicator_evaluates l = 16 * l.depth + 5

abbrev pub decreases-keyword_evaluates : goal.decreases-keyword_evaluates
decreases-keyword_evaluates l = 16 * l.depth + 6

abbrev pub decreases-keywords_evaluate : goal.decreases-keywords_evaluate
decreases-keywords_evaluate l = 16 * l.depth + 7

abbrev pub decreases-object_evaluates : goal.decreases-object_evaluates
decreases-object_evaluates l = 16 * l.depth + 8

abbrev pub decreases-child_left_holds : goal.decreases-child_left_holds
decreases-child_left_holds l = 16 * l.depth + 8

abbrev pub decreases-elements_left_hold : goal.decreases-elements_left_hold
decreases-elements_left_hold l = 16 * l.depth + 9

abbrev pub decreases-members_left_hold : goal.decreases-members_left_hold
decreases-members_left_hold l = 16 * l.depth + 10

abbrev pub decreases-left_holds : goal.decreases-left_holds
decreases-left_holds l = 16 * l.depth + 11

abbrev pub decreases-satisfied : goal.decreases-satisfied
decreases-satisfied l = 16 * l.depth + 2

abbrev pub decreases-keyword_holds : goal.decreases-keyword_holds
decreases-keyword_holds l = 16 * l.depth + 14

abbrev pub decreases-keywords_hold : goal.decreases-keywords_hold
decreases-keywords_hold l = 16 * l.depth + 15

abbrev pub decreases-choice_holds : goal.decreases-choice_holds
decreases-choice_holds l = 16 * l.depth + 2

abbrev pub decreases-count_holds : goal.decreases-count_holds
decreases-count_holds l = 16 * l.depth + 2

abbrev pub decreases-contains_holds : goal.decreases-contains_holds
decreases-contains_holds l = 16 * l.depth + 3

abbrev pub decreases-each_name_holds : goal.decreases-each_name_holds
decreases-each_name_holds l = 16 * l.depth + 3

abbrev pub decreases-pairs_hold : goal.decreases-pairs_hold
decreases-pairs_hold l = 16 * l.depth + 3

abbrev pub decreases-rest_of_members_holds : goal.decreases-rest_of_members_holds
decreases-rest_of_members_holds l = 16 * l.depth + 12

abbrev pub decreases-rest_of_elements_holds : goal.decreases-rest_of_elements_holds
decreases-rest_of_elements_holds l = 16 * l.depth + 12

abbrev pub decreases-applicator_holds : goal.decreases-applicator_holds
decreases-applicator_holds l = 16 * l.depth + 13

abbrev pub decreases-pairs_evaluate : goal.decreases-pairs_evaluate
decreases-pairs_evaluate l = 16 * l.depth + 4

-- what is left decides it
abbrev pub invariant-keywords_hold-loop-index : goal.invariant-keywords_hold-loop-index
invariant-keywords_hold-loop-index l = (v : Answers) →
    keywords_hold (unfolded l.depth v (value_of l.root)) (value_of l.root) (fields_view l.members) (fields_view (drop l.index l.members)) (value_of l.value)
    ≡ keywords_hold (unfolded l.depth v (value_of l.root)) (value_of l.root) (fields_view l.members) (fields_view l.members) (value_of l.value)

abbrev pub invariant-is_within-loop-index : goal.invariant-is_within-loop-index
invariant-is_within-loop-index l = (v : Answers) →
    is_within (unfolded l.depth v (value_of l.root) conforming) l.least l.most (pairs_view (drop l.index l.pairs))
    ≡ is_within (unfolded l.depth v (value_of l.root) conforming) l.initial.least l.initial.most (pairs_view l.pairs)

abbrev pub invariant-names_hold-loop-name : goal.invariant-names_hold-loop-name
invariant-names_hold-loop-name l = (v : Answers) →
    names_hold (unfolded l.depth v (value_of l.root) conforming) (value_of l.schema) (fields_view (drop l.name-index l.members))
    ≡ names_hold (unfolded l.depth v (value_of l.root) conforming) (value_of l.schema) (fields_view l.members)

abbrev pub invariant-count_conforming-loop-pair : goal.invariant-count_conforming-loop-pair
invariant-count_conforming-loop-pair l =
    ((v : Answers) →
    (l.count + count_conforming (unfolded l.depth v (value_of l.root) conforming) (pairs_view (drop l.pair-index l.pairs)))
    ≡ count_conforming (unfolded l.depth v (value_of l.root) conforming) (pairs_view l.pairs))
    × (l.count ≤ l.pair-index)

abbrev pub invariant-members_left_hold-loop-member : goal.invariant-members_left_hold-loop-member
invariant-members_left_hold-loop-member l = (v : Answers) →
    members_left_hold (unfolded l.depth v (value_of l.root)) (value_of l.root) (value_of l.schema) (fields_view l.keywords) (value_of l.value) (members_view (drop l.member-index l.members))
    ≡ members_left_hold (unfolded l.depth v (value_of l.root)) (value_of l.root) (value_of l.schema) (fields_view l.keywords) (value_of l.value) (members_view l.members)

abbrev pub invariant-elements_left_hold-loop-index : goal.invariant-elements_left_hold-loop-index
invariant-elements_left_hold-loop-index l = (v : Answers) →
    elements_left_hold (unfolded l.depth v (value_of l.root)) (value_of l.root) (value_of l.schema) (fields_view l.keywords) (value_of l.value) l.index (items_view (drop l.index l.items))
    ≡ elements_left_hold (unfolded l.depth v (value_of l.root)) (value_of l.root) (value_of l.schema) (fields_view l.keywords) (value_of l.value) 0 (items_view l.items)

abbrev pub invariant-keywords_evaluate-loop-index : goal.invariant-keywords_evaluate-loop-index
invariant-keywords_evaluate-loop-index l = (v : Answers) →
    keywords_evaluate (unfolded l.depth v (value_of l.root)) (value_of l.root) (fields_view l.keywords) (fields_view (drop l.index l.keywords)) (value_of l.value) (question_of l.child)
    ≡ keywords_evaluate (unfolded l.depth v (value_of l.root)) (value_of l.root) (fields_view l.keywords) (fields_view l.keywords) (value_of l.value) (question_of l.child)

abbrev pub invariant-some_evaluate-loop-pair : goal.invariant-some_evaluate-loop-pair
invariant-some_evaluate-loop-pair l = (v : Answers) →
    some_evaluate (unfolded l.depth v (value_of l.root)) (question_of l.child) (pairs_view (drop l.pair-index l.pairs))
    ≡ some_evaluate (unfolded l.depth v (value_of l.root)) (question_of l.child) (pairs_view l.pairs)
