use Rattle.std.proofs.Common.{◌≡◌, ◌∙◌, ◌++◌, List, [], inl, inr, ap, sym}
use Rattle.std.proofs.lemmas.List.{append-nil}
use Rattle.json5_types.specs.ValueMeanings.{Datum, items_view}
use Rattle.json5_schema.specs.Conformance.{by_index}
use Rattle.json5_schema.specs.Views.{pairs_view}
use Rattle.json5_schema.proofs.Parts.{none_first, none_second}
use Rattle.json5_schema.proofs.asked.by_index.Goals as goal

pub returns : goal.returns
returns c =
    let l = c.loop-schema in
    let pairs = pairs_view l.pairs.items in
    let xs = l.schema-iterator.a.rest.now in
    let ys = l.schema-iterator.b.rest.now in
    let none : by_index (items_view xs) (items_view ys) ≡ [] =
    elim c.in-None.ensures.steps [
      | inl h ↦ none_first xs ys h.1.0
      | inr h ↦ none_second xs ys h.1.0
    ]
    in
    sym (append-nil pairs) ∙ (ap (λ (ps : List (Datum × Datum)). pairs ++ ps) (sym none) ∙ l.invariant)
