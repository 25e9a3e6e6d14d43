use Rattle.std.proofs.Common.{◌∙◌, inl, inr, sym}
use lib.Chars.{codes}
use Rattle.std.proofs.lemmas.Str.Pattern.{contains_text}
use Rattle.json5_schema.proofs.schemas.is_old.Goals as goal
use Rattle.json5_schema.proofs.schemas.is_old.Goals.{then-contains, else-contains}

pub returns-then-contains-2 : goal.returns-then-contains-2
returns-then-contains-2 c = λ e.
    elim c.if-contains.branch [
      | then-contains w ↦ inl ((contains_text c.contains.result (codes "draft-03") c.args.draft.now c.contains.ensures.cases).0 w.if-contains.true)
      | else-contains w ↦
          inr (inl ((contains_text w.contains-else-contains.result (codes "draft-04") c.args.draft.now w.contains-else-contains.ensures.cases).0 (sym w.value-is ∙ c.if-contains-2.true)))
    ]

pub returns-else-contains-2 : goal.returns-else-contains-2
returns-else-contains-2 c = λ e.
    inr (inr ((contains_text c.contains-else-contains-2.result (codes "draft-05") c.args.draft.now c.contains-else-contains-2.ensures.cases).0 e))
