use Rattle.std.proofs.Common.{◌≡◌, sym}
use Rattle.json5_types.specs.ValueMeanings.{value_of}
use Rattle.json5_schema.specs.declared.faults.Problem.TheVariants as problem
use Rattle.json5_schema.specs.Refusals.{IsLaterName, IsOldName, NamesDraft}
use Rattle.json5_schema.specs.RefusalSteps.{IsDraft, IsOfOldDraft}
use Rattle.json5_schema.proofs.Refusing.{named_draft, draft_named, no_draft, counted, refused}
use Rattle.json5_schema.proofs.schemas.counts_siblings.Goals as goal

pub returns-in-Some-clause-counts : goal.returns-in-Some-clause-counts
returns-in-Some-clause-counts c =
    let root = value_of c.args.root.now in
    let x = value_of c.in-Some.draft.now in
    counted c.counts_by.result (IsDraft IsLaterName x) (NamesDraft IsLaterName root) (draft_named IsLaterName root x (sym (rw c.in-Some.is at c.get.ensures))) c.counts_by.ensures.counts

pub returns-in-Some-clause-refused : goal.returns-in-Some-clause-refused
returns-in-Some-clause-refused c =
    let root = value_of c.args.root.now in
    let x = value_of c.in-Some.draft.now in
    refused c.counts_by.result (λ p. (p ≡ problem.OldDraft) × IsDraft IsOldName x) (IsOfOldDraft root) (λ p k. (k.0, named_draft IsOldName root x (sym (rw c.in-Some.is at c.get.ensures)) k.1)) c.counts_by.ensures.refused

pub returns-in-None-clause-counts : goal.returns-in-None-clause-counts
returns-in-None-clause-counts c = λ off names. no_draft IsLaterName (value_of c.args.root.now) (sym (rw c.in-None.is at c.get.ensures)) names
