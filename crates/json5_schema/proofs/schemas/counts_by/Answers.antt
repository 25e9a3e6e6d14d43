use Rattle.std.proofs.Common.{◌≡◌}
use Rattle.json5_types.specs.ValueMeanings.{value_of}
use Rattle.json5_schema.specs.declared.faults.Problem.TheVariants as problem
use Rattle.json5_schema.specs.Refusals.{IsLaterName, IsOldName}
use Rattle.json5_schema.specs.RefusalSteps.{IsDraft}
use Rattle.json5_schema.proofs.Refusing.{by_text, from_text, counted, refused}
use Rattle.json5_schema.proofs.schemas.counts_by.Goals as goal

pub returns-in-String-clause-counts : goal.returns-in-String-clause-counts
returns-in-String-clause-counts c =
    counted c.counts_by_name.result (IsLaterName c.as_str.result.now) (IsDraft IsLaterName (value_of c.args.draft.now))
    (from_text IsLaterName c.args.draft.now c.in-String.name c.as_str.result.now c.in-String.is c.as_str.ensures.value c.as_str.utf8) c.counts_by_name.ensures.counts

pub returns-in-String-clause-refused : goal.returns-in-String-clause-refused
returns-in-String-clause-refused c =
    refused c.counts_by_name.result (λ p. (p ≡ problem.OldDraft) × IsOldName c.as_str.result.now) (λ p. (p ≡ problem.OldDraft) × IsDraft IsOldName (value_of c.args.draft.now))
    (λ p k. (k.0, by_text IsOldName c.args.draft.now c.in-String.name c.as_str.result.now c.in-String.is c.as_str.ensures.value c.as_str.utf8 k.1)) c.counts_by_name.ensures.refused
