use Rattle.std.proofs.Common.{sym, ◌∙◌, subst}
use Rattle.cli_files.specs.Inputs.{RefusesInput}
use Rattle.cli_tidy.specs.Refusals.{IsFaultOf}
use Rattle.cli_tidy.proofs.tidied.tidied_text.Goals as goal

pub refused_text-requires : goal.refused_text-requires
refused_text-requires c =
    subst (RefusesInput c.in-Err.error) (c.as_str-2.ensures.value ∙ sym c.as_str-in-Err.ensures.value) (c.as_str-2.utf8, c.in-Err.ensures.refused, c.in-Err.ensures.complete)

pub returns-in-Err-clause-refused : goal.returns-in-Err-clause-refused
returns-in-Err-clause-refused c =
    subst (λ b. IsFaultOf c.args.name.now b c.refused_text.result) c.as_str-in-Err.ensures.value c.refused_text.ensures
