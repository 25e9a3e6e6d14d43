use Rattle.std.proofs.Common.{◌∷◌, ◌++◌, [], refl, ap, ◌∙◌}
use Rattle.cli_tidy.specs.CommandWords.{excluded}
use Rattle.cli_tidy.specs.WordSteps.{choices_of}
use Rattle.cli_tidy.proofs.taking.Words.exclude.Goals as goal

pub returns-clause-set : goal.returns-clause-set
returns-clause-set c = (
  excluded c.args.value.now,
  (c.in-Some.ensures.1, refl),
  ap (λ all. record (choices_of c.args.self.now) { excluded = all }) (c.in_ok-push_name.ensures ∙ ap (λ glob. (choices_of c.args.self.now).excluded ++ glob ∷ []) c.in-Some.ensures.0),
)
