use Rattle.std.proofs.Common.{◌≡◌, ◌∙◌, sym, subst, Some, None}
use Rattle.std.proofs.lemmas.Option.{same_Some}
use Rattle.json5_read.specs.Brackets.{brackets_of}
use Rattle.json5_de.specs.Enums.{ClosesContent}
use Rattle.json5_de.specs.Stages.{is_comma_due}
use Rattle.json5_de.proofs.de.Deserializer.end_access.Goals as goal

pub returns-in-None : goal.returns-in-None
returns-in-None g c = record {
  alone = λ none. rw (c.set_failed.ensures, c.is_comma_due-comma_due.ensures) at c.close_or_fail.ensures;
  in_variant = λ start some. let same : None ≡ Some start = sym c.in-None.is ∙ some in absurd (cc);
}

pub returns-in-Some : goal.returns-in-Some
returns-in-Some g c = record {
  alone = λ none. let same : Some c.in-Some.brace ≡ None = sym c.in-Some.is ∙ none in absurd (cc);
  in_variant = λ start some.
      subst (λ n. ClosesContent (brackets_of c.args.kind) (is_comma_due c.args.access.stage) n (record c.args.self.now { failed = c.args.access.failed }) c.close_content.new.self c.close_content.result) (same_Some c.in-Some.brace start (sym c.in-Some.is ∙ some))
      (rw (c.set_failed.ensures, c.is_comma_due-comma_due.ensures) at c.close_content.ensures);
}
