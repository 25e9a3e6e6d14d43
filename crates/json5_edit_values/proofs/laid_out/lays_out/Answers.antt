use Rattle.std.proofs.Common.{subst}
use Rattle.std.specs.Bool.{OnTrue}
use Rattle.std.specs.Str.{chars}
use Rattle.json5_grammar.specs.Language.Documents.{max_depth}
use Rattle.json5_edit.specs.Places.{IsValue}
use Rattle.json5_edit_values.proofs.ValuesSpelled.{on_true, same_value}
use Rattle.json5_edit_values.proofs.laid_out.lays_out.Goals as goal

pub returns : goal.returns
returns c = λ t v. on_true c.same_lexemes.result (λ same. same_value (chars c.args.written.now) (chars c.args.made.now) t v (subst (λ b. OnTrue b (IsValue max_depth (chars c.args.made.now))) c.if-not-is_value.false c.is_value.ensures) (c.same_lexemes.ensures same))
