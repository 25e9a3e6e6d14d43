use Rattle.std.proofs.Common.{◌∙◌, sym}
use Rattle.json5_schema.proofs.Refusing.{given, not_given, and_yes}
use Rattle.json5_schema.proofs.references.gives.Goals as goal

pub returns-then-eq : goal.returns-then-eq
returns-then-eq c =
    c.eq-then-eq.ensures ∙ (and_yes _ _ (sym c.eq.ensures ∙ c.if-eq.true) ∙ given c.args.value.now c.in-String.found c.args.key.now c.as_str.result.now c.args.name.now c.args.text.now c.in-String.is c.as_str.ensures.value c.as_str.utf8 c.utf8.key)

pub returns-else-eq : goal.returns-else-eq
returns-else-eq c = c.if-eq.false ∙ not_given c.args.value.now c.in-String.found c.args.key.now c.args.name.now c.args.text.now c.in-String.is c.utf8.key (sym c.eq.ensures ∙ c.if-eq.false)
