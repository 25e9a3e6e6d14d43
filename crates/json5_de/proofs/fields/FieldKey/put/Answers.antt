use Rattle.json5_tokens.proofs.TextTokens.{slice_bytes}
use Rattle.json5_de.proofs.fields.FieldKey.put.Goals as goal

pub returns : goal.returns
returns g c = λ u at. slice_bytes (g.I.Input.text c.args.input) u c.args.span.start c.args.span.end (rw c.as_text-text.ensures at c.as_text-text.utf8) at
