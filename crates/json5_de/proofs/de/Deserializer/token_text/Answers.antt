use Rattle.std.proofs.Common.{ap, sym, subst}
use Rattle.json5_tokens.specs.TextTokens.{Spells}
use Rattle.json5_de.specs.State.{State}
use Rattle.json5_de.proofs.de.Deserializer.token_text.Goals as goal

pub returns : goal.returns
returns g c u escape_free k = c.text_of.ensures u escape_free (subst (λ x. Spells x u escape_free c.args.token.now) (sym (ap (λ (s : State). s.input) c.self.view_is)) k)
