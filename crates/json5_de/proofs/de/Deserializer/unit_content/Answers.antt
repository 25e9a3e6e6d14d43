use Rattle.std.proofs.Common.{refl, rules}
use Rattle.json5_de.specs.Convert.{unit_of}
use Rattle.json5_de.specs.Enums.{unit_content, content_free}
use Rattle.json5_de.specs.TokenKinds.{RefusedAs, null_kind, every_tree}
use Rattle.json5_de.specs.Lending.{named_state_of}
use Rattle.json5_de.proofs.VariantContents.{variant_read}
use Rattle.json5_de.proofs.de.Deserializer.unit_content.Goals as goal

pub returns : goal.returns
returns g c = variant_read (λ v. tt) unit_of every_tree (RefusedAs null_kind) unit_content (content_free every_tree) (λ t. refl) (λ t. refl) (named_state_of c.args.self.now c.args.name) c.in_brace.new.self c.in_brace.result (search rules) c.in_brace.ensures
