use Rattle.std.proofs.Common.{refl, rules}
use Rattle.json5_de.specs.Enums.{content_of, content_free}
use Rattle.json5_de.specs.Lending.{named_state_of}
use Rattle.json5_de.proofs.VariantContents.{variant_read}
use Rattle.json5_de.proofs.de.Deserializer.newtype_content.Goals as goal

pub returns : goal.returns
returns g c =
    let t = g.T.Deserialize in
    variant_read t.content t.convert t.allocation_free t.refuses (content_of t.convert) (content_free t.allocation_free) (λ u. refl) (λ u. refl) (named_state_of c.args.self.now c.args.name) c.in_brace.new.self c.in_brace.result (search rules) c.in_brace.ensures
