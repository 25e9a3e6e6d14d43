use Rattle.std.proofs.Common.{Some, ap, sym, true}
use Rattle.json5_grammar.specs.Language.Trees.{text}
use Rattle.json5_de.specs.TokenKinds.{escape_free_kind}
use Rattle.json5_de.proofs.TokenKinds.{reads_ok}
use Rattle.json5_de.proofs.de.Deserializer.deserialize_str.Goals as goal

pub returns-in-Some : goal.returns-in-Some
returns-in-Some g c =
    let (u, took, bytes) = c.in-Some.ensures in
    reads_ok escape_free_kind (λ t. t.now) c.args.self.now c.short_str.new.self _ (text u true, took, ap Some (sym bytes))
