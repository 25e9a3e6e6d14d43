use Rattle.std.proofs.Common.{Some, ap, sym, true}
use Rattle.json5_types.specs.Cows.{cow_bytes, is_borrowed}
use Rattle.json5_grammar.specs.Language.Trees.{text}
use Rattle.json5_de.specs.TokenKinds.{cow_kind}
use Rattle.json5_de.proofs.TokenKinds.{reads_ok}
use Rattle.json5_de.proofs.de.Deserializer.deserialize_identifier.Goals as goal

pub returns-in-Some : goal.returns-in-Some
returns-in-Some g c =
    let (u, took, bytes) = c.in-Some.ensures in
    reads_ok cow_kind (λ t. (cow_bytes t, is_borrowed t)) c.args.self.now c.short_str.new.self _ (text u true, took, ap (λ z. Some (z, true)) (sym bytes))
