use Rattle.json5_read.proofs.OwnedTexts.{owned_span, owned_text}
use Rattle.json5_read.proofs.owned_tokens.own_key.Goals as goal

pub returns-in-EscapeFree : goal.returns-in-EscapeFree
returns-in-EscapeFree g c = owned_span c.args.scanner.now.input c.args.key c.in-EscapeFree.span c.own_text.result c.own_text.new.fault c.in-EscapeFree.is c.own_text.ensures

pub returns-in-Escaped : goal.returns-in-Escaped
returns-in-Escaped g c = owned_text c.args.scanner.now.input c.args.key c.in-Escaped.text c.args.fault.now c.in-Escaped.is
