use Rattle.std.proofs.Common.{◌∙◌}
use Rattle.json5_de.proofs.fields.FieldKey.put_token.Goals as goal

pub put-requires : goal.put-requires
put-requires g c = let (u, escape_free, spelled) = rw c.in-EscapeFree.is at c.requires in (u, spelled.1)

pub returns-in-EscapeFree : goal.returns-in-EscapeFree
returns-in-EscapeFree g c = λ u escape_free spelled. let k = rw c.in-EscapeFree.is at spelled in c.put.ensures u k.1

pub returns-in-Escaped : goal.returns-in-Escaped
returns-in-Escaped g c = λ u escape_free spelled. let k = rw c.in-Escaped.is at spelled in c.put_owned.ensures ∙ k.1
