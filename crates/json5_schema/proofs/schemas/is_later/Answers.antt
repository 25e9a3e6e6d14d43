use lib.Chars.{codes}
use Rattle.std.proofs.lemmas.Str.Pattern.{contains_text}
use Rattle.json5_schema.proofs.Refusing.{none_later}
use Rattle.json5_schema.proofs.schemas.is_later.Goals as goal

pub returns-else-contains : goal.returns-else-contains
returns-else-contains c =
    let s = c.args.draft.now in
    λ off. none_later c.contains.result c.contains-else-contains.result s (contains_text c.contains.result (codes "2019-09") s c.contains.ensures.cases)
    (contains_text c.contains-else-contains.result (codes "2020-12") s c.contains-else-contains.ensures.cases) c.if-contains.false off
