use Rattle.std.proofs.Common.{[], ◌∷◌, ◌++◌, ap}
use Rattle.std.specs.Str.{chars}
use Rattle.json5_write.proofs.EscapeFreeRuns.{empty_from}
use Rattle.json5_write.proofs.EscapesSplit.{quoted_escape_free}
use Rattle.json5_styles.proofs.JsonEscapesSplit.{stands_all}
use Rattle.json5_styles.proofs.strings.needs_no_escape.Goals as goal

pub returns-in-Json5 : goal.returns-in-Json5
returns-in-Json5 c = λ t. rw c.in-Json5.is (quoted_escape_free (chars c.args.text.now) (c.is_escape_free.ensures t))

pub returns-in-Json : goal.returns-in-Json
returns-in-Json c = λ t.
    let none = empty_from c.skip_unescaped.result.now _ c.is_empty.ensures t in
    rw c.in-Json.is (ap (λ u. 34 ∷ u ++ 34 ∷ []) (stands_all _ _ c.skip_unescaped.ensures.stands none))
