use Rattle.std.proofs.Common.{arith}
use Rattle.std.specs.Str.{chars}
use Rattle.json5_write.proofs.QuotesFound.{absent, present, single_quotes, double_quotes, both_quotes}
use Rattle.json5_write.proofs.quoting.Quote.around.Goals.{else-contains-via-then-contains+else-not-contains, else-contains-via-else-contains}
use Rattle.json5_write.proofs.quoting.Quote.around.Goals as goal

pub returns-then-not-contains : goal.returns-then-not-contains
returns-then-not-contains c =
    single_quotes (chars c.args.text.now) (present 34 c.args.text.now (omega arith) c.utf8.text c.if-contains.ensures.cases)
    (absent 39 c.args.text.now c.utf8.text c.if-not-contains.ensures.cases)

pub returns-else-contains : goal.returns-else-contains
returns-else-contains c =
    let t = c.args.text.now in
    elim c.else-contains.branch [
      | else-contains-via-then-contains+else-not-contains w ↦ both_quotes (chars t) (present 34 t (omega arith) c.utf8.text w.if-contains.ensures.cases) (present 39 t (omega arith) c.utf8.text w.if-not-contains.ensures.cases)
      | else-contains-via-else-contains w ↦ double_quotes (chars t) (absent 34 t c.utf8.text w.if-contains.ensures.cases)
    ]
