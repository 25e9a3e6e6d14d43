use Rattle.std.proofs.lemmas.Str.Pattern.{split_parts}
use Rattle.json5_tokens.proofs.RunBoundaries.{quote_ascii}
use Rattle.json5_edit.proofs.PathsRead.{quoted_read}
use Rattle.json5_edit.proofs.path_texts.dotted.read_quoted.Goals as goal

pub returns : goal.returns
returns c = λ quote.
    let split = rw c.in-Some.is at (split_parts c.args.quote c.args.begun.now c.split_once.result c.split_once.ensures.cases (quote_ascii c.args.quote quote)) in
    quoted_read c.args.quote c.args.begun.now c.in-Some.name.now c.in-Some.rest.now c.in_ok-key.key quote split.0 split.1 c.in_ok-key.ensures.ok
