use Rattle.std.proofs.Common.{rules, ◌≡◌, true}
use Rattle.std.specs.Prelude.{◌==◌, ◌||◌, slice_index}
use Rattle.json5_grammar.specs.Language.Numbers.{begins_run}
use Rattle.json5_tokens.proofs.NumberCases.{begins_at_run, zero_at_run}
use Rattle.json5_tokens.proofs.numbers.short.begins_run.Goals as goal

pub returns-in-46 : goal.returns-in-46
returns-in-46 c = λ _.
    let bytes = c.as_bytes-bytes.result.now in
    let mark : ((slice_index bytes 1 == 46) || ((slice_index bytes 1 == 101) || (slice_index bytes 1 == 69))) ≡ true = search rules in
    zero_at_run c.args.text.now bytes c.as_bytes-bytes.ensures.value c.utf8.text c.if-bytes-gt1.true c.in-48.is mark

pub returns-in-49-to-57 : goal.returns-in-49-to-57
returns-in-49-to-57 c = λ _.
    let bytes = c.as_bytes-bytes.result.now in
    let begun : begins_run (slice_index bytes 0) ≡ true = search rules in
    begins_at_run c.args.text.now bytes c.as_bytes-bytes.ensures.value c.utf8.text (search rules) (search rules) begun

pub returns-in-49-to-57-2 : goal.returns-in-49-to-57-2
returns-in-49-to-57-2 c = λ _.
    let bytes = c.as_bytes-bytes.result.now in
    let begun : begins_run (slice_index bytes 0) ≡ true = search rules in
    begins_at_run c.args.text.now bytes c.as_bytes-bytes.ensures.value c.utf8.text (search rules) (search rules) begun
