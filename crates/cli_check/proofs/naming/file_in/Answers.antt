use Rattle.std.proofs.Common.{ap, sym, ◌++◌, ◌∙◌, arith}
use Rattle.std.proofs.lemmas.Str.Pattern.{strip_prefix_char}
use Rattle.cli_check.specs.Naming.{equals}
use Rattle.cli_check.proofs.NamesLed.{file_found}
use Rattle.cli_check.proofs.naming.file_in.Goals as goal

pub returns-in-Some : goal.returns-in-Some
returns-in-Some c =
    let (k, (long, split, at), rest, count) = c.in-Some.ensures.cases in
    file_found c.args.map.now c.args.schema.now c.in-Some.rest.now c.strip_prefix-in-Some.result (split ∙ ap (λ l. c.args.schema.now ++ l) (sym rest))
    (strip_prefix_char equals c.in-Some.rest.now c.strip_prefix-in-Some.result c.strip_prefix-in-Some.ensures.cases (omega arith))
