use Rattle.std.proofs.Common.{◌≡◌, rules}
use Rattle.std.specs.Prelude.{string_bytes}
use lib.Chars.{codes}
use Rattle.cli_edit.proofs.WordsTaken.{dry_last}
use Rattle.cli_edit.proofs.requests.split_dry.Goals as goal

pub returns-then-eq : goal.returns-then-eq
returns-then-eq c =
    let said : string_bytes c.in-Some.word.now ≡ codes "--dry-run" = search rules in
    dry_last c.args.words.now c.in-Some.rest.now c.in-Some.word.now c.in-Some.ensures.cases.0 said
