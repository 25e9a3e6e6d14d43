use Rattle.std.proofs.Common.{subst}
use Rattle.json5_types.specs.ValueMeanings.{value_of}
use Rattle.cli_check.specs.Checks.{JudgesText, given_schema}
use Rattle.cli_check.proofs.Judged.{text_judged, no_document}
use Rattle.cli_check.proofs.files.check_text.Goals as goal

pub returns-in-Ok : goal.returns-in-Ok
returns-in-Ok g c =
    let known = g.S.Store.known c.args.store.now in
    let given = given_schema c.args.given in
    let o = c.args.options.now in
    let read = c.in-Ok.ensures in
    subst (λ b. JudgesText known given o c.args.name.now b c.check_value.result) c.as_str-2.ensures.value
    (text_judged known given o c.args.name.now c.as_str-2.result.now (value_of c.in-Ok.value) read.sound.0 c.check_value.result c.as_str-2.utf8 read.sound.1 read.sound.2 read.complete c.check_value.ensures)

pub returns : goal.returns
returns g c =
    let known = g.S.Store.known c.args.store.now in
    let given = given_schema c.args.given in
    let o = c.args.options.now in
    subst (λ b. JudgesText known given o c.args.name.now b c.refuse.result) c.as_str-2.ensures.value
    (no_document known given o c.args.name.now c.as_str-2.result.now c.in-Err.error c.refuse.result c.in-Err.ensures.complete c.refuse.ensures)
