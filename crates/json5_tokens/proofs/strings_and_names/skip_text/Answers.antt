use Rattle.std.proofs.Common.{true, subst}
use Rattle.std.specs.Str.{chars}
use Rattle.json5_tokens.specs.ScanTexts.{text_at, ReadsUpTo}
use Rattle.json5_tokens.proofs.StringsSkipped.{passes_past}
use Rattle.json5_tokens.proofs.strings_and_names.skip_text.Goals as goal

pub returns-in-End : goal.returns-in-End
returns-in-End c =
    let run = c.in_ok-stop.field-0-0.now in
    let end = subst (ReadsUpTo (text_at c.args.kind (chars c.args.text.now)) (chars run) true) c.in-End.is c.in_ok-stop.ensures.goes_on in
    record { value = (chars run, true); read = end.read; text = end.text }

pub returns-in-Escape : goal.returns-in-Escape
returns-in-Escape c =
    let run = c.in_ok-stop.field-0-0.now in
    let here = subst (ReadsUpTo (text_at c.args.kind (chars c.args.text.now)) (chars run) true) c.in-Escape.is c.in_ok-stop.ensures.goes_on in
    passes_past _ _ (chars run) true c.skip_rest.result here.0 c.skip_rest.ensures
