use Rattle.std.proofs.Common.{[], true, subst}
use Rattle.std.specs.Str.{chars}
use Rattle.json5_tokens.specs.ScanTexts.{text_at, ReadsUpTo}
use Rattle.json5_tokens.proofs.StringsSkipped.{passes_past}
use Rattle.json5_tokens.proofs.strings_and_names.skip_stop.Goals as goal

pub returns-in-End : goal.returns-in-End
returns-in-End c =
    let end = subst (ReadsUpTo (text_at c.args.kind (chars c.args.tail.now)) [] true) c.in-End.is c.in_ok-rest.ensures.0 in
    record { value = ([], true); read = end.read; text = end.text }

pub returns-in-Escape : goal.returns-in-Escape
returns-in-Escape c =
    let here = subst (ReadsUpTo (text_at c.args.kind (chars c.args.tail.now)) [] true) c.in-Escape.is c.in_ok-rest.ensures.0 in
    passes_past _ _ [] true c.skip_rest.result here.0 c.skip_rest.ensures
