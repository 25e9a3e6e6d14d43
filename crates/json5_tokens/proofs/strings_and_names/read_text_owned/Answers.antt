use Rattle.std.proofs.Common.{true, sym, ◌∙◌, subst}
use Rattle.std.specs.Str.{chars}
use Rattle.std.proofs.lemmas.Str.{encodes-chars}
use Rattle.json5_tokens.specs.ScanTexts.{text_at, ReadsUpTo}
use Rattle.json5_tokens.proofs.ScanTexts.{more_owned}
use Rattle.json5_tokens.proofs.strings_and_names.read_text_owned.Goals as goal

pub returns-in_ok-from_str-in-End : goal.returns-in_ok-from_str-in-End
returns-in_ok-from_str-in-End c =
    let run = c.in_ok-run.run'.now in
    let end = subst (ReadsUpTo (text_at c.args.kind (chars c.args.text.now)) (chars run) true) c.in-End.is c.in_ok-run.ensures.goes_on in
    record { spelled = chars run; escape_free = true; read = end.read; is_text = c.in_ok-from_str-in-End.ensures.ok ∙ sym (encodes-chars run c.in_ok-run.ensures.text); text = end.text }

pub returns-in-Escape : goal.returns-in-Escape
returns-in-Escape c =
    let run = c.in_ok-run.run'.now in
    let here = subst (ReadsUpTo (text_at c.args.kind (chars c.args.text.now)) (chars run) true) c.in-Escape.is c.in_ok-run.ensures.goes_on in
    more_owned run _ _ c.read_escaped.result here.0 c.in_ok-run.ensures.text c.read_escaped.ensures
