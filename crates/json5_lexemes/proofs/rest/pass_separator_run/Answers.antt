use Rattle.std.proofs.Common.{◌∙◌, ap, sym, drop}
use Rattle.std.specs.Str.{chars}
use Rattle.json5_tokens.specs.Cursor.{Cursor}
use Rattle.json5_lexemes.proofs.SharedRuns.{passes_separators, passes_no_separator}
use Rattle.json5_lexemes.proofs.rest.pass_separator_run.Goals as goal

pub returns-in_default : goal.returns-in_default
returns-in_default c = passes_no_separator c.args.text.now

pub returns : goal.returns
returns c =
    passes_separators c.as_bytes.result.now c.separators_len-len.result c.args.text.now _ c.separators_len-len.ensures
    (ap (λ (z : Cursor). z.unread) (sym c.text.view_is) ∙ ap chars (sym c.as_bytes.ensures.value))
    (ap chars (c.in-Some.ensures.back ∙ ap (λ z. drop c.separators_len-len.result z) (sym c.as_bytes.ensures.value)))
