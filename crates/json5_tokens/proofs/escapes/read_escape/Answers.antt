use Rattle.std.proofs.Common.{Some, None, sym, ap, ◌∙◌}
use Rattle.std.specs.Str.{chars}
use Rattle.json5_tokens.specs.Outcome.{outcome}
use Rattle.json5_tokens.proofs.ScanEscapes.{escape_end, escape_step}
use Rattle.json5_tokens.proofs.escapes.read_escape.Goals as goal

pub returns-in_default : goal.returns-in_default
returns-in_default c = record { refused = ap outcome (escape_end _ _ c.in_default.ensures); known = tt }

pub returns-in-Some-short_escape : goal.returns-in-Some-short_escape
returns-in-Some-short_escape c = record {
  read = escape_step (Some c.in-Some-short_escape.spelled) c.in-Some.c _ _ _ c.in-Some.ensures.chars (sym c.short_escape.ensures ∙ c.in-Some-short_escape.is);
  text = c.in-Some.ensures.text;
}

pub returns-in-None : goal.returns-in-None
returns-in-None c =
    rw (escape_step None c.in-Some.c (chars c.args.escape.now) (chars c.args.text.now) (chars c.in-Some.rest.now) c.in-Some.ensures.chars (sym c.short_escape.ensures ∙ c.in-None.is)) c.long_escape.ensures
