use Rattle.std.proofs.Common.{◌≡◌, ◌∷◌, ◌∙◌, false, ap, arith}
use Rattle.std.specs.Str.{chars}
use Rattle.json5_grammar.specs.Language.Strings.{is_quote}
use Rattle.json5_grammar.specs.declared.error_code.ErrorCode.TheVariants.{ExpectedString}
use Rattle.std.proofs.lemmas.Bool.Decides.{nat_tests}
use Rattle.json5_tokens.specs.Outcome.{outcome}
use Rattle.json5_tokens.specs.declared.strings_and_names.Quote.TheVariants as quotes
use Rattle.json5_tokens.proofs.ScanEscapes.{refused_here}
use Rattle.json5_tokens.proofs.ScanRuns.{string_none, string_other, string_quote}
use Rattle.json5_tokens.proofs.strings.read_quote.Goals as goal

pub returns-in_default : goal.returns-in_default
returns-in_default c = record { refused = ap outcome (string_none _ c.in_default.ensures); known = tt }

pub returns-in-34 : goal.returns-in-34
returns-in-34 c = record { split = c.in-Some.ensures.chars ∙ ap (λ q. q ∷ chars c.in-Some.body.now) c.in-34.is; read = string_quote quotes.Double c.in-Some.c _ _ c.in-Some.ensures.chars c.in-34.is; text = c.in-Some.ensures.text }

pub returns-in-39 : goal.returns-in-39
returns-in-39 c = record { split = c.in-Some.ensures.chars ∙ ap (λ q. q ∷ chars c.in-Some.body.now) c.in-39.is; read = string_quote quotes.Single c.in-Some.c _ _ c.in-Some.ensures.chars c.in-39.is; text = c.in-Some.ensures.text }

pub returns-in_default-c : goal.returns-in_default-c
returns-in_default-c c =
    let other : is_quote c.in-Some.c ≡ false = grind (arith, nat_tests) in
    record { refused = refused_here _ ExpectedString c.args.text.now c.utf8.text (string_other c.in-Some.c _ _ c.in-Some.ensures.chars other); known = tt }
