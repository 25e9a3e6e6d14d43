use Rattle.std.proofs.Common.{◌≡◌, true, arith}
use Rattle.std.proofs.lemmas.Bool.Decides.{nat_tests}
use Rattle.json5_grammar.specs.Language.Characters.{is_digit}
use Rattle.json5_grammar.specs.declared.error_code.ErrorCode.TheVariants.{InvalidEscapeSequence}
use Rattle.json5_tokens.proofs.ScanEscapes.{refused_here, nul_digit}
use Rattle.json5_tokens.proofs.escapes.nul_escape.Goals as goal

pub returns-then-is_ascii_digit : goal.returns-then-is_ascii_digit
returns-then-is_ascii_digit c =
    let d : is_digit c.in-Some.c ≡ true = grind (arith, nat_tests) in
    rw c.invalid.ensures (record { refused = refused_here _ InvalidEscapeSequence c.args.escape.now c.utf8.escape (nul_digit c.in-Some.c _ _ _ c.in-Some.ensures.chars d); known = tt })
