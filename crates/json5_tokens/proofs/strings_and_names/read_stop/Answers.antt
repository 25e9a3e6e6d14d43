use Rattle.std.proofs.Common.{ap, sym, ◌∙◌, subst, arith, Some, None}
use Rattle.std.specs.Str.{chars}
use Rattle.json5_grammar.specs.Language.Characters.{NotBegun}
use Rattle.json5_grammar.specs.declared.error_code.ErrorCode.TheVariants.{ExpectedIdentifier, LineTerminatorInString}
use Rattle.json5_tokens.specs.Outcome.{outcome, failed}
use Rattle.json5_tokens.specs.ScanTexts.{is_raw_in}
use Rattle.json5_tokens.proofs.ScanEscapes.{refused_here}
use Rattle.json5_tokens.proofs.ScanRuns.{stop_none, no_start, no_part, at_quote, at_line_end}
use Rattle.json5_tokens.proofs.strings_and_names.read_stop.Goals as goal

pub returns-in_default : goal.returns-in_default
returns-in_default c = record { refused = ap outcome (stop_none c.args.kind _ c.in_default.ensures) ∙ ap (λ e. failed (Some e) None) (sym c.ends_early.ensures); known = tt }

pub returns-in-Name : goal.returns-in-Name
returns-in-Name c =
    let stops = subst (λ k. NotBegun (is_raw_in k) (chars c.args.text.now)) c.in-Name.is c.requires in
    rw c.in-Name.is (record { refused = refused_here _ ExpectedIdentifier c.args.text.now c.utf8.text (no_start c.in-Some.c _ _ c.in-Some.ensures.chars stops c.if-c-eq92.false); known = tt })

pub returns-in-NameRest : goal.returns-in-NameRest
returns-in-NameRest c =
    let stops = subst (λ k. NotBegun (is_raw_in k) (chars c.args.text.now)) c.in-NameRest.is c.requires in
    rw c.in-NameRest.is (record { read = no_part c.in-Some.c _ _ c.in-Some.ensures.chars stops c.if-c-eq92.false; text = c.utf8.text }, omega arith)

pub returns-then-c-from : goal.returns-then-c-from
returns-then-c-from c =
    rw c.in-String.is (record { read = at_quote c.in-String.quote c.in-Some.c _ _ c.in-Some.ensures.chars (c.if-c-from.true ∙ c.from.ensures ∙ c.byte.ensures); text = c.in-Some.ensures.text }, omega arith)

pub returns-else-c-from : goal.returns-else-c-from
returns-else-c-from c =
    let stops = subst (λ k. NotBegun (is_raw_in k) (chars c.args.text.now)) c.in-String.is c.requires in
    rw c.in-String.is
    (record {
      refused = refused_here _ LineTerminatorInString c.args.text.now c.utf8.text
          (at_line_end c.in-String.quote c.in-Some.c _ _ c.in-Some.ensures.chars stops (λ e. c.if-c-from.false (e ∙ sym (c.from.ensures ∙ c.byte.ensures))) c.if-c-eq92.false);
      known = tt;
    })
