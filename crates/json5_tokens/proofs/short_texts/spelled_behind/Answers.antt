use Rattle.std.proofs.Common.{refl, subst, true, string_bytes}
use Rattle.json5_tokens.specs.declared.strings_and_names.Kind.TheVariants as kind
use Rattle.json5_tokens.specs.ScanTexts.{AddsUpTo}
use Rattle.json5_tokens.specs.ShortWays.{IsInFront}
use Rattle.json5_tokens.proofs.StringsSpelled.{spelled_to_quote, spelled_past}
use Rattle.json5_tokens.proofs.short_texts.spelled_behind.Goals as goal

pub returns-then-is_in_front : goal.returns-then-is_in_front
returns-then-is_in_front c =
    let q = c.args.quote in
    let rest = c.in-Ok-push_escapes.rest.now in
    let bytes = string_bytes c.push_escapes.new.text in
    let adds = subst (λ old. AddsUpTo (kind.String q) c.args.escape.now old bytes rest) c.in-Ok.ensures c.in-Ok-push_escapes.ensures in
    let closed = subst (IsInFront c.byte.result rest) c.if-is_in_front.true c.is_in_front.ensures in
    spelled_to_quote q c.args.escape.now c.args.run.now rest bytes adds c.split_at.result.1.now c.push_escapes.new.text refl (subst (λ n. IsInFront n rest true) c.byte.ensures closed) c.split_at.ensures.back

pub returns : goal.returns
returns c =
    let q = c.args.quote in
    let rest = c.in-Ok-push_escapes.rest.now in
    let bytes = string_bytes c.push_escapes.new.text in
    let adds = subst (λ old. AddsUpTo (kind.String q) c.args.escape.now old bytes rest) c.in-Ok.ensures c.in-Ok-push_escapes.ensures in
    spelled_past q c.args.escape.now c.args.run.now rest bytes adds c.in_ok-left.left.now c.push_to_quote.new.text c.in_ok-left.ensures
