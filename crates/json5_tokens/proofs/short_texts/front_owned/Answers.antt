use Rattle.std.proofs.Common.{◌-◌, length, sym, subst, true}
use Rattle.std.specs.Str.{IsCharBoundary}
use Rattle.json5_tokens.specs.ShortWays.{IsInFront}
use Rattle.json5_tokens.proofs.ScanTokens.{left_counted}
use Rattle.json5_tokens.proofs.StringsSpelled.{after_quote, found_behind, owned_run}
use Rattle.json5_tokens.proofs.TextCuts.{left_fits, cut_half, before_rest}
use Rattle.json5_tokens.proofs.short_texts.front_owned.Goals as goal

pub overflow_sub-body : goal.overflow_sub-body
overflow_sub-body c =
    let text = after_quote c.in_ok-quote.quote c.args.text.now c.split_at.result.1.now c.utf8.text c.in_ok-quote.ensures c.split_at.ensures.back in
    rw (left_counted c.skip_raw-rest.result.now c.skip_raw-rest.utf8) (left_fits (record { is_text = text; split = c.skip_raw-rest.ensures.split }))

pub range-run-requires-clause-end_boundary : goal.range-run-requires-clause-end_boundary
range-run-requires-clause-end_boundary c =
    let body = c.split_at.result.1.now in
    let text = after_quote c.in_ok-quote.quote c.args.text.now body c.utf8.text c.in_ok-quote.ensures c.split_at.ensures.back in
    subst (λ n. IsCharBoundary body (length body - n)) (sym (left_counted c.skip_raw-rest.result.now c.skip_raw-rest.utf8)) (cut_half (record { is_text = text; split = c.skip_raw-rest.ensures.split }))

pub returns-then-not-is_in_front : goal.returns-then-not-is_in_front
returns-then-not-is_in_front c =
    let q = c.in_ok-quote.quote in
    let body = c.split_at.result.1.now in
    let rest = c.skip_raw-rest.result.now in
    let raw = c.skip_raw-rest.ensures in
    let text = after_quote q c.args.text.now body c.utf8.text c.in_ok-quote.ensures c.split_at.ensures.back in
    let run = before_rest body raw.passed rest text c.skip_raw-rest.utf8 raw.split c.range-run.ensures.value in
    found_behind q c.args.text.now body rest c.range-run.result.now c.in_ok-quote.ensures c.split_at.ensures.back raw run c.range-run.utf8 c.spelled_behind.result c.spelled_behind.ensures

pub returns : goal.returns
returns c =
    let q = c.in_ok-quote.quote in
    let body = c.split_at.result.1.now in
    let rest = c.skip_raw-rest.result.now in
    let raw = c.skip_raw-rest.ensures in
    let text = after_quote q c.args.text.now body c.utf8.text c.in_ok-quote.ensures c.split_at.ensures.back in
    let run = before_rest body raw.passed rest text c.skip_raw-rest.utf8 raw.split c.range-run.ensures.value in
    let closed = subst (IsInFront c.byte.result rest) c.if-not-is_in_front.false c.is_in_front.ensures in
    owned_run q c.args.text.now body rest c.range-run.result.now c.in_ok-quote.ensures c.split_at.ensures.back raw run c.range-run.utf8 c.split_at-2.result.1.now c.in-Ok.owned c.in-Ok.ensures.ok c.skip_raw-rest.utf8
    (subst (λ n. IsInFront n rest true) c.byte.ensures closed) c.split_at-2.ensures.back
