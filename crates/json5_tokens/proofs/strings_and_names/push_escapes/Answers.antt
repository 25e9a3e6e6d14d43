use Rattle.std.proofs.Common.{◌-◌, [], length, sym, subst, string_bytes}
use Rattle.std.specs.Str.{IsCharBoundary}
use Rattle.std.proofs.lemmas.List.{append-nil}
use Rattle.json5_tokens.proofs.TextCuts.{left_fits, cut_half, before_rest}
use Rattle.json5_tokens.proofs.ScanTokens.{left_counted}
use Rattle.json5_tokens.proofs.ShortEscapes.{none_read, one_more_in, one_added}
use Rattle.json5_tokens.proofs.strings_and_names.push_escapes.Goals as goal

pub returns-in_default : goal.returns-in_default
returns-in_default c = ([], none_read c.args.kind c.args.escape.now c.utf8.escape, sym (append-nil (string_bytes c.args.text.now)))

pub loop-spelled-init : goal.loop-spelled-init
loop-spelled-init c = ([], none_read c.args.kind c.args.escape.now c.utf8.escape, sym (append-nil (string_bytes c.args.text.now)))

pub overflow_sub-body : goal.overflow_sub-body
overflow_sub-body c = rw (left_counted c.skip_raw-rest.result.now c.skip_raw-rest.utf8) (left_fits (record { is_text = c.in-Some.ensures.text; split = c.skip_raw-rest.ensures.split }))

pub range-requires-clause-end_boundary : goal.range-requires-clause-end_boundary
range-requires-clause-end_boundary c =
    subst (λ n. IsCharBoundary c.in-Some.body.now (length c.in-Some.body.now - n)) (sym (left_counted c.skip_raw-rest.result.now c.skip_raw-rest.utf8)) (cut_half (record { is_text = c.in-Some.ensures.text; split = c.skip_raw-rest.ensures.split }))

pub loop-spelled-smaller : goal.loop-spelled-smaller
loop-spelled-smaller c =
    let at = c.loop-spelled.invariant in
    (one_more_in c.args.kind c.in-String.quote c.args.escape.now at.0 c.loop-spelled.rest.now _ _ _ c.in-String.is c.in-Some.ensures c.skip_raw-rest.ensures c.skip_raw-rest.utf8 at.1).shorter

pub loop-spelled-preserved : goal.loop-spelled-preserved
loop-spelled-preserved c =
    let at = c.loop-spelled.invariant in
    let body = c.in-Some.body.now in
    let rest = c.skip_raw-rest.result.now in
    let skipped = c.skip_raw-rest.ensures in
    let run = before_rest body skipped.passed rest c.in-Some.ensures.text c.skip_raw-rest.utf8 skipped.split c.range.ensures.value in (
      _,
      (one_more_in c.args.kind c.in-String.quote c.args.escape.now at.0 c.loop-spelled.rest.now body rest c.in-Some.spelled c.in-String.is c.in-Some.ensures skipped c.skip_raw-rest.utf8 at.1).read,
      one_added (string_bytes c.args.text.now) (string_bytes c.loop-spelled.text) (string_bytes c.push.new.self) (string_bytes c.push_str.new.self) c.range.result.now at.0 c.in-Some.spelled skipped.passed at.2 c.in_ok-push.ensures.bytes
          c.in_ok-push_str.ensures.bytes c.range.utf8 run,
    )
