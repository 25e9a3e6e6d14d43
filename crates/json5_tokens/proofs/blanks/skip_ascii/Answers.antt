use Rattle.std.proofs.Common.{◌∙◌, ap, sym, arith}
use Rattle.std.specs.List.{prefix_len}
use Rattle.json5_tokens.specs.ByteRuns.{is_ascii_blank}
use Rattle.json5_tokens.proofs.AsciiBlanks.{blank_is_ascii, blanks_passed, blanks_shorter, one_blank}
use Rattle.json5_types.proofs.AsciiRuns.{counted, front_boundary}
use Rattle.json5_tokens.proofs.blanks.skip_ascii.Goals as goal

pub split_at-requires : goal.split_at-requires
split_at-requires c =
    let one = one_blank c.args.text.now _ c.as_bytes-bytes.ensures.value (omega (arith, c.if-bytes-gt1.true)) (omega (arith, c.if-bytes-eq32.true)) (omega (arith, c.if-bytes-gt32-2.true)) in
    front_boundary is_ascii_blank c.args.text.now _ blank_is_ascii c.utf8.text (counted is_ascii_blank c.args.text.now _ one)

pub split_at-requires-2 : goal.split_at-requires-2
split_at-requires-2 c =
    front_boundary is_ascii_blank c.args.text.now _ blank_is_ascii c.utf8.text (counted is_ascii_blank c.args.text.now _ (c.blanks_len.ensures ∙ ap (prefix_len is_ascii_blank) c.as_bytes-bytes.ensures.value))

pub returns-then-bytes-gt32-2 : goal.returns-then-bytes-gt32-2
returns-then-bytes-gt32-2 c =
    let one = one_blank c.args.text.now _ c.as_bytes-bytes.ensures.value (omega (arith, c.if-bytes-gt1.true)) (omega (arith, c.if-bytes-eq32.true)) (omega (arith, c.if-bytes-gt32-2.true)) in
    let k = counted is_ascii_blank c.args.text.now _ one in
    record { passed = blanks_passed c.args.text.now _ _ k c.split_at.ensures.back; shorter = blanks_shorter c.args.text.now _ _ k c.split_at.ensures.back }

pub returns : goal.returns
returns c =
    let k = counted is_ascii_blank c.args.text.now _ (c.blanks_len.ensures ∙ ap (prefix_len is_ascii_blank) c.as_bytes-bytes.ensures.value) in
    record { passed = blanks_passed c.args.text.now _ _ k c.split_at-2.ensures.back; shorter = blanks_shorter c.args.text.now _ _ k c.split_at-2.ensures.back }
