use Rattle.std.proofs.Common.{string_bytes}
use Rattle.json5_tokens.specs.Scan.{in_list}
use Rattle.json5_tokens.proofs.ScanTexts.{bytes_past}
use Rattle.json5_tokens.proofs.ShortEscapes.{at_stop, stepped_past}
use Rattle.json5_tokens.proofs.strings_and_names.push_steps.Goals as goal

pub returns-in_ok-push_str-in-Escape : goal.returns-in_ok-push_str-in-Escape
returns-in_ok-push_str-in-Escape c =
    let more = c.in_ok-rest.ensures in
    let a = at_stop c.args.kind c.args.escape.now more.0 c.in_ok-rest.rest.now c.in_ok-rest-2.field-0 more.1 c.in_ok-rest-2.ensures in
    let step = c.in_ok-step-in-Escape.step in
    let found = c.in_ok-step-in-Escape.ensures in (
      _,
      stepped_past c.args.kind c.in-Escape.kind c.args.escape.now c.args.after.now more.0 c.in_ok-rest-2.field-0 c.in-Escape.escape c.in-Escape.after step a c.in-Escape.is c.requires found,
      bytes_past (string_bytes c.args.text.now) _ _ _ step.run.now more.0 (in_list step.spelled) more.2 c.in_ok-push_spelled-in-Escape.ensures c.in_ok-push_str-in-Escape.ensures.bytes found.text,
    )
