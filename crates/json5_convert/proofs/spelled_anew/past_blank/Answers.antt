use Rattle.json5_convert.proofs.AnewSteps.{blank_before}
use Rattle.json5_convert.proofs.spelled_anew.past_blank.Goals as goal

pub returns-then-is_json5_whitespace : goal.returns-then-is_json5_whitespace
returns-then-is_json5_whitespace c = blank_before c.args.text.now c.in_ok-c.rest.now c.in_ok-c.c c.in_ok-c.ensures c.if-is_json5_whitespace.ensures
