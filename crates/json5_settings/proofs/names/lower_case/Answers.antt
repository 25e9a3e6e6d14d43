use Rattle.std.proofs.Common.{◌≡◌, [], IsUtf8, rules}
use Rattle.std.specs.Prelude.{string_bytes}
use Rattle.std.specs.Str.Iter.{chars_rest}
use Rattle.json5_settings.proofs.WordsParted.{lower_ended, lower_more, lower_start}
use Rattle.json5_settings.proofs.names.lower_case.Goals as goal

pub loop-c-init : goal.loop-c-init
loop-c-init c =
    let utf8 : IsUtf8 c.args.name.now = search rules in
    let same : chars_rest c.into_iter-c-iterator.result ≡ c.args.name.now = search rules in
    let none : string_bytes c.new-lower.result ≡ [] = search rules in
    lower_start c.args.with_marks c.args.name.now _ _ utf8 same none

pub loop-c-preserved : goal.loop-c-preserved
loop-c-preserved c =
    let l = c.loop-c in
    lower_more c.args.with_marks c.args.name.now (chars_rest l.c-iterator) (chars_rest c.next.new.self) (string_bytes l.lower) _ c.in-Some.c c.in-Some.ensures.steps.0 c.in_ok-push_lower.ensures l.invariant

pub returns : goal.returns
returns c = lower_ended c.args.with_marks c.args.name.now (chars_rest c.loop-c.c-iterator) _ c.in-None.ensures.steps.0.0 c.loop-c.invariant
