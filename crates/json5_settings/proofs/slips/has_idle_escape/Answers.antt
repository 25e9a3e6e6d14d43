use Rattle.std.proofs.Common.{◌≡◌, IsUtf8, refl, rules}
use Rattle.std.specs.Str.Iter.{chars_rest}
use Rattle.json5_settings.proofs.SlipsSeen.{idle_seen, scan_more, scan_none}
use Rattle.json5_settings.proofs.slips.has_idle_escape.Goals as goal

pub loop-c-init : goal.loop-c-init
loop-c-init c =
    let utf8 : IsUtf8 c.args.spelled.now = search rules in
    let same : chars_rest c.into_iter-c-iterator.result ≡ c.args.spelled.now = search rules in
    scan_none c.args.spelled.now _ utf8 same

pub returns-then-is_idle : goal.returns-then-is_idle
returns-then-is_idle c = λ yes.
    idle_seen c.loop-c.is_escaped c.args.spelled.now (chars_rest c.loop-c.c-iterator) (chars_rest c.next.new.self) c.in-Some.c c.in-Some.ensures.steps.0 c.if-is_escaped.true (c.is_idle.ensures c.if-is_idle.true) c.loop-c.invariant

pub loop-c-preserved-then-not-is_escaped : goal.loop-c-preserved-then-not-is_escaped
loop-c-preserved-then-not-is_escaped c =
    scan_more c.loop-c.is_escaped _ c.args.spelled.now (chars_rest c.loop-c.c-iterator) (chars_rest c.next.new.self) c.in-Some.c c.in-Some.ensures.steps.0 (rw c.if-not-is_escaped.true refl) c.loop-c.invariant

pub loop-c-preserved : goal.loop-c-preserved
loop-c-preserved c =
    scan_more c.loop-c.is_escaped _ c.args.spelled.now (chars_rest c.loop-c.c-iterator) (chars_rest c.next.new.self) c.in-Some.c c.in-Some.ensures.steps.0 (rw c.if-not-is_escaped.false refl) c.loop-c.invariant
