use Rattle.std.proofs.Common.{refl}
use Rattle.std.specs.Prelude.{slice_range, string_bytes}
use Rattle.std.specs.Str.Iter.{chars_rest}
use Rattle.json5_settings.proofs.Blanked.{blanks_all, blanks_more}
use Rattle.json5_settings.proofs.blanks.blanked.Goals as goal

pub loop-c-preserved : goal.loop-c-preserved
loop-c-preserved c =
    let l = c.loop-c in
    let text = c.args.text.now in
    blanks_more (slice_range text 0 c.args.from) (slice_range text c.args.from c.args.till) (chars_rest l.c-iterator) (chars_rest c.next.new.self) (string_bytes l.made) (string_bytes c.push.new.self) c.in-Some.c c.blank.result c.in-Some.ensures.steps.0 c.blank.ensures c.in_ok-push.ensures.bytes l.invariant

pub returns : goal.returns
returns c =
    let l = c.loop-c in
    let text = c.args.text.now in
    blanks_all text (slice_range text 0 c.args.from) (slice_range text c.args.from c.args.till) c.in-Some-Some-Some.rest.now (chars_rest l.c-iterator) (string_bytes l.made) (string_bytes c.push_str.new.self) c.args.from c.args.till refl refl c.in-Some-Some-Some.ensures''.cases.0 c.in-None.ensures.steps.0.0 l.invariant c.in_ok-push_str.ensures.bytes
