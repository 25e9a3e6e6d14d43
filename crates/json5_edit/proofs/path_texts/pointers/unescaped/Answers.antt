use Rattle.std.proofs.Common.{arith, rules, string_bytes}
use Rattle.std.proofs.lemmas.Str.Pattern.{split_parts}
use Rattle.json5_edit.proofs.PathsRead.{unescaped_end, unescapes}
use Rattle.json5_edit.proofs.path_texts.pointers.unescaped.Goals as goal

pub escapes-preserved : goal.escapes-preserved
escapes-preserved c =
    let l = c.escapes in
    let cut = rw c.in-Some.is at (split_parts 0x7E l.rest.now c.split_once.result c.split_once.ensures.cases (omega arith)) in
    let front = c.in-Some-unescaped_front in
    (unescapes c.args.part.now l.rest.now c.in-Some.plain.now c.in-Some.escape.now front.after.now (string_bytes l.key) (string_bytes c.push_str.new.self) (string_bytes c.push.new.self) front.c l.invariant.0 cut.0 cut.1 front.ensures c.in_ok-push_str.ensures.bytes c.in_ok-push.ensures.bytes, search rules)

pub returns : goal.returns
returns c =
    let l = c.escapes in
    let none = rw c.in_default.is at (split_parts 0x7E l.rest.now c.split_once.result c.split_once.ensures.cases (omega arith)) in
    unescaped_end c.args.part.now l.rest.now (string_bytes l.key) (string_bytes c.push_str-2.new.self) l.invariant.0 none c.in_ok-push_str-2.ensures.bytes
