use Rattle.std.proofs.Common.{arith, rules}
use Rattle.std.proofs.lemmas.Str.Pattern.{split_parts}
use Rattle.json5_edit.proofs.PathsRead.{parts_end, parts_go_on}
use Rattle.json5_edit.proofs.path_texts.pointers.read_pointer.Goals as goal

pub parts-preserved : goal.parts-preserved
parts-preserved c =
    let l = c.parts in
    let cut = rw c.in-Some.is at (split_parts 0x2F l.left.now c.split_once.result c.split_once.ensures.cases (omega arith)) in
    (parts_go_on c.args.rest.now l.left.now c.in-Some.part.now c.in-Some.more.now l.steps.items c.push.new.self.items c.in_ok-read_part.field-0 c.in_ok-push.ensures.items l.invariant.0 cut.0 cut.1 (c.in_ok-read_part.ensures cut.1), search rules)

pub returns : goal.returns
returns c =
    let l = c.parts in
    let none = rw c.in_default.is at (split_parts 0x2F l.left.now c.split_once.result c.split_once.ensures.cases (omega arith)) in
    parts_end c.args.rest.now l.left.now l.steps.items c.push-2.new.self.items c.in_ok-read_part-2.field-0 c.in_ok-push-2.ensures.items l.invariant.0 none (c.in_ok-read_part-2.ensures none)
