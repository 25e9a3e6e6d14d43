use Rattle.std.proofs.Common.{string_bytes, subst}
use Rattle.std.specs.Prelude.{IfSome}
use Rattle.std.specs.Str.{chars}
use Rattle.json5_grammar.specs.Language.Values.{Val}
use Rattle.json5_edit.proofs.Placed.{ok_then}
use Rattle.json5_edit_values.specs.News.{HasCount}
use Rattle.json5_edit_values.proofs.PatchesMade.{at_end, put_in_by}
use Rattle.json5_edit_values.proofs.patch.adding.add_element.Goals as goal

pub returns-then-count-index : goal.returns-then-count-index
returns-then-count-index c =
    let has = HasCount c.args.text.now c.args.steps.now in
    let count = subst has c.if-count-index.true (subst (λ z. IfSome z has) c.in-Some.is c.in_ok-count.ensures.count) in
    ok_then c.push_at.result (λ made k. at_end c.args.new c.args.text.now (string_bytes made) c.args.steps.now c.args.index count k) c.push_at.ensures

pub returns : goal.returns
returns c =
    ok_then c.insert_element.result (λ made k. put_in_by c.args.new c.args.text.now c.as_str.result.now (string_bytes made) c.args.steps.now c.args.index (λ v w. c.in_ok-value.ensures v (subst (λ z. Val (chars z) v) c.as_str.ensures.value w)) k) c.insert_element.ensures.made
