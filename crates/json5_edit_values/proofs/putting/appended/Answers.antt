use Rattle.std.proofs.Common.{inl, subst}
use Rattle.std.proofs.lemmas.Result.{err_from_is_err_and}
use Rattle.std.specs.Prelude.{IfSome}
use Rattle.json5_edit.proofs.Changed.{not_edited}
use Rattle.json5_edit.proofs.Placed.{ok_then}
use Rattle.json5_edit_values.specs.News.{HasCount}
use Rattle.json5_edit_values.proofs.PathsPut.{other_count, outer_refused, push_refused, pushed_at}
use Rattle.json5_edit_values.proofs.putting.appended.Goals as goal

pub returns-in_err-found : goal.returns-in_err-found
returns-in_err-found c =
    let (y, is, from) = err_from_is_err_and c.from_residual.result c.from_residual.ensures.1 in
    rw (is, from) (not_edited (outer_refused c.args.text.now c.args.value.now c.args.outer.now c.args.count c.in_err-found.field-0.0 c.in_err-found.ensures.refused))

pub returns-then-found-count : goal.returns-then-found-count
returns-then-found-count c =
    let has = HasCount c.args.text.now c.args.outer.now in
    let counted = subst has c.if-found-count.true (subst (λ z. IfSome z has) c.in-Some.is c.in_ok-found.ensures.count) in
    record {
      made = pushed_at c.args.text.now c.args.value.now c.args.outer.now c.args.count counted c.push.result c.push.ensures.made;
      plain = ok_then c.push.result (λ made k quoted. k) c.push.ensures.plain;
      refused = push_refused c.args.text.now c.args.value.now c.args.outer.now c.args.count c.push.result c.push.ensures.refused;
    }

pub returns : goal.returns
returns c =
    let has = HasCount c.args.text.now c.args.outer.now in
    not_edited (other_count c.args.text.now c.args.value.now c.args.outer.now c.args.count c.in-Some.found (subst (λ z. IfSome z has) c.in-Some.is c.in_ok-found.ensures.count) c.if-found-count.false)

pub returns-in_default : goal.returns-in_default
returns-in_default c = not_edited (inl (rw c.in_default.is at c.in_ok-found.ensures.none))
