use Rattle.std.proofs.Common.{◌≡◌, ◌∙◌, rules, true, ap, sym, refl, inr, nat_eq}
use Rattle.std.specs.Fn.{FnReturnsAt}
use Rattle.std.specs.List.{starts_with}
use Rattle.std.specs.Prelude.{codes, Err, string_bytes}
use Rattle.std.proofs.lemmas.Result.{err_from_is_err_and}
use Rattle.json5_types.specs.Errors.{kind_text}
use Rattle.json5_settings.specs.Known.{is_unknown_field}
use Rattle.json5_settings.proofs.FieldsPassed.{none_passed, one_passed}
use Rattle.json5_settings.proofs.known.read_known.Goals as goal

pub loop-init : goal.loop-init
loop-init g c =
    let remains = c.in_ok-remains.remains in
    let (same, none) = c.in_ok-remains.ensures in
    none_passed (FnReturnsAt g.F.Fn c.args.read) c.args.text.now (string_bytes remains.text) remains.told.items same none

pub loop-preserved : goal.loop-preserved
loop-preserved g c =
    let l = c.loop in
    let new = c.pass.new.self in
    let refused : FnReturnsAt g.F.Fn c.args.read (string_bytes l.remains.text) (Err c.in-Err.fault) = search rules in
    let named : is_unknown_field c.in-Err.fault ≡ true =
    ap (λ k. starts_with nat_eq (kind_text k) (codes "unknown field `")) (sym c.in_ok-told.ensures.kind) ∙ sym c.is_of_unknown_field.ensures ∙ c.if-not-is_of_unknown_field.false in
    let (tells, out) = c.in_ok-pass.ensures in
    one_passed (FnReturnsAt g.F.Fn c.args.read) c.args.text.now (string_bytes l.remains.text) (string_bytes new.text) c.in-Err.fault l.remains.told.items new.told.items (refused, named) tells (out c.if-not-branch.false) l.invariant

pub returns-in_err-value : goal.returns-in_err-value
returns-in_err-value g c =
    let l = c.loop in
    let (y, is, from) = err_from_is_err_and c.from_residual-in_err-value.result c.from_residual-in_err-value.ensures.1 in
    let fault = c.in_err-value.field-0.0 in
    let refused : FnReturnsAt g.F.Fn c.args.read (string_bytes l.remains.text) (Err fault) = search rules in
    rw (is, from) (inr (string_bytes l.remains.text, fault, l.invariant.without, refused, record { kind = refl; place = refl }))
