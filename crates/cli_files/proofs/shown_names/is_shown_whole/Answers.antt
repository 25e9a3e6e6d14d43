use Rattle.std.proofs.Common.{◌≡◌, IsUtf8, sym, ◌∙◌, subst, rules}
use Rattle.std.specs.Str.Iter.{chars_rest}
use Rattle.std.proofs.lemmas.Str.{IsUtf8-past_char}
use Rattle.cli_files.specs.ShownNames.{shown_name}
use Rattle.cli_files.proofs.NamesShown.{whole_at_end, whole_before}
use Rattle.cli_files.proofs.shown_names.is_shown_whole.Goals as goal

pub loop-c-init : goal.loop-c-init
loop-c-init c =
    let utf8 : IsUtf8 c.args.name.now = search rules in
    let same : chars_rest c.into_iter-c-iterator.result ≡ c.args.name.now = search rules in
    (subst IsUtf8 (sym same) utf8, λ whole. subst (λ x. shown_name x ≡ x) same whole)

pub loop-c-preserved : goal.loop-c-preserved
loop-c-preserved c =
    let l = c.loop-c in
    let split = c.in-Some.ensures.steps.0 in (
      IsUtf8-past_char (chars_rest l.c-iterator) (chars_rest c.next.new.self) c.in-Some.c l.invariant.0 split,
      λ whole. l.invariant.1 (whole_before (chars_rest l.c-iterator) (chars_rest c.next.new.self) c.in-Some.c l.invariant.0 split (sym c.is_control.ensures ∙ c.if-is_control.false) whole),
    )

pub returns : goal.returns
returns c = λ yes.
    let l = c.loop-c in
    l.invariant.1 (whole_at_end (chars_rest l.c-iterator) c.in-None.ensures.steps.0.0)
