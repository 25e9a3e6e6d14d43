use Rattle.std.proofs.Common.{◌≡◌, ◌++◌, [], IsUtf8, ap, sym, ◌∙◌, subst, rules}
use Rattle.std.specs.Prelude.{string_bytes}
use Rattle.std.specs.Str.Iter.{chars_rest}
use Rattle.std.proofs.lemmas.Str.{IsUtf8-past_char}
use Rattle.cli_files.specs.ShownNames.{shown_name}
use Rattle.cli_files.proofs.NamesShown.{all_shown, one_more_shown}
use Rattle.cli_files.proofs.shown_names.shown.Goals as goal

pub loop-c-init : goal.loop-c-init
loop-c-init c =
    let utf8 : IsUtf8 c.args.name.now = search rules in
    let same : chars_rest c.into_iter-c-iterator.result ≡ c.args.name.now = search rules in
    let empty : string_bytes c.new-text.result ≡ [] = search rules in
    (subst IsUtf8 (sym same) utf8, ap shown_name (sym same) ∙ ap (λ x. x ++ shown_name (chars_rest c.into_iter-c-iterator.result)) (sym empty))

pub loop-c-preserved : goal.loop-c-preserved
loop-c-preserved c =
    let l = c.loop-c in
    let split = c.in-Some.ensures.steps.0 in (
      IsUtf8-past_char (chars_rest l.c-iterator) (chars_rest c.next.new.self) c.in-Some.c l.invariant.0 split,
      one_more_shown c.args.name.now (chars_rest l.c-iterator) (chars_rest c.next.new.self) _ c.in-Some.c l.invariant.0 split l.invariant.1
          ∙ ap (λ x. x ++ shown_name (chars_rest c.next.new.self)) (sym c.in_ok-push_char.ensures),
    )

pub returns : goal.returns
returns c =
    let l = c.loop-c in
    sym (all_shown c.args.name.now (chars_rest l.c-iterator) _ c.in-None.ensures.steps.0.0 l.invariant.1)
