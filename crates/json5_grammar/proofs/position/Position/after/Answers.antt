use Rattle.std.proofs.Common.{◌≡◌, ◌+◌, length, ap, sym, ◌∙◌, arith}
use Rattle.std.specs.Prelude.{◌==◌}
use Rattle.std.specs.Char.{encode_utf8}
use Rattle.std.specs.Str.{chars}
use Rattle.std.specs.Str.Iter.{chars_rest}
use Rattle.std.proofs.lemmas.Str.{IsUtf8-past_char, chars_past_char, length-encode, len_utf8_bounds}
use Rattle.std.proofs.lemmas.List.{length-append}
use Rattle.std.proofs.StrCases.{chars_of_empty}
use Rattle.json5_grammar.specs.Model.PositionSteps.{position_from, position_step}
use Rattle.json5_grammar.proofs.PositionsCounted.{counted, step_bounded}
use Rattle.json5_grammar.proofs.position.Position.after.Goals as goal

pub loop-c-preserved : goal.loop-c-preserved
loop-c-preserved c =
    let l = c.loop-c in
    let parts = c.in-Some.ensures.steps.0 in
    let split = chars_past_char _ _ c.in-Some.c l.invariant.0 parts in (
      IsUtf8-past_char _ _ c.in-Some.c l.invariant.0 parts,
      ap (λ p. position_from p (c.in-Some.c == 13) (chars (chars_rest c.next.new.self))) c.step-position.ensures ∙ ap (λ z. position_from l.position l.is_after_cr z) (sym split) ∙ l.invariant.1,
      let longer : length (chars_rest l.c-iterator) ≡ length (encode_utf8 c.in-Some.c) + length (chars_rest c.next.new.self) = ap length parts ∙ length-append (encode_utf8 c.in-Some.c) (chars_rest c.next.new.self) in
          let same_line : c.step-position.result.line ≡ (position_step l.position l.is_after_cr c.in-Some.c).line = ap (λ p. p.line) c.step-position.ensures in
          let same_column : c.step-position.result.column ≡ (position_step l.position l.is_after_cr c.in-Some.c).column = ap (λ p. p.column) c.step-position.ensures in
          omega (arith, length-encode c.in-Some.c, (len_utf8_bounds c.in-Some.c).0, step_bounded l.position l.is_after_cr c.in-Some.c),
    )

pub returns : goal.returns
returns c =
    let l = c.loop-c in
    ap (λ z. position_from l.position l.is_after_cr z) (sym (chars_of_empty _ c.in-None.ensures.steps.0.0)) ∙ l.invariant.1 ∙ counted (chars c.args.text.now)
