use Rattle.std.proofs.Common.{◌≡◌, ◌∷◌, [], ap, ◌∙◌, arith}
use Rattle.std.specs.Str.{chars}
use Rattle.json5_grammar.specs.Language.Values.{null_text, true_text, false_text}
use Rattle.json5_styles.specs.Json.{JsonNumber}
use Rattle.json5_lexemes.specs.Plain as plain
use Rattle.json5_lexemes.specs.PlainSteps.{TakesWord, Then}
use Rattle.json5_lexemes.specs.declared.plain.Last.TheVariants as last
use Rattle.json5_lexemes.proofs.PlainFronts.{starts, first_is, first_char, other_than}
use Rattle.json5_lexemes.proofs.PlainTakes.{leaves_with_by}
use Rattle.json5_lexemes.proofs.PlainWords.{literal_passed, only_null, only_true, only_false, past_more, number_alone, no_letter_begins}
use Rattle.json5_lexemes.proofs.plain.pass_word.Goals as goal

pub returns-then-first-eq110 : goal.returns-then-first-eq110
returns-then-first-eq110 c =
    let f = first_char c.args.text.now _ 110 c.utf8.text c.requires c.as_bytes.ensures.value c.if-first-eq110.true (omega arith) in
    c.pass_literal.ensures c.args.text.now (literal_passed null_text c.args.text.now _ plain.is_null (only_null _ _ f) c.skip_four.ensures)

pub returns-then-first-eq116 : goal.returns-then-first-eq116
returns-then-first-eq116 c =
    let f = first_char c.args.text.now _ 116 c.utf8.text c.requires c.as_bytes.ensures.value c.if-first-eq116.true (omega arith) in
    c.pass_literal-then-first-eq116.ensures c.args.text.now (literal_passed true_text c.args.text.now _ plain.is_true (only_true _ _ f) c.skip_four-then-first-eq116.ensures)

pub returns-then-first-eq102 : goal.returns-then-first-eq102
returns-then-first-eq102 c =
    let after = c.past_first.result.now in
    let f : chars c.args.text.now ≡ 102 ∷ chars after = c.past_first.ensures.chars ∙ ap (λ z. z ∷ chars after) (first_is _ _ 102 c.as_bytes.ensures.value c.if-first-eq102.true) in
    c.pass_literal-then-first-eq102.ensures c.args.text.now
    (literal_passed false_text c.args.text.now c.skip_four-then-first-eq102.result plain.is_false (only_false _ _ f) (past_more 102 (97 ∷ 108 ∷ 115 ∷ 101 ∷ []) c.args.text.now after c.skip_four-then-first-eq102.result f c.skip_four-then-first-eq102.ensures))

pub returns : goal.returns
returns c =
    let s = starts c.args.text.now c.utf8.text c.requires in
    let f = s.1.1.chars in
    let same = c.as_bytes.ensures.value in
    let n = other_than 110 c.args.text.now _ s.1.0 s.0 (omega arith) c.utf8.text same c.if-first-eq110.false f in
    let t = other_than 116 c.args.text.now _ s.1.0 s.0 (omega arith) c.utf8.text same c.if-first-eq116.false f in
    let l = other_than 102 c.args.text.now _ s.1.0 s.0 (omega arith) c.utf8.text same c.if-first-eq102.false f in
    leaves_with_by TakesWord (Then JsonNumber) last.Word c.args.text.now c.pass_number.result (λ r. number_alone _ s.0 (chars s.1.0) r f (no_letter_begins s.0 n t l)) c.pass_number.ensures
