use Rattle.std.proofs.Common.{◌≡◌, true, drop, refl, sym, subst, arith}
use Rattle.std.specs.Prelude.{slice_index}
use Rattle.json5_styles.specs.Json.{is_json_blank}
use Rattle.json5_lexemes.specs.Plain.{is_opening, is_closing}
use Rattle.json5_lexemes.proofs.PlainFronts.{ascii_starts, starts, first_is, other_by, other_than}
use Rattle.json5_lexemes.proofs.PlainPassed.{blanks_passed, opening_passed, comma_passed, closing_passed, colon_passed, string_passed, comment_passed, word_passed}
use Rattle.json5_lexemes.proofs.PlainRuns.{number_is_ascii, blank_is_ascii, opening_is_ascii, closing_is_ascii}
use Rattle.json5_lexemes.specs.PlainSteps.{begins_number}
use Rattle.json5_lexemes.proofs.plain.pass_lexeme.Goals as goal

pub returns-then-first-eq34 : goal.returns-then-first-eq34
returns-then-first-eq34 c =
    c.with_sign.ensures c.args.comments c.args.last c.args.text.now
    (string_passed c.args.comments c.args.last c.args.text.now c.past_first.result.now _ c.past_first.ensures.chars (first_is _ _ 34 c.as_bytes.ensures.value c.if-first-eq34.true) _ c.pass_string.ensures)

pub returns-then-begins_number : goal.returns-then-begins_number
returns-then-begins_number c =
    let text = c.args.text.now in
    let h = subst (λ z. begins_number (slice_index z 0) ≡ true) c.as_bytes.ensures.value (sym c.if-begins_number.ensures) in
    let f = ascii_starts text (drop 1 text) c.utf8.text c.requires (number_is_ascii _ h) refl in
    c.pass_number_within.ensures c.args.comments c.args.last _ (drop 1 text) f.chars h

pub returns-then-is_json_blank : goal.returns-then-is_json_blank
returns-then-is_json_blank c =
    let h = subst (λ z. is_json_blank (slice_index z 0) ≡ true) c.as_bytes.ensures.value (sym c.if-is_json_blank.ensures) in
    let f = ascii_starts c.args.text.now (drop 1 c.args.text.now) c.utf8.text c.requires (blank_is_ascii _ h) refl in
    blanks_passed c.args.comments c.args.last c.args.text.now (drop 1 c.args.text.now) _ f.chars h _ c.skip_json_blanks.ensures

pub returns-then-is_opening : goal.returns-then-is_opening
returns-then-is_opening c =
    let h = subst (λ z. is_opening (slice_index z 0) ≡ true) c.as_bytes.ensures.value (sym c.if-is_opening.ensures) in
    opening_passed c.args.comments c.args.last c.args.text.now c.past_first-then-is_opening.result.now _ c.past_first-then-is_opening.ensures.chars h

pub returns-then-is_closing : goal.returns-then-is_closing
returns-then-is_closing c =
    let h = subst (λ z. is_closing (slice_index z 0) ≡ true) c.as_bytes.ensures.value (sym c.if-is_closing.ensures) in
    c.with_comma.ensures c.args.comments c.args.last c.args.text.now
    (closing_passed c.args.comments c.args.last c.args.text.now c.past_first-then-is_closing.result.now _ c.past_first-then-is_closing.ensures.chars h _ c.pass_closing.ensures)

pub returns-then-first-eq44 : goal.returns-then-first-eq44
returns-then-first-eq44 c =
    comma_passed c.args.comments c.args.last c.args.text.now c.past_first-then-first-eq44.result.now _ c.past_first-then-first-eq44.ensures.chars (first_is _ _ 44 c.as_bytes.ensures.value c.if-first-eq44.true)

pub returns-then-first-eq58 : goal.returns-then-first-eq58
returns-then-first-eq58 c =
    colon_passed c.args.comments c.args.last c.args.text.now c.past_first-then-first-eq58.result.now _ c.past_first-then-first-eq58.ensures.chars (first_is _ _ 58 c.as_bytes.ensures.value c.if-first-eq58.true) _
    c.pass_colon.ensures

pub returns-then-first-eq47 : goal.returns-then-first-eq47
returns-then-first-eq47 c =
    comment_passed c.args.comments c.args.last c.args.text.now c.past_first-then-first-eq47.result.now _ c.past_first-then-first-eq47.ensures.chars (first_is _ _ 47 c.as_bytes.ensures.value c.if-first-eq47.true) _
    c.pass_comment.ensures

pub returns : goal.returns
returns c =
    let s = starts c.args.text.now c.utf8.text c.requires in
    let f = s.1.1.chars in
    let u = c.utf8.text in
    let same = c.as_bytes.ensures.value in
    c.with_comma-2.ensures c.args.comments c.args.last c.args.text.now
    (word_passed c.args.comments c.args.last c.args.text.now s.1.0 s.0 f (record {
      no_blank = other_by is_json_blank c.args.text.now _ s.1.0 s.0 blank_is_ascii u same (sym c.if-is_json_blank.ensures) f;
      no_opening = other_by is_opening c.args.text.now _ s.1.0 s.0 opening_is_ascii u same (sym c.if-is_opening.ensures) f;
      no_closing = other_by is_closing c.args.text.now _ s.1.0 s.0 closing_is_ascii u same (sym c.if-is_closing.ensures) f;
      no_comma = other_than 44 c.args.text.now _ s.1.0 s.0 (omega arith) u same c.if-first-eq44.false f;
      no_colon = other_than 58 c.args.text.now _ s.1.0 s.0 (omega arith) u same c.if-first-eq58.false f;
      no_slash = other_than 47 c.args.text.now _ s.1.0 s.0 (omega arith) u same c.if-first-eq47.false f;
      no_quote = other_than 34 c.args.text.now _ s.1.0 s.0 (omega arith) u same c.if-first-eq34.false f;
    }) c.pass_word.result c.pass_word.ensures)
