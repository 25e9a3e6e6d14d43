use Rattle.std.proofs.Common.{◌≡◌, true, Some, None, refl, ap, sym, ◌∙◌}
use Rattle.std.specs.Str.{encode_utf8_all}
use Rattle.std.proofs.lemmas.Result.{err_from_is_err_and}
use Rattle.json5_grammar.specs.Language.Trees as trees
use Rattle.json5_grammar.specs.Language.Values.{is_text}
use Rattle.json5_types.specs.Cows.{cow_bytes, is_borrowed}
use Rattle.json5_de.specs.Convert.{if_escape_free}
use Rattle.json5_de.specs.TokenKinds.{every_tree, escape_free_kind}
use Rattle.json5_de.proofs.ReadSteps.{took_leaf}
use Rattle.json5_de.proofs.ExpectsStrings.{text_stops}
use Rattle.json5_de.proofs.TokenKinds.{lawful_text, not_begun, escape_free_refused, not_text, reads_ok}
use Rattle.json5_de.proofs.de.Deserializer.str_slowly.Goals as goal

pub returns-in_err-skip_blank : goal.returns-in_err-skip_blank
returns-in_err-skip_blank g c =
    let (y, is, from) = err_from_is_err_and c.from_residual.result c.from_residual.ensures.1 in
    rw (is, from) (not_begun (lawful_text if_escape_free every_tree) (λ t. t.now) c.args.self.now c.skip_blank.new.self c.in_err-skip_blank.field-0.0 c.in_err-skip_blank.ensures.refused c.in_err-skip_blank.ensures.failed c.in_err-skip_blank.ensures.before)

pub returns-in_err-text : goal.returns-in_err-text
returns-in_err-text g c =
    let (y, is, from) = err_from_is_err_and c.from_residual-in_err-text.result c.from_residual-in_err-text.ensures.1 in
    rw (is, from) (escape_free_refused (λ t. t.now) c.args.self.now c.skip_blank.new.self c.text.new.self c.in_err-text.field-0.0 c.in_ok-skip_blank.ensures.passed c.in_err-text.ensures.refused c.in_err-text.ensures.failed c.in_err-text.ensures.complete)

pub returns-in-Borrowed : goal.returns-in-Borrowed
returns-in-Borrowed g c =
    let (s, u, escape_free, took, str, borrowed, bytes) = c.in_ok-text.ensures.taken in
    let is_escape_free : escape_free ≡ true = sym borrowed ∙ ap is_borrowed c.in-Borrowed.is in
    let same : encode_utf8_all u ≡ c.in-Borrowed.text.now = sym bytes ∙ ap cow_bytes c.in-Borrowed.is in
    reads_ok escape_free_kind (λ t. t.now) c.args.self.now c.text.new.self _
    (trees.text u escape_free, took_leaf c.args.self.now c.skip_blank.new.self c.text.new.self s (trees.text u escape_free) refl c.in_ok-skip_blank.ensures.passed took (is_text str) (text_stops c.text.new.self.unread str), ap (if_escape_free u) is_escape_free ∙ ap Some same)

pub returns-in-Owned : goal.returns-in-Owned
returns-in-Owned g c =
    let (s, u, escape_free, took, str, borrowed, bytes) = c.in_ok-text.ensures.taken in
    let none : if_escape_free u escape_free ≡ None = ap (if_escape_free u) (sym borrowed ∙ ap is_borrowed c.in-Owned.is) in
    not_text if_escape_free every_tree (λ t. t.now) c.args.self.now c.skip_blank.new.self c.text.new.self c.refuse_mismatch.new.self c.refuse_mismatch.result c.offset-start.result s u escape_free
    c.in_ok-skip_blank.ensures.passed took str none c.offset-start.ensures.counted c.refuse_mismatch.ensures.refused c.refuse_mismatch.ensures.failed
