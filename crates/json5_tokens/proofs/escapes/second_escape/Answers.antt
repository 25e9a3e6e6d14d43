use Rattle.std.proofs.Common.{length, Some, None, sym, ap, ◌∙◌}
use Rattle.std.specs.Str.{chars}
use Rattle.std.proofs.lemmas.Str.{encodes-chars}
use Rattle.json5_grammar.specs.Model.Reading.{got}
use Rattle.json5_grammar.specs.Model.ReadTexts.{second, paired}
use Rattle.json5_tokens.specs.Outcome.{failed, outcome}
use Rattle.std.proofs.lemmas.Result.{err_from_is_err_and}
use Rattle.json5_tokens.proofs.ScanFaults.{code_known}
use Rattle.json5_tokens.proofs.ScanEscapes.{then_refuses, other_half, second_word, second_digits, second_pair, second_unpaired}
use Rattle.json5_tokens.proofs.escapes.second_escape.Goals as goal

pub returns-in_err-digits : goal.returns-in_err-digits
returns-in_err-digits c =
    let p = err_from_is_err_and c.from_residual.result c.from_residual.ensures.1 in
    let refusal = c.in_err-digits.ensures in
    rw (p.1, p.2)
    (record {
      refused = then_refuses c.in_err-digits.field-0.0 _ (second c.args.unit (chars c.args.escape.now) (chars c.args.text.now)) (other_half c.args.unit (chars c.args.escape.now)) (second_word c.args.unit (chars c.args.escape.now) (chars c.args.text.now)) refusal.refused;
      known = code_known c.in_err-digits.field-0.0 refusal.known;
    })

pub returns-in_err-second : goal.returns-in_err-second
returns-in_err-second c =
    let p = err_from_is_err_and c.from_residual-in_err-second.result c.from_residual-in_err-second.ensures.1 in
    let refusal = c.in_err-second.ensures.read in
    rw (p.1, p.2)
    (record {
      refused = then_refuses c.in_err-second.field-0.0 _ (second c.args.unit (chars c.args.escape.now) (chars c.args.text.now)) (paired c.args.unit (chars c.args.escape.now)) (second_digits c.args.unit _ _ _ c.in_ok-digits.ensures.read) refusal.refused;
      known = refusal.known;
    })

pub returns-in-Some : goal.returns-in-Some
returns-in-Some c = record {
  read = second_pair c.args.unit c.in_ok-second.second _ _ _ _ c.in_ok-digits.ensures.read c.in_ok-second.ensures.read.read c.in-Some.ensures.0
      ∙ ap (λ z. got z (chars c.in_ok-second.rest.now)) (sym c.in-Some.ensures.1);
  text = c.in_ok-second.ensures.read.text;
}

pub returns-in-None : goal.returns-in-None
returns-in-None c = record {
  refused = ap outcome (second_unpaired c.args.unit c.in_ok-second.second _ _ _ _ c.in_ok-digits.ensures.read c.in_ok-second.ensures.read.read c.in-None.ensures)
      ∙ ap (λ z. failed None (Some (length z))) (encodes-chars c.args.escape.now c.utf8.escape);
  known = tt;
}
