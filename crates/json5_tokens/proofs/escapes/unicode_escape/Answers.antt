use Rattle.std.proofs.Common.{sym, ap, ◌∙◌}
use Rattle.std.specs.Str.{chars}
use Rattle.json5_grammar.specs.Model.Reading.{got}
use Rattle.json5_grammar.specs.Model.ReadTexts.{hex, first, unicode_at}
use Rattle.std.proofs.lemmas.Result.{err_from_is_err_and}
use Rattle.json5_tokens.proofs.ScanEscapes.{then_refuses, unicode_then, unicode_single, unicode_surrogate}
use Rattle.json5_tokens.proofs.escapes.unicode_escape.Goals as goal

pub returns-in_err-unit : goal.returns-in_err-unit
returns-in_err-unit c =
    let p = err_from_is_err_and c.from_residual.result c.from_residual.ensures.1 in
    let refusal = c.in_err-unit.ensures.read in
    rw (p.1, p.2)
    (record {
      refused = then_refuses c.in_err-unit.field-0.0 (hex 4 0 (chars c.args.escape.now) (chars c.args.text.now)) (unicode_at (chars c.args.escape.now) (chars c.args.text.now)) (first (chars c.args.escape.now)) (unicode_then _ _) refusal.refused;
      known = refusal.known;
    })

pub returns-in-Some : goal.returns-in-Some
returns-in-Some c = record {
  read = unicode_single c.in_ok-unit.unit _ _ _ c.in_ok-unit.ensures.read.read c.in-Some.ensures.value.0
      ∙ ap (λ z. got z (chars c.in_ok-unit.rest.now)) (sym c.in-Some.ensures.value.1);
  text = c.in_ok-unit.ensures.read.text;
}

pub returns-in-None : goal.returns-in-None
returns-in-None c =
    rw (unicode_surrogate c.in_ok-unit.unit (chars c.args.escape.now) (chars c.args.text.now) (chars c.in_ok-unit.rest.now) c.in_ok-unit.ensures.read.read c.in_ok-unit.ensures.bounded c.in-None.ensures.value) c.second_escape.ensures
