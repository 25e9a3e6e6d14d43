use Rattle.std.proofs.Common.{◌≡◌, false, ◌∷◌, refl, ap, sym, ◌∙◌, arith}
use Rattle.std.specs.Prelude.{◌==◌}
use Rattle.json5_tokens.proofs.names.skip_start.Goals as goal

pub returns-in-Some : goal.returns-in-Some
returns-in-Some c =
    let skipped = c.skip_parts.ensures in
    let other : (c.in-Some.c == 92) ≡ false = grind arith in
    record {
      passed = c.in-Some.c ∷ skipped.passed;
      split = c.in-Some.ensures.chars ∙ ap (λ z. c.in-Some.c ∷ z) skipped.split;
      each = (rw (other, sym c.is_json5_identifier_start.ensures ∙ c.if-is_json5_identifier_start.true) refl, skipped.each);
      stops = skipped.stops;
    }
