use Rattle.std.proofs.Common.{◌≡◌, ap, ◌∙◌, subst, refl, false, true}
use Rattle.std.specs.Str.{chars}
use Rattle.json5_grammar.specs.Faults.Positions.{position_after}
use Rattle.json5_tokens.specs.Cursor.{IsOffset}
use Rattle.json5_tokens.proofs.TextCuts.{cut_before, take_before, boundary_offset}
use Rattle.json5_walk.proofs.Positions.{whole_text}
use Rattle.json5_walk.proofs.walk.Walk.position_of.Goals as goal

pub returns-in-Some : goal.returns-in-Some
returns-in-Some c = record {
  inside = λ before rest split counted.
      c.after.ensures
      ∙ ap (λ z. position_after (chars z)) c.in-Some.ensures.front
      ∙ ap position_after (take_before before rest (whole_text _ c.text-text.utf8) (ap chars c.text-text.ensures ∙ split) counted);
  past = λ none. absurd (none (subst (λ z. IsOffset (chars z) c.args.offset) c.text-text.ensures (boundary_offset _ c.args.offset c.text-text.utf8 (c.in-Some.ensures.variant.0 refl))));
}

pub returns-in-None : goal.returns-in-None
returns-in-None c = record {
  inside = λ before rest split counted. absurd (false_true (c.in-None.ensures.variant.1 (cut_before before rest (whole_text _ c.text-text.utf8) (ap chars c.text-text.ensures ∙ split) counted)));
  past = λ none. c.after-in-None.ensures ∙ ap (λ z. position_after (chars z)) c.text-text.ensures;
}
  where
    false_true : false ≡ true → ⊥
    false_true h = cc
