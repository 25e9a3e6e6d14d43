use Rattle.std.proofs.Common.{◌≡◌, take, ap, sym, ◌∙◌, subst, refl, false, true}
use Rattle.std.specs.Str.{chars, IsCharBoundary}
use Rattle.json5_grammar.specs.Faults.Positions.{position_after}
use Rattle.json5_tokens.specs.Cursor.{Cursor, IsOffset}
use Rattle.json5_tokens.proofs.TextCuts.{cut_before, take_before, boundary_offset}
use Rattle.json5_tokens.proofs.scanner.Scanner.position_of.Goals as goal

pub returns-in-Some : goal.returns-in-Some
returns-in-Some g c = record {
  inside = λ before rest split counted.
      c.after.ensures
      ∙ ap (λ z. position_after (chars z)) c.in-Some.ensures.front
      ∙ ap (λ z. position_after (chars (take c.args.offset z))) c.as_text-text.ensures
      ∙ ap position_after (take_before before rest c.self.invariant (ap (λ (s : Cursor). s.input) c.self.view_is ∙ split) counted);
  past = λ none.
      let boundary = subst (λ z. IsCharBoundary z c.args.offset) c.as_text-text.ensures (c.in-Some.ensures.variant.0 refl) in
      absurd (none (subst (λ z. IsOffset z c.args.offset) (ap (λ (s : Cursor). s.input) c.self.view_is) (boundary_offset _ c.args.offset c.self.invariant.is_text boundary)));
}

pub returns-in-None : goal.returns-in-None
returns-in-None g c = record {
  inside = λ before rest split counted.
      let boundary = subst (λ z. IsCharBoundary z c.args.offset) (sym c.as_text-text.ensures) (cut_before before rest c.self.invariant (ap (λ (s : Cursor). s.input) c.self.view_is ∙ split) counted) in
      absurd (false_true (c.in-None.ensures.variant.1 boundary));
  past = λ none. c.after-in-None.ensures ∙ ap (λ z. position_after (chars z)) c.as_text-text.ensures ∙ ap (λ (s : Cursor). position_after s.input) c.self.view_is;
}
  where
    false_true : false ≡ true → ⊥
    false_true h = cc
