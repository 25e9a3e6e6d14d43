use Rattle.std.proofs.Common.{◌≡◌, ◌∷◌, sym, ap, ◌∙◌, subst}
use Rattle.std.specs.Prelude.{◌↔◌}
use Rattle.std.specs.Str.{chars}
use Rattle.json5_lexemes.specs.PlainSteps.{TakesCode, TakesEscape}
use Rattle.json5_lexemes.proofs.PlainTakes.{leaves_by, no_escape, escape_letter, escape_code, escape_stops}
use Rattle.json5_lexemes.proofs.plain.skip_escape.Goals as goal

pub returns-in_default : goal.returns-in_default
returns-in_default c = λ r t. no_escape r (subst (λ z. TakesEscape z r) c.in_default.ensures t)

pub returns-then-is_escape_letter : goal.returns-then-is_escape_letter
returns-then-is_escape_letter c =
    λ r. subst (λ z. TakesEscape z r ↔ (r ≡ chars c.in-Some.after.now)) (sym c.in-Some.ensures.chars) (escape_letter c.in-Some.c _ r (sym c.if-is_escape_letter.ensures))

pub returns-then-c-eq117 : goal.returns-then-c-eq117
returns-then-c-eq117 c =
    leaves_by TakesEscape TakesCode _ c.in-Some.after.now c.skip_code.result
    (λ r. subst (λ z. TakesEscape z r ↔ TakesCode (chars c.in-Some.after.now) r) (sym (c.in-Some.ensures.chars ∙ ap (λ z. z ∷ chars c.in-Some.after.now) c.if-c-eq117.true)) (escape_code (chars c.in-Some.after.now) r)) c.skip_code.ensures

pub returns : goal.returns
returns c =
    λ r t. escape_stops c.in-Some.c (chars c.in-Some.after.now) r (sym c.if-is_escape_letter.ensures) c.if-c-eq117.false (subst (λ z. TakesEscape z r) c.in-Some.ensures.chars t)
