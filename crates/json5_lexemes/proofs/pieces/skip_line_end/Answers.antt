use Rattle.std.proofs.Common.{◌∷◌, refl, sym, ap, ◌∙◌, subst}
use Rattle.std.specs.Str.{chars}
use Rattle.json5_lexemes.specs.Pieces.{TakesLineEnd}
use Rattle.json5_lexemes.proofs.pieces.skip_line_end.Goals as goal

pub returns-then-c-ne13 : goal.returns-then-c-ne13
returns-then-c-ne13 c = TakesLineEnd.terminator c.requires (λ e. absurd (c.if-c-ne13.true e))

pub returns-in-Some : goal.returns-in-Some
returns-in-Some c =
    subst (λ x. TakesLineEnd x (chars c.in-Some.rest.now)) (sym (ap (λ d. d ∷ chars c.args.after.now) c.if-c-ne13.false ∙ ap (λ z. 13 ∷ z) c.in-Some.ensures.chars)) TakesLineEnd.cr_lf

pub returns-in-None : goal.returns-in-None
returns-in-None c = TakesLineEnd.terminator c.requires (λ e. c.in-None.ensures)
