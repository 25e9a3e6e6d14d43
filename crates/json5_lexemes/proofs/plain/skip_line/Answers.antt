use Rattle.std.proofs.Common.{[], refl, sym, subst}
use Rattle.json5_grammar.specs.Language.Characters.{NotBegun}
use Rattle.json5_grammar.specs.Language.Characters.{no_char}
use Rattle.json5_lexemes.specs.SameLexemes.{is_line_part}
use Rattle.json5_lexemes.proofs.PlainTakes.{line_run, line_goes_on, skipped_less}
use Rattle.json5_lexemes.proofs.plain.skip_line.Goals as goal

pub loop-c-init : goal.loop-c-init
loop-c-init c = (c.skip_line_part-rest.utf8, λ r t. line_run _ _ r c.skip_line_part-rest.ensures t)

pub returns-then-is_json5_line_terminator : goal.returns-then-is_json5_line_terminator
returns-then-is_json5_line_terminator c =
    c.loop-c.invariant.1 _ ([], no_char, subst (NotBegun is_line_part) (sym c.in-Some.ensures.chars) (rw (sym c.if-is_json5_line_terminator.ensures) refl), refl)

pub loop-c-smaller : goal.loop-c-smaller
loop-c-smaller c = skipped_less _ _ _ c.in-Some.c c.in-Some.ensures.chars c.skip_line_part-rest-in-Some.ensures

pub loop-c-preserved : goal.loop-c-preserved
loop-c-preserved c = (
  c.skip_line_part-rest-in-Some.utf8,
  λ r t.
      c.loop-c.invariant.1 r (line_goes_on _ _ c.in-Some.c r c.in-Some.ensures.chars (sym c.if-is_json5_line_terminator.ensures) (line_run _ _ r c.skip_line_part-rest-in-Some.ensures t)),
)

pub returns : goal.returns
returns c = c.loop-c.invariant.1 _ ([], no_char, subst (NotBegun is_line_part) (sym c.in_default.ensures) tt, refl)
