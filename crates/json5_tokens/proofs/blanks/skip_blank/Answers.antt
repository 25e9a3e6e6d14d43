use Rattle.std.proofs.Common.{◌∙◌, sym}
use Rattle.std.specs.Str.{chars}
use Rattle.json5_tokens.proofs.BlankSteps.{at_solid}
use Rattle.json5_tokens.proofs.blanks.skip_blank.Goals as goal

pub returns-else-c-eq47 : goal.returns-else-c-eq47
returns-else-c-eq47 c =
    record {
      read = sym c.loop-c.invariant.1
          ∙ at_solid c.in-Some.c (chars c.loop-c.rest.now) (chars c.in-Some.next.now) c.in-Some.ensures.chars (sym c.if-is_json5_whitespace.ensures) c.if-c-eq47.false;
      text = c.loop-c.invariant.0;
    }
