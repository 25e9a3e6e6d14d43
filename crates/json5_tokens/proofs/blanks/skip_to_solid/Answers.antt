use Rattle.std.proofs.Common.{◌∙◌}
use Rattle.json5_tokens.proofs.AsciiBlanks.{at_solid_text}
use Rattle.json5_tokens.proofs.blanks.skip_to_solid.Goals as goal

pub returns-then-begins_solid : goal.returns-then-begins_solid
returns-then-begins_solid c = record {
  read = c.skip_ascii-rest.ensures.passed ∙ at_solid_text c.skip_ascii-rest.result.now c.skip_ascii-rest.utf8 (c.begins_solid.ensures c.if-begins_solid.true);
  text = c.skip_ascii-rest.utf8;
}
