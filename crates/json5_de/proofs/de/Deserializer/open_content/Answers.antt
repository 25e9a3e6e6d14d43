use Rattle.json5_de.specs.Lending.{named_state_of}
use Rattle.json5_de.proofs.VariantBrackets.{content_not_opened}
use Rattle.json5_read.specs.Brackets.{brackets_of}
use Rattle.json5_de.proofs.de.Deserializer.open_content.Goals as goal

pub returns-in-Err : goal.returns-in-Err
returns-in-Err g c = record {
  opens = content_not_opened (brackets_of c.args.kind) (named_state_of c.args.self.now c.args.name.now) _ _ c.open.new.self c.in-Err.e c.with_position_at.result c.if-not-name.false c.in-Err.ensures.opens c.in-Err.ensures.failed c.with_position_at.ensures;
  failed = c.in-Err.ensures.failed;
}
