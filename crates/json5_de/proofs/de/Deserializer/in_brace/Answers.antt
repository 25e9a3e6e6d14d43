use Rattle.std.proofs.Common.{◌∙◌}
use Rattle.std.proofs.lemmas.Result.{err_from_is_err_and}
use Rattle.json5_de.proofs.VariantContents.{brace_missing, content_refused}
use Rattle.json5_de.proofs.de.Deserializer.in_brace.Goals as goal

pub returns-in_err-close_or_fail-in-Ok : goal.returns-in_err-close_or_fail-in-Ok
returns-in_err-close_or_fail-in-Ok g c =
    let (y, is, from) = err_from_is_err_and c.from_residual.result c.from_residual.ensures.1 in
    let t = g.T.Deserialize in
    let k = c.in_err-close_or_fail-in-Ok.ensures in
    rw (is, from) (brace_missing t.content t.convert t.allocation_free t.refuses c.args.start c.args.self.now c.deserialize.new.de c.close_or_fail.new.self c.in-Ok.value c.in_err-close_or_fail-in-Ok.field-0.0 c.in-Ok.ensures.sound k.closes k.same_text k.failed)

pub returns-in-Err : goal.returns-in-Err
returns-in-Err g c =
    let t = g.T.Deserialize in
    rw c.refuse.ensures.result (content_refused t.content t.convert t.allocation_free t.refuses c.args.start c.args.self.now c.deserialize.new.de c.refuse.new.self c.in-Err.e c.with_position_at-error.result
    c.in-Err.ensures.refused c.in-Err.ensures.complete c.in-Err.ensures.no_memory c.in-Err.ensures.unprompted c.in-Err.ensures.same_text c.refuse.ensures.state
    (record {
      kind = c.with_position_at-error.ensures.kind;
      there = c.with_position_at-error.ensures.there;
      place = c.with_position_at-error.ensures.place;
      is_there = λ before b. c.with_position_at-error.ensures.is_there before (record { rest = b.rest; split = c.in-Err.ensures.same_text ∙ b.split; counted = b.counted });
    }))
