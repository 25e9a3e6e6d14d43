use Rattle.json5_tokens.proofs.ShortEscapes.{one_more_in}
use Rattle.json5_tokens.proofs.strings_and_names.skip_escapes.Goals as goal

pub loop-body-smaller : goal.loop-body-smaller
loop-body-smaller c =
    let at = c.loop-body.invariant in
    (one_more_in c.args.kind c.in-String.quote c.args.escape.now at.0 c.loop-body.rest.now _ _ _ c.in-String.is c.in-Some.ensures c.skip_raw-rest.ensures c.skip_raw-rest.utf8 at.1).shorter

pub loop-body-preserved : goal.loop-body-preserved
loop-body-preserved c =
    let at = c.loop-body.invariant in
    (_, (one_more_in c.args.kind c.in-String.quote c.args.escape.now at.0 c.loop-body.rest.now _ _ _ c.in-String.is c.in-Some.ensures c.skip_raw-rest.ensures c.skip_raw-rest.utf8 at.1).read)
