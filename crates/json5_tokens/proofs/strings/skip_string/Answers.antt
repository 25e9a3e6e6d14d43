use Rattle.json5_tokens.proofs.StringsSkipped.{skips_on}
use Rattle.json5_tokens.proofs.strings.skip_string.Goals as goal

pub skip_stop-requires : goal.skip_stop-requires
skip_stop-requires c = c.skip_escapes.ensures.1.stops c.skip_raw.ensures.stops

pub returns : goal.returns
returns c =
    skips_on c.in_ok-quote.quote c.args.text.now c.in_ok-quote.body.now c.skip_raw.result.now c.skip_escapes.result.now c.skip_escapes.ensures.0 c.in_ok-quote.ensures c.skip_raw.ensures c.skip_escapes.ensures.1
    c.skip_stop.result c.skip_stop.ensures
