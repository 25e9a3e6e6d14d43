use Rattle.json5_convert.proofs.AnewSteps.{past_none, unquotes}
use Rattle.json5_convert.proofs.spelled_anew.past_quotes.Goals as goal

pub returns : goal.returns
returns c =
    unquotes c.args.quoted.now c.args.bare.now c.in_ok-inside.inside.now c.in_ok-quoted_rest.quoted_rest.now c.in_ok-quoted_rest.bare_rest.now c.in_ok-quoted_end.quoted_end.now c.in_ok-quoted_after.quoted_after.now c.in_ok-bare_after.bare_after.now
    c.in_ok-quote.quote c.in_ok-quote.ensures c.in_ok-inside.ensures (past_none c.args.bare.now c.past_byte-2.result c.past_byte-2.ensures c.if-is_some.ensures) c.in_ok-quoted_rest.ensures c.in_ok-quoted_end.ensures c.in_ok-quoted_after.ensures
    c.in_ok-bare_after.ensures
