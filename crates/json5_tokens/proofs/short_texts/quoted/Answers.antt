use Rattle.std.proofs.Common.{subst, arith, true}
use Rattle.json5_tokens.specs.ScanTexts.{quote_of}
use Rattle.json5_tokens.specs.ShortWays.{IsInFront}
use Rattle.json5_tokens.proofs.ScanRuns.{quote_is}
use Rattle.json5_tokens.proofs.ShortTexts.{quoted_found}
use Rattle.json5_tokens.proofs.RunBoundaries.{quote_ascii}
use Rattle.json5_tokens.proofs.short_texts.quoted.Goals as goal

pub is_in_front-requires : goal.is_in_front-requires
is_in_front-requires c = let k = quote_ascii (quote_of c.args.quote) (quote_is c.args.quote) in let e = c.byte.ensures in omega arith

pub overflow_sub-result : goal.overflow_sub-result
overflow_sub-result c = let f = subst (IsInFront c.byte.result c.skip_raw-rest.result.now) c.if-not-is_in_front.false c.is_in_front.ensures in f.0.0

pub returns : goal.returns
returns c =
    let rest = c.skip_raw-rest.result.now in
    let f = subst (IsInFront c.byte.result rest) c.if-not-is_in_front.false c.is_in_front.ensures in
    quoted_found c.args.quote c.args.body.now rest c.utf8.body c.skip_raw-rest.utf8 c.skip_raw-rest.ensures (subst (λ n. IsInFront n rest true) c.byte.ensures f)
