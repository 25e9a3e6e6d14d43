use Rattle.json5_tokens.proofs.ShortTexts.{string_first}
use Rattle.json5_tokens.proofs.short_texts.front_string.Goals as goal

pub split_at-requires : goal.split_at-requires
split_at-requires c = c.in_ok-quote.ensures.0

pub returns : goal.returns
returns c = string_first c.in_ok-quote.quote c.args.text.now _ c.quoted.result c.in_ok-quote.ensures c.split_at.ensures.back c.quoted.ensures
