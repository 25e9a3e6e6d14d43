use Rattle.std.proofs.Common.{subst, arith}
use Rattle.std.specs.Str.{chars}
use Rattle.json5_tokens.specs.ByteRuns.{IsAsciiName}
use Rattle.json5_tokens.proofs.ShortTexts.{string_first, key_first, name_found}
use Rattle.json5_tokens.proofs.short_texts.front_key.Goals as goal

pub split_at-requires : goal.split_at-requires
split_at-requires c = c.in-Some.ensures.0

pub returns-in-Some : goal.returns-in-Some
returns-in-Some c = key_first (chars c.args.text.now) c.quoted.result (string_first c.in-Some.quote c.args.text.now _ c.quoted.result c.in-Some.ensures c.split_at.ensures.back c.quoted.ensures)

pub overflow_sub-left : goal.overflow_sub-left
overflow_sub-left c = let k = (subst (λ z. IsAsciiName z c.in_ok-len.len) c.as_bytes.ensures.value c.in_ok-len.ensures).inside in omega arith

pub returns : goal.returns
returns c = name_found c.args.text.now c.in_ok-len.len c.utf8.text (subst (λ z. IsAsciiName z c.in_ok-len.len) c.as_bytes.ensures.value c.in_ok-len.ensures)
