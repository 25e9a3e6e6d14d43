use Rattle.std.specs.Char.{is_ascii_digit}
use Rattle.std.proofs.lemmas.List.Sums.{prefix_len-le-length}
use Rattle.json5_settings_types.specs.Sums.{is_no_digit}
use Rattle.json5_settings_types.proofs.SumsRead.{cut}
use Rattle.json5_settings_types.proofs.sums.front_part.Goals as goal

pub split_at-requires : goal.split_at-requires
split_at-requires c = rw c.digits_len.ensures (prefix_len-le-length is_ascii_digit c.args.text.now)

pub split_at-requires-2 : goal.split_at-requires-2
split_at-requires-2 c = rw c.word_len.ensures (prefix_len-le-length is_no_digit c.split_at.result.1.now)

pub returns : goal.returns
returns c = cut c.args.text.now _ _ _ _ _ _ c.digits_len.ensures c.split_at.ensures.front c.split_at.ensures.back c.word_len.ensures c.split_at-2.ensures.front c.split_at-2.ensures.back
