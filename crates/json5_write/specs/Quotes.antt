-- The quotes as characters.
-- Private.
use Rattle.std.specs.Prelude.{ℕ}
use Rattle.json5_grammar.specs.Language.Characters.{double_quote, single_quote}
use Rattle.json5_write.specs.declared.quoting.Quote.{Quote}
use Rattle.json5_write.specs.declared.quoting.Quote.TheVariants as quote

abbrev pub delimiter : Quote → ℕ
delimiter quote.Single = single_quote
delimiter quote.Double = double_quote
