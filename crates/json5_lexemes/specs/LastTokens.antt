-- What the last token was, for the proofs of other crates.
-- Private.
use Rattle.json5_lexemes.specs.declared.plain.Last.{Last}
use Rattle.json5_lexemes.specs.declared.plain.Last.TheVariants as last

abbrev pub LastToken : Type 0
LastToken = Last

abbrev pub sign : Last
sign = last.Sign

abbrev pub comma : Last
comma = last.Comma

abbrev pub word : Last
word = last.Word

abbrev pub text : Last
text = last.Text
