-- The spellings of the escapes, character by character.
use Rattle.std.proofs.Common.{◌≡◌, refl}
use Rattle.std.specs.Str.{chars}
use Rattle.std.proofs.lemmas.Str.{chars-encodes}
use lib.Chars.{codes}
use lib.Utf8.{encode}

pub double_quote_spelled : chars (codes "\\\"") ≡ codes "\\\""
unfolding encode
double_quote_spelled = chars-encodes (codes "\\\"") refl

pub single_quote_spelled : chars (codes "\\'") ≡ codes "\\'"
unfolding encode
single_quote_spelled = chars-encodes (codes "\\'") refl

pub backslash_spelled : chars (codes "\\\\") ≡ codes "\\\\"
unfolding encode
backslash_spelled = chars-encodes (codes "\\\\") refl

pub line_feed_spelled : chars (codes "\\n") ≡ codes "\\n"
unfolding encode
line_feed_spelled = chars-encodes (codes "\\n") refl

pub carriage_return_spelled : chars (codes "\\r") ≡ codes "\\r"
unfolding encode
carriage_return_spelled = chars-encodes (codes "\\r") refl

pub line_separator_spelled : chars (codes "\\u2028") ≡ codes "\\u2028"
unfolding encode
line_separator_spelled = chars-encodes (codes "\\u2028") refl

pub paragraph_separator_spelled : chars (codes "\\u2029") ≡ codes "\\u2029"
unfolding encode
paragraph_separator_spelled = chars-encodes (codes "\\u2029") refl

pub ruleset escapes_spelled = (double_quote_spelled, single_quote_spelled, backslash_spelled, line_feed_spelled, carriage_return_spelled, line_separator_spelled, paragraph_separator_spelled)
