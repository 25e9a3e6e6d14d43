-- Texts that are URLs, by the parser of the URL Standard.
-- A promise rests on this.
use Rattle.std.specs.Prelude.{ℕ, List, Option, None}
use Rattle.std.specs.Result.{result_ok}
use Rattle.url.specs.Parser.{parse_url}
use Rattle.url.specs.Parts.{Parts}

-- what the text means without a base, where it is a URL
abbrev pub url_of : List ℕ → Option Parts
url_of text = result_ok (parse_url None text)
