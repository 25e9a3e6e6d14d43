use Rattle.std.proofs.lemmas.Str.{IsCharBoundary-after_ascii}
use Rattle.json5_lexemes.proofs.PlainFronts.{ascii_starts}
use Rattle.json5_lexemes.proofs.rest.past_first.Goals as goal

pub split_at-requires : goal.split_at-requires
split_at-requires c = IsCharBoundary-after_ascii c.args.text.now 0 c.utf8.text c.requires.some c.requires.ascii

pub returns : goal.returns
returns c = ascii_starts c.args.text.now _ c.utf8.text c.requires.some c.requires.ascii c.split_at.ensures.back
