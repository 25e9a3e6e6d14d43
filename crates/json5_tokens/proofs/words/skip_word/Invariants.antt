use Rattle.std.proofs.Common.{◌≡◌, length}
use denote.Text.{Utf8}
use denote.Shadow.{shadow}
use Rattle.std.specs.Str.{chars}
use Rattle.json5_grammar.specs.Model.Reading.{word_at}
use Rattle.json5_tokens.proofs.words.skip_word.Given as goal

abbrev pub invariant-loop-letter : goal.invariant-loop-letter
invariant-loop-letter l =
    shadow (Utf8 l.wanted) × shadow (Utf8 l.rest) × (word_at l.fn.ends l.fn.differs (tt {0}) (chars l.wanted) (chars l.rest) ≡ word_at l.fn.ends l.fn.differs tt (chars l.fn.word) (chars l.fn.text))

abbrev pub decreases-loop-letter : goal.decreases-loop-letter
decreases-loop-letter l = length l.wanted
