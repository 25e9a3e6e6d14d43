use Rattle.std.proofs.Common.{◌≡◌, drop}
use Rattle.std.specs.Str.{chars}
use Rattle.json5_types.specs.ValueMeanings.{fields_view}
use Rattle.json5_settings.specs.Words.{key_like}
use Rattle.json5_settings.proofs.names.key_like.Given as goal

-- none is like the word so far
abbrev pub invariant-loop-name : goal.invariant-loop-name
invariant-loop-name l = key_like (chars l.fn.word) (fields_view l.fn.members) ≡ key_like (chars l.fn.word) (fields_view (drop l.name-index l.fn.members))
