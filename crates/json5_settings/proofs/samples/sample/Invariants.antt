use Rattle.std.proofs.Common.{◌≤◌, ℕ, List, length}
use Rattle.std.specs.Prelude.{string_bytes}
use Rattle.std.specs.Str.{chars}
use Rattle.json5_grammar.specs.Language.Documents.{max_depth}
use Rattle.json5_styles.specs.LaidBack.{ReadsAs}
use Rattle.json5_types.specs.ValueMeanings.{value_of}
use Rattle.json5_settings.specs.Samples.{GetsComments}
use Rattle.json5_settings.proofs.samples.sample.Given as goal

-- so many comments came into the text of the value
abbrev pub invariant-loop-index : goal.invariant-loop-index
invariant-loop-index l = (l.index ≤ length l.fn.comments) × ((text : List ℕ) × ReadsAs max_depth (chars text) (value_of l.fn.value) × GetsComments l.index text (string_bytes l.made))
