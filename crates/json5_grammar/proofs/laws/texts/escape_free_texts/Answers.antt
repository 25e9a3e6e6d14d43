use Rattle.std.proofs.Common.{refl}
use Rattle.json5_grammar.proofs.TextsWritten.{string_escape_free, name_escape_free, string_slice, name_slice}
use Rattle.json5_grammar.proofs.laws.texts.escape_free_texts.Goals as goal

pub returns-clause-strings : goal.returns-clause-strings
returns-clause-strings c = λ s u p k. string_escape_free k

pub returns-clause-names : goal.returns-clause-names
returns-clause-names c = λ s u p k. name_escape_free k

pub returns-clause-inside : goal.returns-clause-inside
returns-clause-inside c = λ s u k. string_slice k refl

pub returns-clause-whole : goal.returns-clause-whole
returns-clause-whole c = λ s u k. name_slice k refl
