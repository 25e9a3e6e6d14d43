use Rattle.std.proofs.Common.{◌≡◌, ◌++◌}
use Rattle.std.specs.List.{list_any}
use Rattle.std.specs.Prelude.{Some}
use Rattle.json5_grammar.specs.Language.Numbers.{is_empty}
use Rattle.json5_types.specs.ValueMeanings.{value_of}
use Rattle.json5_settings.specs.Keys.{key_texts, place_of, words_left}
use Rattle.json5_settings.specs.Words.{has_empty_word, keys_meant, words_in}
use Rattle.json5_settings.proofs.WordsParted.{len_left}
use Rattle.json5_settings.proofs.names.variable_keys.Given as goal

-- the keys so far are followed by those of the words that are left, and an empty word is among these if there is one
abbrev pub invariant-loop-left : goal.invariant-loop-left
invariant-loop-left l = (keys_meant (Some (value_of l.fn.value)) (words_in l.fn.words) ≡ key_texts l.keys.items ++ keys_meant (place_of l.place) (words_left l.left)) × (has_empty_word l.fn.words ≡ list_any is_empty (words_left l.left))

abbrev pub decreases-loop-left : goal.decreases-loop-left
decreases-loop-left l = len_left l.left
