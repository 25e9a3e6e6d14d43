use Rattle.std.proofs.Common.{◌≡◌, ◌∙◌, ◌++◌, ◌∷◌, [], ap, rules, sym}
use Rattle.std.specs.List.{list_any}
use Rattle.std.specs.Prelude.{string_bytes}
use Rattle.std.specs.Str.{chars}
use Rattle.json5_grammar.specs.Language.Numbers.{is_empty}
use Rattle.json5_settings.specs.Keys.{key_texts, member_in, place_of, words_left}
use Rattle.json5_settings.specs.Words.{key_meant, keys_meant}
use Rattle.json5_settings.proofs.WordsParted.{later_words, no_word, one_key, smaller}
use Rattle.json5_settings.proofs.names.variable_keys.Goals as goal

pub loop-left-preserved : goal.loop-left-preserved
loop-left-preserved c =
    let l = c.loop-left in
    let name = c.in-Some.name.now in
    let word = c.split_word.result.0.now in
    let others = c.split_word.result.1 in
    let meant : chars (string_bytes c.in_ok-key.key) ≡ key_meant (place_of l.place) (chars word) = search rules in
    let pushed : c.push.new.self.items ≡ l.keys.items ++ (c.in_ok-key.key ∷ []) = search rules in
    let before = l.invariant.0 ∙ ap (λ z. key_texts l.keys.items ++ keys_meant (place_of l.place) (words_left z)) c.in-Some.is in
    let there = c.member_of-place.ensures ∙ ap (λ z. member_in (chars z) (place_of l.place)) c.deref.ensures in (
      one_key (place_of l.place) (place_of c.member_of-place.result) word name others l.keys.items c.in_ok-key.key _ c.split_word.ensures meant there before
          ∙ ap (λ z. key_texts z ++ keys_meant (place_of c.member_of-place.result) (words_left others)) (sym pushed),
      l.invariant.1 ∙ ap (λ z. list_any is_empty (words_left z)) c.in-Some.is ∙ later_words name word others c.split_word.ensures (no_word word c.is_empty.result c.is_empty.ensures c.if-is_empty.false),
    )

pub loop-left-smaller : goal.loop-left-smaller
loop-left-smaller c = smaller c.loop-left.left c.split_word.result.1 c.in-Some.name c.split_word.result.0.now c.in-Some.is c.split_word.ensures
