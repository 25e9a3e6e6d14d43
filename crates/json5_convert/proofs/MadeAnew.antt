-- What was made of a document is as it should be.
use Rattle.std.proofs.Common.{◌≡◌, Bool, true, false, List, ℕ, refl, sym, ap, ◌∙◌}
use Rattle.std.specs.Str.{chars}
use Rattle.std.proofs.lemmas.Bool.{and_parts}
use Rattle.json5_grammar.specs.Language.Documents.{Doc, max_depth}
use Rattle.json5_grammar.specs.Language.Trees.{Tree}
use Rattle.json5_read.specs.TreeMeanings.{datum_of}
use Rattle.json5_styles.specs.JsonTexts.{is_json}
use Rattle.json5_convert.specs.Respelled.{HasNumbers, IsAsPlain, IsMade, KeepsNumbers, MeanTheSame}
use Rattle.json5_convert.specs.SpelledAnew.{SpelledAnew}
use Rattle.json5_convert.specs.Spellings.{are_json_numbers, are_json_quotes, are_quoted, asks_json, has_comments, has_json_numbers}
use Rattle.json5_convert.specs.declared.spelling.Spelling.{Spelling}
use Rattle.json5_convert.proofs.AnewTokens.{means_the_same, no_comments, same_comments, same_meaning}
use Rattle.json5_convert.proofs.OneComments.{document_has_comments}
use Rattle.json5_convert.proofs.PlainKept.{numbers_json}

asks_numbers : (s : Spelling) → asks_json s ≡ true → has_json_numbers s ≡ true
asks_numbers s h =
    let p = (and_parts (are_json_quotes s.strings) _ h).1 in
    let q = (and_parts (are_quoted s.keys) _ p).1 in
    (and_parts (are_json_numbers s.numbers) _ q).0

pub unchanged : (s : Spelling) (x : List ℕ) (t : Tree) → Doc max_depth (chars x) t → has_comments s ≡ true → has_json_numbers s ≡ false → IsMade s x x
unchanged s x t d kept none = record {
  means = record { tree = t; document = d; other = t; respelled = d; same = refl };
  numbers = λ h. absurd (apart h);
  comments = (λ h. let (l, k) = document_has_comments max_depth (chars x) t d in record { comments = l; left = k; right = k }, λ h. let k : true ≡ false = sym kept ∙ h in absurd (cc));
  plain = λ h. absurd (apart (asks_numbers s h));
}
  where
    apart : has_json_numbers s ≡ true → ⊥
    apart h = let k : true ≡ false = sym h ∙ none in cc

-- ---- a document that is spelled anew

module _ (s : Spelling) (x y : List ℕ) (t u : Tree) (d : Doc max_depth (chars x) t) (e : Doc max_depth (chars y) u) (k : SpelledAnew (has_comments s) false (chars x) (chars y)) (other : asks_json s ≡ false → KeepsNumbers s x) (p : IsAsPlain s y) where
  means : MeanTheSame (chars x) (chars y)
  means = means_the_same (has_comments s) (chars x) (chars y) t u d e k

  numbers : (b : Bool) → asks_json s ≡ b → KeepsNumbers s x
  numbers true asked = λ h. (t, d, ap is_json (sym (same_meaning (has_comments s) (chars x) (chars y) t u d e k)) ∙ numbers_json e (p asked))
  numbers false asked = other asked

  pub made_so : IsMade s x y
  made_so = record {
    means = means;
    numbers = numbers (asks_json s) refl;
    comments = (same_comments (has_comments s) (chars x) (chars y) t u d e k, no_comments (has_comments s) (chars x) (chars y) t u d e k);
    plain = p;
  }
