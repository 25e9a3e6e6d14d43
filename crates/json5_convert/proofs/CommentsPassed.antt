-- Comments in front of a text, and the runs between them.
use Rattle.std.proofs.Common.{◌≡◌, ◌≤◌, ◌-◌, ℕ, List, [], ◌∷◌, ◌++◌, length, take, drop, refl, sym, ap, ◌∙◌, subst, append_assoc}
use Rattle.std.specs.Str.{IsUtf8, IsCharBoundary, chars}
use Rattle.std.proofs.lemmas.Str.{encodes-chars}
use Rattle.json5_grammar.specs.Language.Characters.{Each, no_char, char}
use Rattle.json5_tokens.specs.Outcome.{bytes_in}
use Rattle.json5_tokens.proofs.TextCuts.{Halves, take_half, drop_half, cut_half, left_fits}
use Rattle.json5_lexemes.specs.Pieces.{IsPiece}
use Rattle.json5_lexemes.specs.declared.pieces.Piece.TheVariants as piece
use Rattle.json5_convert.specs.Comments.{Comments, begins_neither}
use Rattle.json5_convert.specs.Comments as comments
use Rattle.json5_convert.specs.SpelledAnew.{BeginsComment, IsComment}
use Rattle.json5_convert.specs.SpelledAnew as anew

pub neither_run : {s : List ℕ} (r : List ℕ) (cs : List (List ℕ)) → Each begins_neither s → Comments r cs → Comments (s ++ r) cs
neither_run r cs no_char k = k
neither_run r cs (char h e) k = comments.other h (neither_run r cs e k)

-- ---- a comment

pub line_front : {x r : List ℕ} → IsPiece piece.Line x r → BeginsComment x r
line_front (IsPiece.line {x = x} {r = r} e n) = (47 ∷ 47 ∷ x, refl, anew.line e n)

pub block_front : {x r : List ℕ} → IsPiece piece.Block x r → BeginsComment x r
block_front (IsPiece.block {x = x} {r = r} i) = (47 ∷ 42 ∷ x ++ 42 ∷ 47 ∷ [], ap (λ z. 47 ∷ 42 ∷ z) (sym (append_assoc x (42 ∷ 47 ∷ []) r)), anew.block i)

-- cut where the rest begins
module _ (text rest : List ℕ) (u : IsUtf8 text) (v : IsUtf8 rest) (is : BeginsComment (chars text) (chars rest)) where
  halves : Halves text is.0 (chars rest)
  halves = record { is_text = u; split = is.1 }

  counted : bytes_in (chars rest) ≡ length rest
  counted = ap length (encodes-chars rest v)

  pub rest_fits : length rest ≤ length text
  rest_fits = subst (λ n. n ≤ length text) counted (left_fits halves)

  pub rest_boundary : IsCharBoundary text (length text - length rest)
  rest_boundary = subst (λ n. IsCharBoundary text (length text - n)) counted (cut_half halves)

  pub rest_taken : (front back : List ℕ) → front ≡ take (length text - length rest) text → back ≡ drop (length text - length rest) text → IsComment (chars front) (chars text) (chars back)
  rest_taken front back e f =
      let same : chars front ≡ is.0 = ap chars e ∙ subst (λ n. chars (take (length text - n) text) ≡ is.0) counted (take_half halves) in
      let left : chars back ≡ chars rest = ap chars f ∙ subst (λ n. chars (drop (length text - n) text) ≡ chars rest) counted (drop_half halves) in
      rw (same, left) is.2
