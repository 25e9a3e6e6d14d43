-- The pieces in front of a text: a piece begins with a blank or is a comment.
use denote.Ref.{Bor}
use Rattle.std.proofs.Common.{◌≡◌, ◌≢◌, ◌<◌, inl, inr, ◌&&◌, ℕ, Bool, true, false, List, [], ◌∷◌, ◌++◌, length, length-append, refl, sym, ap, ◌∙◌, subst, arith}
use Rattle.std.specs.Prelude.{◌==◌}
use Rattle.std.specs.Str.{chars}
use Rattle.std.proofs.lemmas.Bool.{both_ways}
use Rattle.json5_grammar.proofs.CommonLemmas.{neq_from}
use Rattle.json5_grammar.specs.Language.Characters.{is_blank, is_terminator, NotBegun}
use Rattle.json5_lexemes.specs.Lexemes.{is_line_blank}
use Rattle.json5_lexemes.specs.PlainSteps.{TakesComment}
use Rattle.json5_lexemes.specs.Pieces.{IsPiece, NoPiece, TakesLineEnd}
use Rattle.json5_lexemes.specs.Pieces as pieces
use Rattle.json5_lexemes.specs.declared.pieces.Piece.{Piece}
use Rattle.json5_lexemes.specs.declared.pieces.Piece.TheVariants as piece
use Rattle.json5_lexemes.proofs.DocumentLexemes.{terminator_blank}

-- ---- a piece by its first character

blank_of : (a b : Bool) → (a && b) ≡ true → a ≡ true
blank_of true b e = refl
blank_of false b e = absurd (cc)

-- a blank, or the first slash of a comment
pub data Front (x r : List ℕ) : Type 0 where
  blank : (c : ℕ) (s : List ℕ) → x ≡ c ∷ s → is_blank c ≡ true → Front x r
  comment : (s : List ℕ) → x ≡ 47 ∷ s → TakesComment s r → Front x r

end_front : {x r : List ℕ} → TakesLineEnd x r → Front x r
end_front (TakesLineEnd.terminator {c = c} {r = r} t n) = blank c r refl (terminator_blank c t)
end_front (TakesLineEnd.cr_lf {r = r}) = blank 13 (10 ∷ r) refl (terminator_blank 13 refl)

pub front_of : (p : Piece) {x r : List ℕ} → IsPiece p x r → Front x r
front_of piece.Blank (IsPiece.blank {c = c} {r = r} h) = blank c r refl (blank_of _ _ h)
front_of piece.LineEnd (IsPiece.line_end t) = end_front t
front_of piece.Line (IsPiece.line {x = x} {r = r} e n) = comment (47 ∷ x ++ r) refl (inl (x ++ r, refl, (x, e, n, refl)))
front_of piece.Block (IsPiece.block {x = x} {r = r} i) = comment (42 ∷ x ++ 42 ∷ 47 ∷ r) refl (inr (x ++ 42 ∷ 47 ∷ r, refl, (x, i, refl)))

-- ---- where no piece is in front

pub none_in_nothing : (x : List ℕ) → x ≡ [] → NoPiece x
none_in_nothing x e p r h = by_front (front_of p h)
  where
    by_front : Front x r → ⊥
    by_front (blank c s is b) = cc
    by_front (comment s is t) = cc

pub none_in_other : (x : List ℕ) (c : ℕ) (s : List ℕ) → x ≡ c ∷ s → is_blank c ≡ false → c ≢ 47 → NoPiece x
none_in_other x c s e n k p r h = by_front (front_of p h)
  where
    by_front : Front x r → ⊥
    by_front (blank d t is b) = let same : d ≡ c = cc in both_ways (is_blank c) n (subst (λ z. is_blank z ≡ true) same b)
    by_front (comment t is u) = let same : c ≡ 47 = cc in k same

pub none_in_comment : (s : List ℕ) → is_blank 47 ≡ false → ((r : List ℕ) → TakesComment s r → ⊥) → NoPiece (47 ∷ s)
none_in_comment s n k p r h = by_front (front_of p h)
  where
    by_front : Front (47 ∷ s) r → ⊥
    by_front (blank d t is b) = let same : d ≡ 47 = cc in both_ways (is_blank 47) n (subst (λ z. is_blank z ≡ true) same b)
    by_front (comment t is u) = let same : t ≡ s = cc in k r (subst (λ z. TakesComment z r) same u)

-- ---- a comment by its second character

pub block_piece : (s t r : List ℕ) → s ≡ 42 ∷ t → TakesComment s r → IsPiece piece.Block (47 ∷ s) r
block_piece s t r e (inl (y, is, l)) = let k : 42 ≡ 47 = cc in absurd (neq_from 42 47 refl k)
block_piece s t r e (inr (y, is, (x, i, f))) = subst (λ z. IsPiece piece.Block (47 ∷ z) r) (sym (is ∙ ap (λ z. 42 ∷ z) f)) (IsPiece.block i)

pub line_piece : (s r : List ℕ) → NotBegun (λ d. d == 42) s → TakesComment s r → IsPiece piece.Line (47 ∷ s) r
line_piece s r n (inl (y, is, (x, e, m, f))) = subst (λ z. IsPiece piece.Line (47 ∷ z) r) (sym (is ∙ ap (λ z. 47 ∷ z) f)) (IsPiece.line e m)
line_piece s r n (inr (y, is, b)) = let h : (42 == 42) ≡ false = subst (NotBegun (λ d. d == 42)) is n in absurd (cc)

-- ---- what is left is shorter

end_shorter : {x r : List ℕ} → TakesLineEnd x r → length r < length x
end_shorter (TakesLineEnd.terminator t n) = omega (arith)
end_shorter TakesLineEnd.cr_lf = omega (arith)

pub piece_shorter : (p : Piece) {x r : List ℕ} → IsPiece p x r → length r < length x
piece_shorter piece.Blank (IsPiece.blank h) = omega (arith)
piece_shorter piece.LineEnd (IsPiece.line_end t) = end_shorter t
piece_shorter piece.Line (IsPiece.line {x = x} {r = r} e n) = let k = length-append x r in omega (arith, k)
piece_shorter piece.Block (IsPiece.block {x = x} {r = r} i) = let k = length-append x (42 ∷ 47 ∷ r) in omega (arith, k)

-- ---- a blank

pub blank_piece : (x s : List ℕ) (c : ℕ) → x ≡ c ∷ s → is_blank c ≡ true → is_terminator c ≡ false → IsPiece piece.Blank x s
blank_piece x s c e b t = subst (λ z. IsPiece piece.Blank z s) (sym e) (IsPiece.blank (rw (b, t) refl))
