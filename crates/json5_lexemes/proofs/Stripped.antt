-- A text, and the same without its comments.
use Rattle.std.proofs.Common.{◌≡◌, ◌≢◌, ℕ, Bool, true, false, List, [], ◌∷◌, ◌++◌, refl, sym, ap, subst}
use Rattle.json5_grammar.specs.Language.Characters.{slash_sign, star_sign, comma_sign, NotBegun, Each, no_char}
use Rattle.json5_lexemes.specs.Lexemes.{Lexemes, Quoted}
use Rattle.json5_lexemes.specs.Lexemes as lexemes
use Rattle.json5_lexemes.specs.SameLexemes.{is_word_part}
use Rattle.json5_lexemes.specs.Plain.{Plain}
use Rattle.json5_lexemes.specs.Plain as plain
use Rattle.json5_lexemes.specs.Tokens.{without_comments}
use Rattle.json5_lexemes.specs.WithoutComments.{WithoutComments, nothing, blank, comma, sign, word, string, line, block}
use Rattle.json5_lexemes.specs.declared.plain.Last.{Last}
use Rattle.json5_lexemes.proofs.DocumentLexemes.{blank_separates, sign_no_comment}
use Rattle.json5_lexemes.proofs.OneList.{part_apart, quote_no_slash, each_head}
use Rattle.json5_lexemes.proofs.PlainSeams.{sign_taken}
use Rattle.json5_lexemes.proofs.PlainTokens.{plain_blank, plain_comma, plain_word, plain_string}
use Rattle.json5_lexemes.proofs.WordParts.{IsToken, a_word, a_string}

-- where no comments are allowed, they are one text
pub one_text : {k : Bool} {x y : List ℕ} → k ≡ false → WithoutComments k x y → y ≡ x
one_text e nothing = refl
one_text e (blank {c = c} h s) = ap (λ z. c ∷ z) (one_text e s)
one_text e (comma s) = ap (λ z. comma_sign ∷ z) (one_text e s)
one_text e (sign {c = c} h s) = ap (λ z. c ∷ z) (one_text e s)
one_text e (word {c = c} {w = w} p n m s) = ap (λ z. c ∷ w ++ z) (one_text e s)
one_text e (string {q = q} {s = t} h i s) = ap (λ z. q ∷ t ++ z) (one_text e s)
one_text e (line h i n s) = absurd (cc)
one_text e (block h i s) = absurd (cc)

-- the lexemes of a text, and its tokens, which are the lexemes of the text without the comments
record Stripped (x y : List ℕ) : Type 0 where
  list : List (List ℕ)
  whole : Lexemes x list
  tokens : Lexemes y (without_comments list)

stripped : {k : Bool} {x y : List ℕ} → WithoutComments k x y → Stripped x y
stripped nothing = record { list = []; whole = lexemes.no_lexeme; tokens = lexemes.no_lexeme }
stripped (blank {c = c} h s) =
    let k = stripped s in
    let b = blank_separates c h in
    record { list = k.list; whole = lexemes.separator b k.whole; tokens = lexemes.separator b k.tokens }
stripped (comma s) = let k = stripped s in record { list = k.list; whole = lexemes.separator refl k.whole; tokens = lexemes.separator refl k.tokens }
stripped (sign {c = c} h s) =
    let k = stripped s in
    record { list = (c ∷ []) ∷ k.list; whole = lexemes.sign h k.whole; tokens = rw (sign_no_comment c h) (lexemes.sign h k.tokens) }
stripped (word {c = c} {w = w} e n m s) =
    let k = stripped s in
    record { list = (c ∷ w) ∷ k.list; whole = lexemes.word e n k.whole; tokens = rw (part_apart c (each_head e)).3 (lexemes.word e m k.tokens) }
stripped (string {q = q} {s = t} h i s) =
    let k = stripped s in
    record { list = (q ∷ t) ∷ k.list; whole = lexemes.string h i k.whole; tokens = rw (quote_no_slash q h) (lexemes.string h i k.tokens) }
stripped (line {s = t} h e n s) = let k = stripped s in record { list = (slash_sign ∷ slash_sign ∷ t) ∷ k.list; whole = lexemes.line e no_char n k.whole; tokens = k.tokens }
stripped (block {s = t} h i s) = let k = stripped s in record { list = (slash_sign ∷ star_sign ∷ t) ∷ k.list; whole = lexemes.block i k.whole; tokens = k.tokens }

pub tokens_stay : (x y : List ℕ) → WithoutComments true x y → (ls : List (List ℕ)) × Lexemes x ls × Lexemes y (without_comments ls)
tokens_stay x y w = let s = stripped w in (s.list, s.whole, s.tokens)

-- where the text is plain without its comments, it is so with them
pub commented_plain : {c : Bool} {l : Last} {x y : List ℕ} → WithoutComments c x y → Plain true l y → Plain true l x
commented_plain nothing p = plain.ends
commented_plain (blank {c = c} h w) p = let a = plain_blank c h p in plain.blank a.0 (commented_plain w a.1)
commented_plain (comma w) p = plain.comma (commented_plain w (plain_comma p))
commented_plain (sign {c = c} h w) p = let a = sign_taken c h p in a.1 _ (commented_plain w a.0)
commented_plain (word e n m w) p = let a = plain_word (λ e. cc) e m p in plain.word a.0 n (commented_plain w a.1)
commented_plain (string {q = q} h i w) p = let a = plain_string q h i p in plain.string a.0 (commented_plain w a.1)
commented_plain (line h e n w) p = plain.line refl e n (commented_plain w p)
commented_plain (block h i w) p = plain.block refl i (commented_plain w p)

-- a token stays
pub token_stays : {k : Bool} {s x y : List ℕ} → IsToken s → NotBegun is_word_part x → NotBegun is_word_part y → WithoutComments k x y → WithoutComments k (s ++ x) (s ++ y)
token_stays {k = k} {s = s} {x = x} {y = y} (a_word some e) n m t = by_first s some e
  where
    by_first : (s : List ℕ) → s ≢ [] → Each is_word_part s → WithoutComments k (s ++ x) (s ++ y)
    by_first [] some e = absurd (some refl)
    by_first (c ∷ w) some e = word e n m t
token_stays {k = k} {x = x} {y = y} (a_string q s e h i) n m t = subst (λ z. WithoutComments k (z ++ x) (z ++ y)) (sym e) (string h i t)
