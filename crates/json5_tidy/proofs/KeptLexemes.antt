-- A text with the tokens, the commas and the comments of another has its lexemes, and is as plain.
use Rattle.std.proofs.Common.{Bool, List, [], ◌∷◌, ℕ, refl}
use Rattle.json5_grammar.specs.Language.Characters.{no_char}
use Rattle.json5_lexemes.specs.Lexemes.{HaveSameLexemes}
use Rattle.json5_lexemes.specs.Lexemes as lexemes
use Rattle.json5_lexemes.specs.LastTokens.{LastToken}
use Rattle.json5_lexemes.specs.Plain.{KeepsPlain, Plain}
use Rattle.json5_lexemes.specs.Plain as plain
use Rattle.json5_lexemes.proofs.DocumentLexemes.{blank_separates}
use Rattle.json5_lexemes.proofs.PlainSeams.{sign_taken}
use Rattle.json5_lexemes.proofs.PlainTokens.{plain_blank, plain_comma, plain_line, plain_block, plain_word, plain_string}
use Rattle.json5_tidy.specs.SameTokens.{HaveSameTokens, SameTokens}
use Rattle.json5_tidy.specs.SameTokens as same
use Rattle.json5_tidy.proofs.TokenFronts.{json_blank}

pub lexemes_kept : {x y : List ℕ} → SameTokens x y → HaveSameLexemes x y
lexemes_kept same.ends = record { lexemes = []; left = lexemes.no_lexeme; right = lexemes.no_lexeme }
lexemes_kept (same.left_blank {c = c} b s) = let h = lexemes_kept s in record { lexemes = h.lexemes; left = lexemes.separator (blank_separates c b) h.left; right = h.right }
lexemes_kept (same.right_blank {c = c} b s) = let h = lexemes_kept s in record { lexemes = h.lexemes; left = h.left; right = lexemes.separator (blank_separates c (json_blank c b)) h.right }
lexemes_kept (same.comma s) = let h = lexemes_kept s in record { lexemes = h.lexemes; left = lexemes.separator refl h.left; right = lexemes.separator refl h.right }
lexemes_kept (same.sign {c = c} k s) = let h = lexemes_kept s in record { lexemes = (c ∷ []) ∷ h.lexemes; left = lexemes.sign k h.left; right = lexemes.sign k h.right }
lexemes_kept (same.word {c = c} {w = w} e m n s) = let h = lexemes_kept s in record { lexemes = (c ∷ w) ∷ h.lexemes; left = lexemes.word e m h.left; right = lexemes.word e n h.right }
lexemes_kept (same.string {q = q} {s = t} k i s) = let h = lexemes_kept s in record { lexemes = (q ∷ t) ∷ h.lexemes; left = lexemes.string k i h.left; right = lexemes.string k i h.right }
lexemes_kept (same.line {s = t} e m n s) = let h = lexemes_kept s in record { lexemes = (47 ∷ 47 ∷ t) ∷ h.lexemes; left = lexemes.line e no_char m h.left; right = lexemes.line e no_char n h.right }
lexemes_kept (same.block {s = t} i s) = let h = lexemes_kept s in record { lexemes = (47 ∷ 42 ∷ t) ∷ h.lexemes; left = lexemes.block i h.left; right = lexemes.block i h.right }

pub plain_kept : {k : Bool} {l : LastToken} {x y : List ℕ} → SameTokens x y → Plain k l x → Plain k l y
plain_kept same.ends p = p
plain_kept (same.left_blank {c = c} b s) p = plain_kept s (plain_blank c b p).1
plain_kept (same.right_blank b s) p = plain.blank b (plain_kept s p)
plain_kept (same.comma s) p = plain.comma (plain_kept s (plain_comma p))
plain_kept (same.sign {c = c} {y = y} k s) p = let a = sign_taken c k p in a.1 y (plain_kept s a.0)
plain_kept (same.word e m n s) p = let a = plain_word (λ z. cc) e m p in plain.word a.0 n (plain_kept s a.1)
plain_kept (same.string {q = q} k i s) p = let a = plain_string q k i p in plain.string a.0 (plain_kept s a.1)
plain_kept (same.line e m n s) p = let a = plain_line e m p in plain.line a.0 e n (plain_kept s a.1)
plain_kept (same.block i s) p = let a = plain_block i p in plain.block a.0 i (plain_kept s a.1)

-- a text in bytes is as plain
pub text_kept : (text made : List ℕ) → HaveSameTokens text made → KeepsPlain text made
text_kept text made s comments p = plain_kept s p
