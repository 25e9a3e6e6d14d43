-- Lists of lexemes without the blanks at the ends of `//` comments.
use Rattle.std.proofs.Common.{◌≡◌, ℕ, Bool, true, false, ◌&&◌, List, [], ◌∷◌, ◌++◌, map, refl, sym, ap, ◌∙◌, subst, append_assoc}
use Rattle.std.specs.Prelude.{◌==◌, if◌then◌else◌}
use Rattle.json5_grammar.specs.Language.Characters.{slash_sign, NotBegun, Each, no_char, char}
use Rattle.json5_grammar.specs.Language.Numbers.{is_empty}
use Rattle.json5_grammar.proofs.CharacterTests.{by_test, Each-append}
use Rattle.json5_grammar.proofs.CommonLemmas.{and_left, and_right}
use Rattle.json5_lexemes.specs.SameLexemes.{is_line_part}
use Rattle.json5_lexemes.specs.Lexemes.{Lexemes, HaveSameLexemes, is_line_blank}
use Rattle.json5_lexemes.specs.Lexemes as lexemes
use Rattle.json5_lexemes.specs.Tokens.{is_comment, without_comments, trimmed, settled}
use Rattle.json5_lexemes.proofs.OneList.{part_apart, quote_no_slash, each_head, settled_word, one_list}

-- ---- tokens

-- a lexeme of two characters and more, in front of the others
settled_first : (c d : ℕ) (s t : List ℕ) (k m : List (List ℕ)) (a b : Bool) → (c == slash_sign) ≡ a → k ≡ m
    → (if is_comment (if a && b then c ∷ d ∷ t else c ∷ d ∷ s) then k else (if a && b then c ∷ d ∷ t else c ∷ d ∷ s) ∷ k) ≡ (if a then m else (c ∷ d ∷ s) ∷ m)
settled_first c d s t k m true true h e = rw h e
settled_first c d s t k m true false h e = rw h e
settled_first c d s t k m false b h e = rw h (ap (λ z. (c ∷ d ∷ s) ∷ z) e)

-- the tokens are the same
settled_tokens : (l : List (List ℕ)) → without_comments (map settled l) ≡ without_comments l
settled_tokens [] = refl
settled_tokens ([] ∷ l) = ap (λ z. [] ∷ z) (settled_tokens l)
settled_tokens ((c ∷ []) ∷ l) = rw (settled_tokens l) refl
settled_tokens ((c ∷ d ∷ s) ∷ l) = settled_first c d s (trimmed s) (without_comments (map settled l)) (without_comments l) (c == slash_sign) (d == slash_sign) refl (settled_tokens l)

-- a text has one list of tokens
pub one_token_list : (x : List ℕ) (l m : List (List ℕ)) → Lexemes x l → Lexemes x m → without_comments l ≡ without_comments m
one_token_list x l m a b = sym (settled_tokens l) ∙ ap without_comments (one_list x l m a b) ∙ settled_tokens m

-- ---- the settled list

-- x is y and blanks at the end
record Trims (x y : List ℕ) : Type 0 where
  rest : List ℕ
  whole : x ≡ y ++ rest
  kept : Each is_line_part y
  blank : Each is_line_blank rest

empty_is : (y : List ℕ) → is_empty y ≡ true → y ≡ []
empty_is [] h = refl
empty_is (c ∷ y) h = cc

-- with one more character in front
trims_more : (c : ℕ) (s y : List ℕ) → is_line_part c ≡ true → Trims s y → Trims (c ∷ s) (if is_line_blank c && is_empty y then [] else c ∷ y)
trims_more c s y p k =
    by_test (Trims (c ∷ s)) (is_line_blank c && is_empty y) [] (c ∷ y)
    (λ h. let none : y ≡ [] = empty_is y (and_right (is_line_blank c) (is_empty y) h) in
    record { rest = c ∷ s; whole = refl; kept = no_char; blank = char (and_left (is_line_blank c) (is_empty y) h) (subst (Each is_line_blank) (sym (k.whole ∙ ap (λ z. z ++ k.rest) none)) k.blank) })
    (λ h. record { rest = k.rest; whole = ap (λ z. c ∷ z) k.whole; kept = char p k.kept; blank = k.blank })

trims : {x : List ℕ} → Each is_line_part x → Trims x (trimmed x)
trims no_char = record { rest = []; whole = refl; kept = no_char; blank = no_char }
trims (char {c = c} {s = s} p e) = trims_more c s (trimmed s) p (trims e)

settled_line : (x b r : List ℕ) (ls : List (List ℕ)) → Each is_line_part x → Each is_line_blank b → NotBegun is_line_part r → Lexemes r ls
    → Lexemes (slash_sign ∷ slash_sign ∷ x ++ (b ++ r)) ((slash_sign ∷ slash_sign ∷ trimmed x) ∷ ls)
settled_line x b r ls e f n s =
    let k = trims e in
    let whole : trimmed x ++ ((k.rest ++ b) ++ r) ≡ x ++ (b ++ r) = ap (λ z. trimmed x ++ z) (append_assoc k.rest b r) ∙ sym (append_assoc (trimmed x) k.rest (b ++ r)) ∙ ap (λ z. z ++ (b ++ r)) (sym k.whole) in
    subst (λ z. Lexemes (slash_sign ∷ slash_sign ∷ z) ((slash_sign ∷ slash_sign ∷ trimmed x) ∷ ls)) whole (lexemes.line k.kept (Each-append k.blank f) n s)

-- the settled list is one of the text, too
settled_lexemes : {x : List ℕ} {ls : List (List ℕ)} → Lexemes x ls → Lexemes x (map settled ls)
settled_lexemes lexemes.no_lexeme = lexemes.no_lexeme
settled_lexemes (lexemes.separator p s) = lexemes.separator p (settled_lexemes s)
settled_lexemes (lexemes.sign p s) = lexemes.sign p (settled_lexemes s)
settled_lexemes (lexemes.word {c = c} {w = w} {ls = ls} e n s) = rw (settled_word c w (part_apart c (each_head e)).3) (lexemes.word e n (settled_lexemes s))
settled_lexemes (lexemes.string {q = q} {s = t} p i s) = rw (settled_word q t (quote_no_slash q p)) (lexemes.string p i (settled_lexemes s))
settled_lexemes (lexemes.line {x = x} {b = b} {r = r} {ls = ls} e f n s) = settled_line x b r (map settled ls) e f n (settled_lexemes s)
settled_lexemes (lexemes.block i s) = lexemes.block i (settled_lexemes s)

pub settled_list : (x : List ℕ) (l : List (List ℕ)) → Lexemes x l → Lexemes x (map settled l)
settled_list x l s = settled_lexemes s

-- ---- texts that have the same lexemes

-- swapped
pub same_lexemes_swapped : (x y : List ℕ) → HaveSameLexemes x y → HaveSameLexemes y x
same_lexemes_swapped x y h = record { lexemes = h.lexemes; left = h.right; right = h.left }

-- through a third text
pub same_lexemes_through : (x y z : List ℕ) → HaveSameLexemes x y → HaveSameLexemes y z → HaveSameLexemes x z
same_lexemes_through x y z a b =
    record { lexemes = map settled a.lexemes; left = settled_lexemes a.left; right = subst (Lexemes z) (one_list y b.lexemes a.lexemes b.left a.right) (settled_lexemes b.right) }
