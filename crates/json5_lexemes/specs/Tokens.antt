-- The tokens among the lexemes of a text, and the tree that a list of tokens spells. Commas are no lexemes.
-- A promise rests on this.
use Rattle.std.specs.Prelude.{ℕ, Bool, true, false, ◌&&◌, ◌==◌, if◌then◌else◌, List, [], ◌∷◌}
use Rattle.json5_grammar.specs.Language.Characters.{slash_sign, colon_sign, left_bracket, right_bracket, left_brace, right_brace}
use Rattle.json5_grammar.specs.Language.Numbers.{Number, Num, is_empty}
use Rattle.json5_grammar.specs.Language.Strings.{Str}
use Rattle.json5_grammar.specs.Language.Trees.{Tree, Trees, Members, null, boolean, number, text, array, object, no_more, more, no_member, member}
use Rattle.json5_grammar.specs.Language.Values.{KeyText, null_text, true_text, false_text}
use Rattle.json5_lexemes.specs.Lexemes.{is_line_blank}

-- of the lexemes only comments begin with a slash
abbrev pub is_comment : List ℕ → Bool
is_comment [] = false
is_comment (c ∷ s) = c == slash_sign

-- the tokens among the lexemes
abbrev pub without_comments : List (List ℕ) → List (List ℕ)
without_comments [] = []
without_comments (l ∷ ls) = if is_comment l then without_comments ls else l ∷ without_comments ls

-- without the blanks at the end
abbrev pub trimmed : List ℕ → List ℕ
trimmed [] = []
trimmed (c ∷ s) = if is_line_blank c && is_empty (trimmed s) then [] else c ∷ trimmed s

-- the lexeme, and if it is a `//` comment without the blanks at its end
abbrev pub settled : List ℕ → List ℕ
settled (c ∷ d ∷ s) = if (c == slash_sign) && (d == slash_sign) then c ∷ d ∷ trimmed s else c ∷ d ∷ s
settled s = s

-- a token that is a value by itself
pub data Scalar : List ℕ → Tree → Type 0 where
  is_null : Scalar null_text null
  is_true : Scalar true_text (boolean true)
  is_false : Scalar false_text (boolean false)
  is_number : {s : List ℕ} {n : Number} → Num s n → Scalar s (number n)
  is_text : {s u : List ℕ} {escape_free : Bool} → Str s u escape_free → Scalar s (text u escape_free)

mutual
  -- the list begins with the tokens of a tree, and r is left
  pub data Tokens : List (List ℕ) → Tree → List (List ℕ) → Type 0 where
    scalar : {s : List ℕ} {r : List (List ℕ)} {t : Tree} → Scalar s t → Tokens (s ∷ r) t r
    array_begins : {l r : List (List ℕ)} {ts : Trees} → ElementTokens l ts r → Tokens ((left_bracket ∷ []) ∷ l) (array ts) r
    object_begins : {l r : List (List ℕ)} {ps : Members} → MemberTokens l ps r → Tokens ((left_brace ∷ []) ∷ l) (object ps) r

  -- the tokens of elements and the closing bracket
  pub data ElementTokens : List (List ℕ) → Trees → List (List ℕ) → Type 0 where
    array_ends : {r : List (List ℕ)} → ElementTokens ((right_bracket ∷ []) ∷ r) no_more r
    element : {l m r : List (List ℕ)} {t : Tree} {ts : Trees} → Tokens l t m → ElementTokens m ts r → ElementTokens l (more t ts) r

  -- the tokens of members and the closing brace
  pub data MemberTokens : List (List ℕ) → Members → List (List ℕ) → Type 0 where
    object_ends : {r : List (List ℕ)} → MemberTokens ((right_brace ∷ []) ∷ r) no_member r
    member_begins : {k u : List ℕ} {escape_free : Bool} {l m r : List (List ℕ)} {t : Tree} {ps : Members} → KeyText k u escape_free → Tokens l t m → MemberTokens m ps r
        → MemberTokens (k ∷ (colon_sign ∷ []) ∷ l) (member u escape_free t ps) r

-- the lexemes are the tokens of the tree, and comments
abbrev pub Spells : List (List ℕ) → Tree → Type 0
Spells ls t = Tokens (without_comments ls) t []
