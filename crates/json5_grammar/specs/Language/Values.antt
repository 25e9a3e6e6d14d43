-- The value grammar, and where a value stops.
-- A promise rests on this.
-- JSON5 sections 2 to 4 (values, objects, arrays).
use Rattle.std.specs.Prelude.{◌≡◌, ℕ, Bool, true, false, List, [], ◌∷◌, ◌++◌}
use lib.Chars.{codes}
use Rattle.json5_grammar.specs.Language.Characters.{comma_sign, colon_sign, left_bracket, right_bracket, left_brace, right_brace, NotBegun}
use Rattle.json5_grammar.specs.Language.Blanks.{Blanks}
use Rattle.json5_grammar.specs.Language.Numbers.{Number, Num, lengthens}
use Rattle.json5_grammar.specs.Language.Strings.{Str}
use Rattle.json5_grammar.specs.Language.Names.{Ident}
use Rattle.json5_grammar.specs.Language.Trees.{Tree, Trees, Members, null, boolean, number, text, array, object, no_more, more, no_member, member}

abbrev pub null_text : List ℕ
null_text = codes "null"

abbrev pub true_text : List ℕ
true_text = codes "true"

abbrev pub false_text : List ℕ
false_text = codes "false"

-- `,` with blanks, or nothing
pub data LastComma : List ℕ → Type 0 where
  no_last_comma : LastComma []
  last_comma : {w : List ℕ} → Blanks w → LastComma (comma_sign ∷ w)

-- the spelling of a key, whatever follows it; in a member it is a colon or a blank
pub data KeyText : List ℕ → List ℕ → Bool → Type 0 where
  string_key : {k u : List ℕ} {escape_free : Bool} → Str k u escape_free → KeyText k u escape_free
  name_key : {k u : List ℕ} {escape_free : Bool} → Ident k u escape_free → KeyText k u escape_free

mutual
  pub data Val : List ℕ → Tree → Type 0 where
    is_null : Val (null_text) null
    is_true : Val (true_text) (boolean true)
    is_false : Val (false_text) (boolean false)
    is_number : {s : List ℕ} {n : Number} → Num s n → Val s (number n)
    is_text : {s u : List ℕ} {escape_free : Bool} → Str s u escape_free → Val s (text u escape_free)
    is_empty_array : {w : List ℕ} → Blanks w → Val (left_bracket ∷ w ++ right_bracket ∷ []) (array no_more)
    is_array : {m : List ℕ} {ts : Trees} → ElementList m ts → Val (left_bracket ∷ m ++ right_bracket ∷ []) (array ts)
    is_empty_object : {w : List ℕ} → Blanks w → Val (left_brace ∷ w ++ right_brace ∷ []) (object no_member)
    is_object : {m : List ℕ} {ps : Members} → MemberList m ps → Val (left_brace ∷ m ++ right_brace ∷ []) (object ps)

  -- one or more elements, and the optional last comma
  pub data ElementList : List ℕ → Trees → Type 0 where
    last : {w s v c : List ℕ} {t : Tree} → Blanks w → Val s t → Blanks v → LastComma c → ElementList (w ++ (s ++ (v ++ c))) (more t no_more)
    next : {w s v m : List ℕ} {t : Tree} {ts : Trees} → Blanks w → Val s t → Blanks v → ElementList m ts → ElementList (w ++ (s ++ (v ++ comma_sign ∷ m))) (more t ts)

  pub data MemberList : List ℕ → Members → Type 0 where
    last_member : {p c u : List ℕ} {escape_free : Bool} {t : Tree} → Member p u escape_free t → LastComma c → MemberList (p ++ c) (member u escape_free t no_member)
    next_member : {p m u : List ℕ} {escape_free : Bool} {t : Tree} {ps : Members} → Member p u escape_free t → MemberList m ps → MemberList (p ++ comma_sign ∷ m) (member u escape_free t ps)

  -- blanks, key, blanks, `:`, blanks, value, blanks
  pub data Member : List ℕ → List ℕ → Bool → Tree → Type 0 where
    entry : {a k b w s v u : List ℕ} {escape_free : Bool} {t : Tree} → Blanks a → KeyText k u escape_free → Blanks b → Blanks w → Val s t → Blanks v
        → Member (a ++ (k ++ (b ++ colon_sign ∷ (w ++ (s ++ v))))) u escape_free t

-- r doesn't begin with a character that lengthens the value's spelling s
abbrev pub Stops : List ℕ → List ℕ → Type 0
Stops s r = NotBegun (lengthens s) r

-- x begins with blanks and a phrase of the tree t, which stops there; r is left
pub record Reads (x : List ℕ) (t : Tree) (r : List ℕ) : Type 0 where
  pub front : List ℕ
  pub phrase : List ℕ
  pub split : x ≡ front ++ (phrase ++ r)
  pub blank : Blanks front
  pub value : Val phrase t
  pub stops : Stops phrase r
