-- Reading a value and a document as functions on lists.
-- A promise rests on this.
use Rattle.std.specs.Prelude.{ℕ, zero, suc, true, false, cond, ◌||◌, ◌==◌, List, [], ◌∷◌, length, Some}
use Rattle.json5_grammar.specs.Language.Characters.{comma_sign, colon_sign, left_bracket, right_bracket, left_brace, right_brace, letter_f, letter_n, letter_t}
use Rattle.json5_grammar.specs.Faults.Codes.{EofParsingArray, EofParsingBool, EofParsingNull, EofParsingObject, EofParsingValue, ExpectedBool, ExpectedColon, ExpectedComma, ExpectedNull, ExpectedValue, TrailingCharacters, TooDeep}
use Rattle.json5_grammar.specs.Faults.Tokens.{is_sign, begins_number}
use Rattle.json5_grammar.specs.Language.Strings.{is_quote}
use Rattle.json5_grammar.specs.Language.Trees.{Tree, Trees, Members, null, boolean, text, array, object, no_more, more, no_member, member}
use Rattle.json5_grammar.specs.Model.ReadNumbers.{number}
use Rattle.json5_grammar.specs.Language.Values.{null_text, true_text, false_text}
use Rattle.json5_grammar.specs.Model.ReadTexts.{key, string}
use Rattle.json5_grammar.specs.Model.Reading.{Read, and_then, placed, here, inner, got, bad, word_at}
use Rattle.json5_grammar.specs.Model.ReadBlanks.{skip, between}

-- ---- elements of arrays

abbrev pub after_element : (List ℕ → Read Trees) → List ℕ → Read Trees
after_element k [] = bad (Some EofParsingArray) inner
after_element k (c ∷ r) = cond (c == comma_sign) (k r) (cond (c == right_bracket) (got no_more r) (bad (Some ExpectedComma) (here (c ∷ r))))

abbrev pub close_or : Read Trees → List ℕ → Read Trees
close_or m [] = m
close_or m (c ∷ r) = cond (c == right_bracket) (got no_more r) m

abbrev pub element_at : (List ℕ → Read Tree) → (List ℕ → Read Trees) → List ℕ → Read Trees
element_at val k x = and_then (val x) (λ t r. and_then (skip between r) (λ u y. and_then (after_element k y) (λ ts z. got (more t ts) z)))

-- the number is fuel: it bounds the recursion, and any number above the length of x is enough
unfoldable pub read_elements : (List ℕ → Read Tree) → ℕ → List ℕ → Read Trees
read_elements val zero x = bad (Some EofParsingArray) inner
read_elements val (suc n) x = and_then (skip between x) (λ u y. close_or (element_at val (read_elements val n) y) y)

-- ---- members of objects

abbrev pub after_member : (List ℕ → Read Members) → List ℕ → Read Members
after_member k [] = bad (Some EofParsingObject) inner
after_member k (c ∷ r) = cond (c == comma_sign) (k r) (cond (c == right_brace) (got no_member r) (bad (Some ExpectedComma) (here (c ∷ r))))

abbrev pub colon_at : List ℕ → Read (Unit {0})
colon_at [] = bad (Some EofParsingObject) inner
colon_at (c ∷ r) = cond (c == colon_sign) (got tt r) (bad (Some ExpectedColon) (here (c ∷ r)))

-- after a key: blanks, the colon, blanks, the value
abbrev pub value_after : (List ℕ → Read Tree) → List ℕ → Read Tree
value_after val x = and_then (skip between x) (λ u y. and_then (colon_at y) (λ v z. and_then (skip between z) (λ w q. val q)))

abbrev pub member_at : (List ℕ → Read Tree) → (List ℕ → Read Members) → List ℕ → Read Members
member_at val k x = and_then (key x) (λ a r. and_then (value_after val r) (λ t y. and_then (skip between y) (λ u z. and_then (after_member k z) (λ ps q. got (member a.0 a.1 t ps) q))))

abbrev pub key_or : Read Members → List ℕ → Read Members
key_or m [] = bad (Some EofParsingObject) inner
key_or m (c ∷ r) = cond (c == right_brace) (got no_member r) m

unfoldable pub read_members : (List ℕ → Read Tree) → ℕ → List ℕ → Read Members
read_members val zero x = bad (Some EofParsingObject) inner
read_members val (suc n) x = and_then (skip between x) (λ u y. key_or (member_at val (read_members val n) y) y)

-- ---- values

abbrev pub as_leaf : {A : Type 0} → (A → Tree) → Read A → Read Tree
as_leaf f m = and_then m (λ a r. got (f a) r)

abbrev pub value_with : (List ℕ → List ℕ → Read Tree) → (List ℕ → List ℕ → Read Tree) → List ℕ → Read Tree
value_with array_at object_at [] = bad (Some EofParsingValue) inner
value_with array_at object_at (c ∷ r) =
    cond (c == letter_n) (word_at EofParsingNull ExpectedNull null null_text (c ∷ r))
    (cond (c == letter_t) (word_at EofParsingBool ExpectedBool (boolean true) true_text (c ∷ r))
    (cond (c == letter_f) (word_at EofParsingBool ExpectedBool (boolean false) false_text (c ∷ r))
    (cond (is_quote c) (as_leaf (λ a. text a.0 a.1) (string (c ∷ r)))
    (cond (is_sign c || begins_number c) (as_leaf Tree.number (number (c ∷ r)))
    (cond (c == left_bracket) (array_at (c ∷ r) r)
    (cond (c == left_brace) (object_at (c ∷ r) r)
    (bad (Some ExpectedValue) (here (c ∷ r)))))))))

abbrev pub too_deep : List ℕ → List ℕ → Read Tree
too_deep q r = bad (Some TooDeep) (here q)

-- one value at the front, nested no deeper than the number
unfoldable pub read : ℕ → List ℕ → Read Tree
read zero = value_with too_deep too_deep
read (suc d) = value_with
    (λ q r. placed q (and_then (read_elements (read d) (suc (length r)) r) (λ ts y. got (array ts) y)))
    (λ q r. placed q (and_then (read_members (read d) (suc (length r)) r) (λ ps y. got (object ps) y)))

abbrev pub at_end : Tree → List ℕ → Read Tree
at_end t [] = got t []
at_end t (c ∷ r) = bad (Some TrailingCharacters) (here (c ∷ r))

unfoldable pub document : ℕ → List ℕ → Read Tree
document limit x = and_then (skip between x) (λ u y. and_then (read limit y) (λ t z. and_then (skip between z) (λ v r. at_end t r)))
