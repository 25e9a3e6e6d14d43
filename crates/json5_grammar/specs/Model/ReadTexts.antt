-- Reading strings and names as functions on lists.
-- A promise rests on this.
use Rattle.std.specs.Prelude.{ℕ, zero, suc, ◌+◌, ◌*◌, Bool, true, false, cond, ◌&&◌, ◌||◌, ◌==◌, List, [], ◌∷◌, ◌++◌, length, Option, Some, None}
use Rattle.std.specs.Char.{digit_value}
use Rattle.json5_grammar.specs.Language.Characters.{backslash, carriage_return, digit_zero, letter_u, letter_x, line_feed, is_terminator, is_identifier_start, is_identifier_part, is_digit, is_hex_digit}
use Rattle.json5_grammar.specs.Faults.Codes.{EofParsingEscapeSequence, EofParsingIdentifier, EofParsingObject, EofParsingString, ExpectedIdentifier, InvalidEscapeSequence, LineTerminatorInString}
use Rattle.json5_grammar.specs.Language.Strings.{short_escape, is_high, is_low, pair_value, is_quote}
use Rattle.json5_grammar.specs.Faults.Tokens.{is_surrogate}
use Rattle.json5_grammar.specs.Model.Reading.{Read, and_then, here, inner, got, bad}

-- k hexadecimal digits after those of n; b is the rest from the escape's backslash on
unfoldable pub hex : ℕ → ℕ → List ℕ → List ℕ → Read ℕ
hex zero n b r = got n r
hex (suc k) n b [] = bad (Some EofParsingEscapeSequence) inner
hex (suc k) n b (c ∷ r) = cond (is_hex_digit c) (hex k (n * 16 + digit_value c) b r) (bad (Some InvalidEscapeSequence) (here b))

abbrev pub paired : ℕ → List ℕ → ℕ → List ℕ → Read ℕ
paired n b k r = cond (is_high n && is_low k) (got (pair_value n k) r) (bad None (here b))

abbrev pub second_u : ℕ → List ℕ → List ℕ → Read ℕ
second_u n b [] = bad (Some EofParsingEscapeSequence) inner
second_u n b (c ∷ r) = cond (c == letter_u) (and_then (hex 4 0 b r) (paired n b)) (bad (Some InvalidEscapeSequence) (here (c ∷ r)))

abbrev pub second : ℕ → List ℕ → List ℕ → Read ℕ
second n b [] = bad (Some EofParsingEscapeSequence) inner
second n b (c ∷ r) = cond (c == backslash) (second_u n b r) (bad (Some InvalidEscapeSequence) (here (c ∷ r)))

abbrev pub first : List ℕ → ℕ → List ℕ → Read ℕ
first b n r = cond (is_surrogate n) (second n b r) (got n r)

-- after `\u`
unfoldable pub unicode_at : List ℕ → List ℕ → Read ℕ
unicode_at b r = and_then (hex 4 0 b r) (first b)

abbrev pub one_char : ℕ → List ℕ → Read (List ℕ)
one_char n r = got (n ∷ []) r

abbrev pub after_nul : List ℕ → List ℕ → Read (List ℕ)
after_nul b [] = got (0 ∷ []) []
after_nul b (c ∷ r) = cond (is_digit c) (bad (Some InvalidEscapeSequence) (here b)) (got (0 ∷ []) (c ∷ r))

abbrev pub after_cr : List ℕ → Read (List ℕ)
after_cr [] = got [] []
after_cr (c ∷ r) = cond (c == line_feed) (got [] r) (got [] (c ∷ r))

abbrev pub not_short : Option ℕ → List ℕ → ℕ → List ℕ → Read (List ℕ)
not_short (Some d) b c r = got (d ∷ []) r
not_short None b c r =
    cond (c == digit_zero) (after_nul b r)
    (cond (c == letter_x) (and_then (hex 2 0 b r) one_char)
    (cond (c == letter_u) (and_then (unicode_at b r) one_char)
    (cond (c == carriage_return) (after_cr r)
    (cond (is_terminator c) (got [] r)
    (cond (is_digit c) (bad (Some InvalidEscapeSequence) (here b))
    (got (c ∷ []) r))))))

-- after a string's backslash
unfoldable pub escape_at : List ℕ → List ℕ → Read (List ℕ)
escape_at b [] = bad (Some EofParsingEscapeSequence) inner
escape_at b (c ∷ r) = not_short (short_escape c) b c r

-- an item's characters and whether it is raw, before those of the rest
abbrev pub put : List ℕ → Bool → Read (List ℕ × Bool) → Read (List ℕ × Bool)
put v p (bad e x) = bad e x
put v p (got a r) = got (v ++ a.0, p && a.1) r

-- the items of a string and its quote; the number bounds the turns, and any above the length of x is enough
unfoldable pub items : ℕ → ℕ → List ℕ → Read (List ℕ × Bool)
items zero q x = bad (Some EofParsingString) inner
items (suc n) q [] = bad (Some EofParsingString) inner
items (suc n) q (c ∷ r) =
    cond (c == q) (got ([], true) r)
    (cond (c == backslash) (and_then (escape_at (c ∷ r) r) (λ v y. put v false (items n q y)))
    (cond ((c == line_feed) || (c == carriage_return)) (bad (Some LineTerminatorInString) (here (c ∷ r)))
    (put (c ∷ []) true (items n q r))))

-- a string: its characters, and whether it is escape-free
unfoldable pub string : List ℕ → Read (List ℕ × Bool)
string [] = bad (Some EofParsingString) inner
string (q ∷ r) = items (suc (length r)) q r

-- after a name's backslash
unfoldable pub name_escape : List ℕ → List ℕ → Read ℕ
name_escape b [] = bad (Some EofParsingIdentifier) inner
name_escape b (c ∷ r) = cond (c == letter_u) (unicode_at b r) (bad (Some InvalidEscapeSequence) (here (c ∷ r)))

-- the escape's character passes the test of a name's first or later characters
abbrev pub fit : (ℕ → Bool) → List ℕ → ℕ → List ℕ → Read ℕ
fit p b n r = cond (p n) (got n r) (bad (Some ExpectedIdentifier) (here b))

-- an escape in a name, and then the rest of the name
abbrev pub escaped_item : (ℕ → Bool) → List ℕ → List ℕ → (List ℕ → Read (List ℕ × Bool)) → Read (List ℕ × Bool)
escaped_item p b r k = and_then (and_then (name_escape b r) (fit p b)) (λ n y. put (n ∷ []) false (k y))

-- a name's further items, as far as they go
unfoldable pub parts : ℕ → List ℕ → Read (List ℕ × Bool)
parts zero x = bad (Some EofParsingIdentifier) inner
parts (suc n) [] = bad (Some EofParsingIdentifier) inner
parts (suc n) (c ∷ r) =
    cond (c == backslash) (escaped_item is_identifier_part (c ∷ r) r (parts n))
    (cond (is_identifier_part c) (put (c ∷ []) true (parts n r))
    (got ([], true) (c ∷ r)))

-- a name: its characters, and whether it is escape-free
unfoldable pub identifier : List ℕ → Read (List ℕ × Bool)
identifier [] = bad (Some EofParsingIdentifier) inner
identifier (c ∷ r) =
    cond (c == backslash) (escaped_item is_identifier_start (c ∷ r) r (parts (suc (length r))))
    (cond (is_identifier_start c) (put (c ∷ []) true (parts (suc (length r)) r))
    (bad (Some ExpectedIdentifier) (here (c ∷ r))))

-- a key: a string or a name; whether the object ends there is tested before
unfoldable pub key : List ℕ → Read (List ℕ × Bool)
key [] = bad (Some EofParsingObject) inner
key (c ∷ r) = cond (is_quote c) (string (c ∷ r)) (identifier (c ∷ r))
