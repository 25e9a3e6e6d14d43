-- What values and keys begin with, and what reading does at the first character.
use Rattle.std.proofs.Common.{◌≡◌, ℕ, zero, suc, Bool, true, false, ◌||◌, List, [], ◌∷◌, ◌++◌, length, refl, ap, sym, ◌∙◌, arith}
use Rattle.std.specs.Prelude.{◌==◌, Some}
use lib.Chars.{codes}
use Rattle.std.proofs.lemmas.Bool.Decides.{nat_tests}
use Rattle.std.proofs.lemmas.List.{append-nil}
use Rattle.json5_grammar.specs.Language.Characters.{is_in, is_blank, is_identifier_start}
use Rattle.json5_grammar.specs.Faults.Codes.{EofParsingNumber}
use Rattle.json5_grammar.specs.Language.Blanks.{is_solid, Blanks, empty, blank, line, block, LastBlanks, open_line, Solid}
use Rattle.json5_grammar.specs.Faults.Tokens.{is_sign, begins_number}
use Rattle.json5_grammar.specs.Language.Numbers.{Num, Number, no_sign}
use Rattle.json5_grammar.specs.Language.Strings.{Str, quoted, is_quote}
use Rattle.json5_grammar.specs.Language.Names.{Ident, name, raw_name, escaped_name, Key, goes_on_name}
use Rattle.json5_grammar.specs.Faults.{begins_value}
use Rattle.json5_grammar.specs.Language.Trees.{Tree, text, array, object}
use Rattle.json5_grammar.specs.Language.Values.{Val, is_null, is_true, is_false, is_number, is_text, is_empty_array, is_array, is_empty_object, is_object, KeyText, Stops}
use Rattle.json5_grammar.specs.Model.Reading.{Read, got, bad, inner, and_then, placed}
use Rattle.json5_grammar.specs.Model.ReadBlanks.{skip, between}
use Rattle.json5_grammar.specs.Model.ReadNumbers as numbers
use Rattle.json5_grammar.specs.Model.ReadTexts.{string}
use Rattle.json5_grammar.specs.Model.ReadValues.{read_elements, read_members, as_leaf, value_with, too_deep, read}
use Rattle.json5_grammar.proofs.BlanksRead.{printable_no_blank, printable_solid, skip_rest, solid_from, begins_solid}
use Rattle.json5_grammar.proofs.CharacterClasses.{EndsValues, blank_ends_values, slash_ends_values, blank_no_name, slash_no_name, start_no_blank, start_no_slash, start_no_brace, begins_printable, begins_others, number_begins, quote_begins, number_others, quote_others}
use Rattle.json5_grammar.proofs.NamesRead.{unicode_head}
use Rattle.json5_grammar.proofs.NumbersRead.{complete, number_unsigned}
use Rattle.json5_grammar.proofs.NumbersSound.{unsigned_bad, got_not_bad}
use Rattle.std.proofs.lemmas.Bool.{or_parts}

-- ---- heads

-- s begins with a character that begins a value
pub record ValueHead (s : List ℕ) : Type 0 where
  pub char : ℕ
  pub more : List ℕ
  pub is : s ≡ char ∷ more
  pub begins : begins_value char ≡ true

number_none : numbers.number [] ≡ bad (Some EofParsingNumber) inner
unfolding numbers.number
number_none = refl

-- a number begins with a sign, a digit, a point, `I` or `N`
pub number_head : {s : List ℕ} {n : Number} → Num s n → (c : ℕ) × (t : List ℕ) × (s ≡ c ∷ t) × ((is_sign c || begins_number c) ≡ true)
number_head {s = s} {n = n} a = head s (ap numbers.number (sym (append-nil s)) ∙ complete a [] tt)
  where
    head : (s : List ℕ) → numbers.number s ≡ got n [] → (c : ℕ) × (t : List ℕ) × (s ≡ c ∷ t) × ((is_sign c || begins_number c) ≡ true)
    head [] e = absurd (got_not_bad (sym e ∙ number_none))
    head (c ∷ t) e = split (is_sign c || begins_number c) refl
      where
        split : (b : Bool) → (is_sign c || begins_number c) ≡ b → (d : ℕ) × (y : List ℕ) × (c ∷ t ≡ d ∷ y) × ((is_sign d || begins_number d) ≡ true)
        split true h = (c, t, refl, h)
        split false h = let k = or_parts (is_sign c) (begins_number c) h in absurd (got_not_bad (sym e ∙ number_unsigned c t no_sign k.0 ∙ unsigned_bad (c ∷ t) false c t k.1))

-- a value begins with a character that begins a value
pub val_head : {s : List ℕ} {t : Tree} → Val s t → ValueHead s
val_head is_null = record { char = 110; more = codes "ull"; is = refl; begins = refl }
val_head is_true = record { char = 116; more = codes "rue"; is = refl; begins = refl }
val_head is_false = record { char = 102; more = codes "alse"; is = refl; begins = refl }
val_head (is_number a) = let k = number_head a in record { char = k.0; more = k.1; is = k.2; begins = number_begins k.0 k.3 }
val_head (is_text (quoted {q = q} {s = s} h i)) = record { char = q; more = s ++ q ∷ []; is = refl; begins = quote_begins q h }
val_head (is_empty_array {w = w} b) = record { char = 91; more = w ++ 93 ∷ []; is = refl; begins = refl }
val_head (is_array {m = m} ms) = record { char = 91; more = m ++ 93 ∷ []; is = refl; begins = refl }
val_head (is_empty_object {w = w} b) = record { char = 123; more = w ++ 125 ∷ []; is = refl; begins = refl }
val_head (is_object {m = m} ps) = record { char = 123; more = m ++ 125 ∷ []; is = refl; begins = refl }

-- a character that begins a value is solid
pub begins_value_solid : (c : ℕ) → begins_value c ≡ true → is_solid c ≡ true
begins_value_solid c h = printable_solid c (begins_printable c h) (begins_others c h).0

-- a value in front makes a text solid
pub value_solid : {s : List ℕ} (r : List ℕ) → ValueHead s → Solid (s ++ r)
value_solid r h = rw h.is (begins_solid h.char (h.more ++ r) (begins_value_solid h.char h.begins))

-- nothing is passed over before a value
pub skip_value : {s : List ℕ} (r : List ℕ) → ValueHead s → skip between (s ++ r) ≡ got tt (s ++ r)
skip_value {s = s} r h = skip_rest (s ++ r) (value_solid r h)

-- k begins with a character that begins a key
pub record KeyHead (k : List ℕ) : Type 0 where
  pub char : ℕ
  pub more : List ℕ
  pub is : k ≡ char ∷ more
  pub begins : (is_quote char || ((char == 92) || is_identifier_start char)) ≡ true

quote_key : (a b : Bool) → a ≡ true → (a || b) ≡ true
quote_key a b h = rw h

slash_key : (a b : Bool) → (a || (true || b)) ≡ true
slash_key true b = refl
slash_key false b = refl

start_key : (a b c : Bool) → c ≡ true → (a || (b || c)) ≡ true
start_key true b c h = refl
start_key false true c h = refl
start_key false false c h = h

str_head : {s u : List ℕ} {p : Bool} → Str s u p → KeyHead s
str_head (quoted {q = q} {s = s} h i) = record { char = q; more = s ++ q ∷ []; is = refl; begins = quote_key (is_quote q) _ h }

ident_head : {s u : List ℕ} {p : Bool} → Ident s u p → KeyHead s
ident_head (name {s = s} (raw_name {c = c} n) h i) = record { char = c; more = s; is = refl; begins = start_key (is_quote c) (c == 92) (is_identifier_start c) h }
ident_head (name {s = s} (escaped_name {e = e} u) h i) =
    let w = unicode_head u in
    record { char = 92; more = w.0 ++ s; is = ap (λ z. z ++ s) w.1; begins = slash_key (is_quote 92) (is_identifier_start 92) }

-- a key's text begins with a character that begins a key
pub key_text_head : {k u : List ℕ} {escape_free : Bool} → KeyText k u escape_free → KeyHead k
key_text_head (KeyText.string_key s) = str_head s
key_text_head (KeyText.name_key i) = ident_head i

-- so does a key
pub key_head : {k r u : List ℕ} {escape_free : Bool} → Key k r u escape_free → KeyHead k
key_head (Key.string_key s) = str_head s
key_head (Key.name_key i h) = ident_head i

-- a character that begins a key is no blank, no slash and no closing brace
pub key_begins : (c : ℕ) → (is_quote c || ((c == 92) || is_identifier_start c)) ≡ true → (is_blank c ≡ false) × ((c == 47) ≡ false) × ((c == 125) ≡ false)
key_begins c h = by_quote (is_quote c) (c == 92) (is_identifier_start c) refl refl refl h
  where
    quote : (c : ℕ) → is_quote c ≡ true → (is_in 33 126 c ≡ true) × ((c == 47) ≡ false) × ((c == 125) ≡ false)
    quote c h = (grind (arith, nat_tests), grind (arith, nat_tests), grind (arith, nat_tests))

    backslash : (c : ℕ) → (c == 92) ≡ true → (is_in 33 126 c ≡ true) × ((c == 47) ≡ false) × ((c == 125) ≡ false)
    backslash c h = (grind (arith, nat_tests), grind (arith, nat_tests), grind (arith, nat_tests))

    by_quote : (a b d : Bool) → is_quote c ≡ a → (c == 92) ≡ b → is_identifier_start c ≡ d → (a || (b || d)) ≡ true → (is_blank c ≡ false) × ((c == 47) ≡ false) × ((c == 125) ≡ false)
    by_quote true b d e f g h = let k = quote c e in (printable_no_blank c k.0, k.1, k.2)
    by_quote false true d e f g h = let k = backslash c f in (printable_no_blank c k.0, k.1, k.2)
    by_quote false false true e f g h = (start_no_blank c g, start_no_slash c g, start_no_brace c g)
    by_quote false false false e f g h = absurd (cc)

-- a key in front makes a text solid
pub key_solid : {k : List ℕ} (r : List ℕ) → KeyHead k → Solid (k ++ r)
key_solid r h = let b = key_begins h.char h.begins in rw h.is (begins_solid h.char (h.more ++ r) (solid_from h.char b.0 b.1))

-- nothing is passed over before a key
pub skip_key : {k : List ℕ} (r : List ℕ) → KeyHead k → skip between (k ++ r) ≡ got tt (k ++ r)
skip_key {k = k} r h = skip_rest (k ++ r) (key_solid r h)

-- ---- keys before what follows them

-- a key's text before a character that goes on no name is a key
pub key_before : {k u : List ℕ} {escape_free : Bool} (c : ℕ) (r : List ℕ) → KeyText k u escape_free → goes_on_name c ≡ false → Key k (c ∷ r) u escape_free
key_before c r (KeyText.string_key s) h = Key.string_key s
key_before c r (KeyText.name_key i) h = Key.name_key i h

-- a key's text before blanks and a character that goes on no name
pub key_before_blanks : {k b u : List ℕ} {escape_free : Bool} (c : ℕ) (r : List ℕ) → Blanks b → KeyText k u escape_free → goes_on_name c ≡ false → Key k (b ++ c ∷ r) u escape_free
key_before_blanks c r empty k h = key_before c r k h
key_before_blanks c r (blank {c = d} {s = s} g b) k h = key_before d (s ++ c ∷ r) k (blank_no_name d g)
key_before_blanks c r (line {x = x} d {s = s} n g b) k h = key_before 47 (47 ∷ (x ++ d ∷ s) ++ c ∷ r) k slash_no_name
key_before_blanks c r (block {x = x} {s = s} i b) k h = key_before 47 (42 ∷ (x ++ 42 ∷ 47 ∷ s) ++ c ∷ r) k slash_no_name

-- a key's spelling, whatever follows it
pub key_spelling : {k r u : List ℕ} {escape_free : Bool} → Key k r u escape_free → KeyText k u escape_free
key_spelling (Key.string_key s) = KeyText.string_key s
key_spelling (Key.name_key i h) = KeyText.name_key i

-- ---- where values stop

-- a value stops before blanks and a character that lengthens no value
pub stops_blanks : {v : List ℕ} (s : List ℕ) (c : ℕ) (r : List ℕ) → Blanks v → EndsValues c → Stops s (v ++ c ∷ r)
stops_blanks s c r empty h = h s
stops_blanks s c r (blank {c = d} k b) h = blank_ends_values d k s
stops_blanks s c r (line x n k b) h = slash_ends_values s
stops_blanks s c r (block i b) h = slash_ends_values s

-- a value stops before blanks that end the text
pub stops_all : {v : List ℕ} (s : List ℕ) → Blanks v → Stops s v
stops_all s empty = tt
stops_all s (blank {c = d} k b) = blank_ends_values d k s
stops_all s (line x n k b) = slash_ends_values s
stops_all s (block i b) = slash_ends_values s

-- a value stops before blanks at the end
pub stops_last : {v : List ℕ} (s : List ℕ) → LastBlanks v → Stops s v
stops_last s (LastBlanks.blanks b) = stops_all s b
stops_last s (open_line {x = x} b n) = stops_blanks s 47 (47 ∷ x) b slash_ends_values

-- ---- reading at the first character

abbrev pub Nested : Type 0
Nested = List ℕ → List ℕ → Read Tree

-- a quote begins a text
pub value_text : (arrays objects : Nested) (c : ℕ) (r : List ℕ) → is_quote c ≡ true → value_with arrays objects (c ∷ r) ≡ as_leaf (λ a. text a.0 a.1) (string (c ∷ r))
value_text arrays objects c r h = let k = quote_others c h in rw (h, k.0, k.1, k.2) refl

-- a sign, a digit, a point, `I` or `N` begins a number
pub value_number : (arrays objects : Nested) (c : ℕ) (r : List ℕ) → (is_sign c || begins_number c) ≡ true → value_with arrays objects (c ∷ r) ≡ as_leaf Tree.number (numbers.number (c ∷ r))
value_number arrays objects c r h = let k = number_others c h in rw (h, k.3, k.0, k.1, k.2) refl

-- what reads the arrays and the objects that are nested no deeper than the number
abbrev pub array_reader : ℕ → Nested
array_reader zero = too_deep
array_reader (suc d) = λ q r. placed q (and_then (read_elements (read d) (suc (length r)) r) (λ ts y. got (array ts) y))

abbrev pub object_reader : ℕ → Nested
object_reader zero = too_deep
object_reader (suc d) = λ q r. placed q (and_then (read_members (read d) (suc (length r)) r) (λ ps y. got (object ps) y))

-- one step of reading
pub read_step : (d : ℕ) (x : List ℕ) → read d x ≡ value_with (array_reader d) (object_reader d) x
unfolding read
read_step zero x = refl
read_step (suc d) x = refl
