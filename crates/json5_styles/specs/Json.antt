-- The grammar of JSON (RFC 8259). A text is the codes of its characters.
-- A promise rests on this.
use Rattle.std.specs.Prelude.{◌≡◌, ℕ, Bool, true, not, ◌&&◌, ◌||◌, ◌==◌, nat_le, List, [], ◌∷◌, ◌++◌}
use Rattle.json5_grammar.specs.Language.Characters.{tab, line_feed, carriage_return, space, double_quote, backslash, plus_sign, minus_sign, comma_sign, point_sign, slash_sign, colon_sign, left_bracket, right_bracket, left_brace, right_brace, letter_b, letter_e, capital_e, letter_f, letter_n, letter_r, letter_t, letter_u, is_digit, is_hex_digit, Each}
use Rattle.json5_grammar.specs.Language.Numbers.{Integer}
use Rattle.json5_grammar.specs.Language.Values.{null_text, true_text, false_text}

-- section 2: blanks between tokens
abbrev pub is_json_blank : ℕ → Bool
is_json_blank c = (c == space) || ((c == tab) || ((c == line_feed) || (c == carriage_return)))

abbrev pub JsonBlanks : List ℕ → Type 0
JsonBlanks w = Each is_json_blank w

-- section 6: at most a minus, digits without zeros in front, a point and digits, and an exponent
pub data Minus : List ℕ → Type 0 where
  no_minus : Minus []
  minus : Minus (minus_sign ∷ [])

pub data Fraction : List ℕ → Type 0 where
  no_fraction : Fraction []
  fraction : {d : ℕ} {ds : List ℕ} → Each is_digit (d ∷ ds) → Fraction (point_sign ∷ d ∷ ds)

pub data ExponentSign : List ℕ → Type 0 where
  no_sign : ExponentSign []
  sign : {c : ℕ} → ((c == plus_sign) || (c == minus_sign)) ≡ true → ExponentSign (c ∷ [])

pub data Exponent : List ℕ → Type 0 where
  no_exponent : Exponent []
  exponent : {c d : ℕ} {s ds : List ℕ} → ((c == letter_e) || (c == capital_e)) ≡ true → ExponentSign s → Each is_digit (d ∷ ds) → Exponent (c ∷ s ++ d ∷ ds)

pub data JsonNumber : List ℕ → Type 0 where
  json_number : {m i f e : List ℕ} → Minus m → Integer i → Fraction f → Exponent e → JsonNumber (m ++ (i ++ (f ++ e)))

-- section 7: strings
abbrev pub is_unescaped : ℕ → Bool
is_unescaped c = nat_le space c && (not (c == double_quote) && not (c == backslash))

abbrev pub is_escape_letter : ℕ → Bool
is_escape_letter c = (c == double_quote) || ((c == backslash) || ((c == slash_sign) || ((c == letter_b) || ((c == letter_f) || ((c == letter_n) || ((c == letter_r) || (c == letter_t)))))))

pub data JsonChars : List ℕ → Type 0 where
  no_char : JsonChars []
  unescaped : {c : ℕ} {s : List ℕ} → is_unescaped c ≡ true → JsonChars s → JsonChars (c ∷ s)
  letter : {c : ℕ} {s : List ℕ} → is_escape_letter c ≡ true → JsonChars s → JsonChars (backslash ∷ c ∷ s)
  code : {a b c d : ℕ} {s : List ℕ} → Each is_hex_digit (a ∷ b ∷ c ∷ d ∷ []) → JsonChars s → JsonChars (backslash ∷ letter_u ∷ a ∷ b ∷ c ∷ d ∷ s)

pub data JsonString : List ℕ → Type 0 where
  quoted : {s : List ℕ} → JsonChars s → JsonString (double_quote ∷ s ++ double_quote ∷ [])

-- sections 3 to 5: values
mutual
  pub data JsonValue : List ℕ → Type 0 where
    is_null : JsonValue null_text
    is_true : JsonValue true_text
    is_false : JsonValue false_text
    is_number : {s : List ℕ} → JsonNumber s → JsonValue s
    is_string : {s : List ℕ} → JsonString s → JsonValue s
    is_empty_array : {w : List ℕ} → JsonBlanks w → JsonValue (left_bracket ∷ w ++ right_bracket ∷ [])
    is_array : {m : List ℕ} → JsonElements m → JsonValue (left_bracket ∷ m ++ right_bracket ∷ [])
    is_empty_object : {w : List ℕ} → JsonBlanks w → JsonValue (left_brace ∷ w ++ right_brace ∷ [])
    is_object : {m : List ℕ} → JsonMembers m → JsonValue (left_brace ∷ m ++ right_brace ∷ [])

  -- one or more elements, with blanks around each and commas between them
  pub data JsonElements : List ℕ → Type 0 where
    last : {w s v : List ℕ} → JsonBlanks w → JsonValue s → JsonBlanks v → JsonElements (w ++ (s ++ v))
    next : {w s v m : List ℕ} → JsonBlanks w → JsonValue s → JsonBlanks v → JsonElements m → JsonElements (w ++ (s ++ (v ++ comma_sign ∷ m)))

  pub data JsonMembers : List ℕ → Type 0 where
    last_member : {p : List ℕ} → JsonMember p → JsonMembers p
    next_member : {p m : List ℕ} → JsonMember p → JsonMembers m → JsonMembers (p ++ comma_sign ∷ m)

  -- blanks, a string, blanks, a colon, blanks, a value, blanks
  pub data JsonMember : List ℕ → Type 0 where
    entry : {a k b w s v : List ℕ} → JsonBlanks a → JsonString k → JsonBlanks b → JsonBlanks w → JsonValue s → JsonBlanks v → JsonMember (a ++ (k ++ (b ++ colon_sign ∷ (w ++ (s ++ v)))))

-- section 2: a value with blanks around it
pub record JsonText (x : List ℕ) : Type 0 where
  pub before : List ℕ
  pub text : List ℕ
  pub after : List ℕ
  pub whole : x ≡ before ++ (text ++ after)
  pub front : JsonBlanks before
  pub value : JsonValue text
  pub back : JsonBlanks after
