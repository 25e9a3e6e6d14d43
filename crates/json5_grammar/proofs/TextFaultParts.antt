-- The part of a string's or name's fault has the form of a part.
use Rattle.std.proofs.Common.{◌≡◌, ℕ, Bool, true, List, [], ◌∷◌, ◌++◌, append_assoc, arith, Option, subst}
use Rattle.std.proofs.lemmas.Bool.Decides.{nat_tests}
use Rattle.json5_grammar.specs.Faults.Parts.{Part, one, an_escape, nul_escape, in_string, in_name, in_name_backslash, Nearly, just, one_more}
use Rattle.json5_grammar.specs.Faults.Codes.{ErrorCode, Shown}
use Rattle.json5_grammar.specs.Faults.Tokens.{in_first, in_second, lone_backslash, digits_missing, second_missing, EscapeFault, digit_after_nul, escaped_digit, no_escape_digit, no_second_escape, unpaired, escape_ends, StringFault, raw_terminator, string_ends, NameFault, no_unicode_escape, escaped_no_start, escaped_no_part, name_ends, backslash_ends, Named, no_item_yet, some_items}
use Rattle.json5_grammar.specs.Language.Strings.{Hex4, hex4, Unicode, single, surrogates}
use Rattle.json5_grammar.specs.Language.Characters.{is_in, no_char, char}

-- four digits are three and one more
four_digits : {h : List ℕ} {n : ℕ} → Hex4 h n → Part (92 ∷ 117 ∷ h)
four_digits (hex4 {a = a} {b = b} {c = c} {d = d} (char i (char j (char k l)))) = an_escape (92 ∷ 117 ∷ a ∷ b ∷ c ∷ []) (92 ∷ 117 ∷ a ∷ b ∷ c ∷ d ∷ []) {in_string = true} (digits_missing (in_first (char i (char j (char k no_char))) (omega arith))) (one_more d)

eight_digits : {h l : List ℕ} {n k : ℕ} → Hex4 h n → is_in 0xD800 0xDFFF n ≡ true → Hex4 l k → Part (92 ∷ 117 ∷ h ++ 92 ∷ 117 ∷ l)
eight_digits {h = h} x s (hex4 {a = a} {b = b} {c = c} {d = d} (char i (char j (char k l)))) =
    an_escape (92 ∷ 117 ∷ h ++ 92 ∷ 117 ∷ a ∷ b ∷ c ∷ []) _ {in_string = true} (digits_missing (in_second x s (char i (char j (char k no_char))) (omega arith)))
    (subst (Nearly (92 ∷ 117 ∷ h ++ 92 ∷ 117 ∷ a ∷ b ∷ c ∷ [])) (append_assoc (92 ∷ 117 ∷ h) (92 ∷ 117 ∷ a ∷ b ∷ c ∷ []) (d ∷ [])) (one_more d))

high_surrogate : (n : ℕ) → is_in 0xD800 0xDBFF n ≡ true → is_in 0xD800 0xDFFF n ≡ true
high_surrogate n h = grind (arith, nat_tests)

whole_escape : {e : List ℕ} {n : ℕ} → Unicode e n → Part e
whole_escape (single x s) = four_digits x
whole_escape (surrogates {n = n} x y a b) = eight_digits x (high_surrogate n a) y

escape_part : {m : Bool} {x p : List ℕ} {e : Option ErrorCode} {pl : Option (List ℕ)} {how : Shown} → EscapeFault m x e pl p how → Part p
escape_part (digit_after_nul {c = c} r h) = nul_escape (one_more c)
escape_part (escaped_digit {c = c} r h) = an_escape (92 ∷ []) (92 ∷ c ∷ []) lone_backslash (one_more c)
escape_part (no_escape_digit {e = e} c r i n) = an_escape e (e ++ c ∷ []) (digits_missing i) (one_more c)
escape_part {m = m} (no_second_escape {e = e} c r i n) = an_escape e (e ++ c ∷ []) {in_string = m} (second_missing i) (one_more c)
escape_part (unpaired r x y s n) = eight_digits x s y
escape_part (escape_ends {e = e} i) = an_escape e e i just

pub string_part : {x b p : List ℕ} {e : Option ErrorCode} {pl : Option (List ℕ)} {how : Shown} → StringFault x e pl b p how → Part p
string_part (raw_terminator r k i h) = one
string_part (string_ends k i) = in_string k i
string_part (StringFault.in_string_escape k i f) = escape_part f

name_backslash : {t : List ℕ} → Named t → Part (t ++ 92 ∷ [])
name_backslash no_item_yet = one
name_backslash (some_items i) = in_name_backslash i

pub name_part : {x b p : List ℕ} {e : Option ErrorCode} {pl : Option (List ℕ)} {how : Shown} → NameFault x e pl b p how → Part p
name_part (NameFault.in_name_escape k f) = escape_part f
name_part (no_unicode_escape c r k n) = an_escape (92 ∷ []) (92 ∷ c ∷ []) lone_backslash (one_more c)
name_part (escaped_no_start r u n) = whole_escape u
name_part (escaped_no_part r i u n) = whole_escape u
name_part (name_ends i) = in_name i
name_part (backslash_ends k) = name_backslash k
