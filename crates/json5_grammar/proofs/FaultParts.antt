-- Where a fault's part is in the input, and that it has the form of a part.
use Rattle.std.proofs.Common.{◌≡◌, ℕ, Bool, List, [], ◌∷◌, ◌++◌, refl, ap, sym, ◌∙◌, append_assoc, Option}
use Rattle.std.proofs.lemmas.List.{append-nil}
use Rattle.json5_grammar.specs.Faults.Codes.{ErrorCode, Shown, by_char, by_end}
use Rattle.json5_grammar.specs.Faults.Blames.{IsRest, StandsIn}
use Rattle.json5_grammar.specs.Faults.Tokens.{CommentFault, no_comment, slash_ends, block_ends, RunEnd, run_at_end, run_at_char, NumberFault, number_word_differs, number_word_ends, sign_without_number, sign_ends, no_hexadecimal_digit, hexadecimal_ends, hexadecimal_overflows, negative_too_large, not_a_literal, literal_overflows, leading_zero, NameFault, no_unicode_escape, escaped_no_start, escaped_no_part, name_ends, backslash_ends, EscapeFault, digit_after_nul, escaped_digit, no_escape_digit, no_second_escape, unpaired, escape_ends, StringFault, raw_terminator, string_ends, WordFault, word_differs, word_ends}
use Rattle.json5_grammar.specs.Faults.Fronts.{Bracket, Expects}
use Rattle.json5_grammar.specs.Faults.{FaultAt, in_comment, no_value, value_missing, nested_too_deep, no_comma, comma_missing, no_key, key_missing, no_colon, colon_missing, trailing, in_word, in_number, in_a_string, in_a_name, FaultWhere, fault}
use Rattle.json5_grammar.specs.Faults.Parts.{Part, one, just, one_more}
use Rattle.json5_grammar.proofs.NumberFaultParts.{part_of}
use Rattle.json5_grammar.proofs.TextFaultParts.{string_part, name_part}

-- ---- the part stands in the text

-- a text that ends with its part
any_rest : (how : Shown) → IsRest how []
any_rest by_char = tt
any_rest by_end = refl

to_the_end : (p : List ℕ) (how : Shown) → StandsIn p [] p how
to_the_end p how = ([], sym (append-nil p), any_rest how)

-- by the kinds of faults; these begin with their part
comment_in : {x p : List ℕ} {e : Option ErrorCode} {pl : Option (List ℕ)} {how : Shown} → CommentFault x e pl p how → StandsIn x [] p how
comment_in (no_comment c r h) = (r, refl, tt)
comment_in slash_ends = to_the_end (47 ∷ []) by_end
comment_in (block_ends {x = x} i) = to_the_end (47 ∷ 42 ∷ x) by_end

word_in : {x p : List ℕ} {e : Option ErrorCode} {pl : Option (List ℕ)} {how : Shown} → WordFault x e pl p how → StandsIn x [] p how
word_in (word_differs r w p d c k i n h) = (r, sym (append_assoc p (c ∷ []) r), tt)
word_in (word_ends w p d k i n) = to_the_end p by_end

run_in : {p : ℕ → Bool} {r c : List ℕ} {how : Shown} (n : List ℕ) → RunEnd p r c how → StandsIn (n ++ r) [] (n ++ c) how
run_in n run_at_end = to_the_end (n ++ []) by_end
run_in n (run_at_char {c = c} r h) = (r, sym (append_assoc n (c ∷ []) r), tt)

number_in : {x p : List ℕ} {e : Option ErrorCode} {pl : Option (List ℕ)} {how : Shown} → NumberFault x e pl p how → StandsIn x [] p how
number_in (number_word_differs r w p s d c h g i n k) = (r, sym (append_assoc s (p ++ c ∷ []) r ∙ ap (λ z. s ++ z) (append_assoc p (c ∷ []) r)), tt)
number_in (number_word_ends w p s d h g i n) = to_the_end (s ++ p) by_end
number_in (sign_without_number r h k) = (r, refl, tt)
number_in (sign_ends {sign = sign} h) = to_the_end (sign ∷ []) by_end
number_in (no_hexadecimal_digit r s x c g k h) = (r, sym (append_assoc s (48 ∷ x ∷ c ∷ []) r), tt)
number_in (hexadecimal_ends s x g k) = to_the_end (s ++ 48 ∷ x ∷ []) by_end
number_in (hexadecimal_overflows r s h x c g k a b l f) =
    (r, sym (append_assoc s (48 ∷ x ∷ (h ++ c ∷ [])) r ∙ ap (λ z. s ++ 48 ∷ x ∷ z) (append_assoc h (c ∷ []) r)), tt)
number_in (negative_too_large r h c x k a l f b) = run_in (45 ∷ 48 ∷ x ∷ h) b
number_in (not_a_literal r n c h f b) = run_in n b
number_in (literal_overflows r s l i c h g k n b) = run_in (s ++ l) b
number_in (leading_zero r s c g h) = (r, sym (append_assoc s (48 ∷ c ∷ []) r), tt)

escape_in : {m : Bool} {x p : List ℕ} {e : Option ErrorCode} {pl : Option (List ℕ)} {how : Shown} → EscapeFault m x e pl p how → StandsIn x [] p how
escape_in (digit_after_nul r h) = (r, refl, tt)
escape_in (escaped_digit r h) = (r, refl, tt)
escape_in (no_escape_digit {e = e} c r i h) = (r, sym (append_assoc e (c ∷ []) r), tt)
escape_in (no_second_escape {e = e} c r i h) = (r, sym (append_assoc e (c ∷ []) r), tt)
escape_in (unpaired r x y s n) = (r, refl, tt)
escape_in (escape_ends {e = e} i) = to_the_end e by_end

-- after more text
in_later : {x : List ℕ} (t p : List ℕ) (how : Shown) → StandsIn x [] p how → StandsIn (t ++ x) t p how
in_later t p how (q, e, k) = (q, ap (λ z. t ++ z) e ∙ sym (append_assoc t p q), k)

-- these may have whole items before it
pub string_in : {x b p : List ℕ} {e : Option ErrorCode} {pl : Option (List ℕ)} {how : Shown} → StringFault x e pl b p how → StandsIn x b p how
string_in (raw_terminator {q = q} {c = c} {s = s} r k i h) = (r, sym (append_assoc (q ∷ s) (c ∷ []) r), tt)
string_in (string_ends {q = q} {s = s} k i) = to_the_end (q ∷ s) by_end
string_in (StringFault.in_string_escape {q = q} {s = s} {part = p} {shown = how} k i f) = in_later (q ∷ s) p how (escape_in f)

pub name_in : {x b p : List ℕ} {e : Option ErrorCode} {pl : Option (List ℕ)} {how : Shown} → NameFault x e pl b p how → StandsIn x b p how
name_in (NameFault.in_name_escape {t = t} {part = p} {shown = how} k f) = in_later t p how (escape_in f)
name_in (no_unicode_escape {t = t} c r k n) = (r, sym (append_assoc t (92 ∷ c ∷ []) r), tt)
name_in (escaped_no_start r u n) = (r, refl, tt)
name_in (escaped_no_part {t = t} {e = e} r i u n) = (r, sym (append_assoc t e r), tt)
name_in (name_ends {t = t} i) = to_the_end t by_end
name_in (backslash_ends {t = t} k) = to_the_end (t ++ 92 ∷ []) by_end

-- ---- the same of the whole text

-- a part after a front
pub in_front_of : (f b p q : List ℕ) → f ++ ((b ++ p) ++ q) ≡ ((f ++ b) ++ p) ++ q
in_front_of f b p q = simp append_assoc

-- a row of the table
pub row_in : {limit : ℕ} {o : List Bracket} {a : Expects} {x b p : List ℕ} {e : Option ErrorCode} {pl : Option (List ℕ)} {how : Shown}
    → FaultAt limit o a x e pl b p how → StandsIn x b p how
row_in (in_comment c) = comment_in c
row_in (no_value {r = r} t s b n) = (r, refl, tt)
row_in (value_missing t) = ([], refl, refl)
row_in (nested_too_deep {r = r} t b l) = (r, refl, tt)
row_in (no_comma {r = r} k i s n) = (r, refl, tt)
row_in (comma_missing k i) = ([], refl, refl)
row_in (no_key {r = r} s n) = (r, refl, tt)
row_in key_missing = ([], refl, refl)
row_in (no_colon {r = r} s n) = (r, refl, tt)
row_in colon_missing = ([], refl, refl)
row_in (trailing {r = r} s) = (r, refl, tt)
row_in (in_word t w) = word_in w
row_in (in_number t w) = number_in w
row_in (in_a_string t w) = string_in w
row_in (in_a_name w) = name_in w

-- the input has the part after what comes before it
pub fault_in : {Where : Expects → Type 0} {limit : ℕ} {x b p : List ℕ} {e : Option ErrorCode} {pl : Option (List ℕ)} {how : Shown}
    → FaultWhere Where limit x e pl b p how → StandsIn x b p how
fault_in (fault {f = f} {b = b} {p = p} h w t) = let (q, e, k) = row_in t in (q, ap (λ z. f ++ z) e ∙ in_front_of f b p q, k)

-- ---- the part has the form of one

-- by the kinds of faults
comment_part : {x p : List ℕ} {e : Option ErrorCode} {pl : Option (List ℕ)} {how : Shown} → CommentFault x e pl p how → Part p
comment_part (no_comment c r h) = Part.slash
comment_part slash_ends = one
comment_part (block_ends i) = Part.comment i

word_part : {x p : List ℕ} {e : Option ErrorCode} {pl : Option (List ℕ)} {how : Shown} → WordFault x e pl p how → Part p
word_part (word_differs r w p d c k (q, i) n h) = Part.word p w (p ++ c ∷ []) k (d ∷ q, i) (one_more c)
word_part (word_ends w p d k (q, i) n) = Part.word p w p k (d ∷ q, i) just

-- a row of the table
row_part : {limit : ℕ} {o : List Bracket} {a : Expects} {x b p : List ℕ} {e : Option ErrorCode} {pl : Option (List ℕ)} {how : Shown}
    → FaultAt limit o a x e pl b p how → Part p
row_part (in_comment c) = comment_part c
row_part (no_value t s b n) = one
row_part (value_missing t) = Part.no_part
row_part (nested_too_deep t b l) = one
row_part (no_comma k i s n) = one
row_part (comma_missing k i) = Part.no_part
row_part (no_key s n) = one
row_part key_missing = Part.no_part
row_part (no_colon s n) = one
row_part colon_missing = Part.no_part
row_part (trailing s) = one
row_part (in_word t w) = word_part w
row_part (in_number t w) = Part.number (part_of w)
row_part (in_a_string t w) = string_part w
row_part (in_a_name w) = name_part w

-- the part of a fault of the text
pub fault_part : {Where : Expects → Type 0} {limit : ℕ} {x b p : List ℕ} {e : Option ErrorCode} {pl : Option (List ℕ)} {how : Shown}
    → FaultWhere Where limit x e pl b p how → Part p
fault_part (fault f w t) = row_part t
