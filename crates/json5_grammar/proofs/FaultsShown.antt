-- The part of a fault that a character shows ends with that character, and the position is there or before it, within the part.
use Rattle.std.proofs.Common.{◌≡◌, ℕ, Bool, List, [], ◌∷◌, ◌++◌, refl, ap, sym, ◌∙◌, append_assoc, subst, Option, Some}
use Rattle.std.proofs.lemmas.List.{append-nil}
use Rattle.json5_grammar.specs.Faults.Codes.{ErrorCode, by_char, after_text}
use Rattle.json5_grammar.specs.Faults.Blames.{Shows}
use Rattle.json5_grammar.specs.Faults.Tokens.{CommentFault, no_comment, RunEnd, run_at_char, NumberFault, number_word_differs, sign_without_number, no_hexadecimal_digit, hexadecimal_overflows, negative_too_large, not_a_literal, literal_overflows, leading_zero, NameFault, no_unicode_escape, escaped_no_start, escaped_no_part, EscapeFault, digit_after_nul, escaped_digit, no_escape_digit, no_second_escape, unpaired, StringFault, raw_terminator, WordFault, word_differs}
use Rattle.json5_grammar.specs.Faults.Fronts.{Bracket, Expects}
use Rattle.json5_grammar.specs.Faults.{lifted, FaultAt, in_comment, no_value, nested_too_deep, no_comma, no_key, no_colon, trailing, in_word, in_number, in_a_string, in_a_name, FaultWhere, fault}
use Rattle.json5_grammar.specs.Language.Strings.{Hex4, hex4, Unicode, single, surrogates}

-- ---- the character that shows the fault

-- at the character, at the part's beginning
shows_at : (before v : List ℕ) (c : ℕ) → Shows before (v ++ c ∷ []) (Some (before ++ v))
shows_at before v c = record { front = v; char = c; ends = refl; early = v; late = []; split = sym (append-nil v); at = refl }

-- at the part's first character
shows_from : (before v part : List ℕ) (c : ℕ) → part ≡ v ++ c ∷ [] → Shows before part (Some before)
shows_from before v part c e = record { front = v; char = c; ends = e; early = []; late = v; split = refl; at = ap Some (sym (append-nil before)) }

-- by the kinds of faults
comment_shows : {x p : List ℕ} {e : Option ErrorCode} {pl : Option (List ℕ)} → CommentFault x e pl p by_char → Shows [] p pl
comment_shows (no_comment c r h) = shows_at [] (47 ∷ []) c

word_shows : {x p : List ℕ} {e : Option ErrorCode} {pl : Option (List ℕ)} → WordFault x e pl p by_char → Shows [] p pl
word_shows (word_differs r w p d c k i n h) = shows_at [] p c

signed_end : (s p : List ℕ) (c : ℕ) → s ++ (p ++ c ∷ []) ≡ (s ++ p) ++ c ∷ []
signed_end s p c = sym (append_assoc s p (c ∷ []))

run_shows : {p : ℕ → Bool} {r c : List ℕ} (n : List ℕ) → RunEnd p r c by_char → Shows [] (n ++ c) (Some [])
run_shows n (run_at_char {c = c} r h) = shows_from [] n (n ++ c ∷ []) c refl

number_shows : {x p : List ℕ} {e : Option ErrorCode} {pl : Option (List ℕ)} → NumberFault x e pl p by_char → Shows [] p pl
number_shows (number_word_differs r w p s d c h g i n k) = subst (λ z. Shows [] z (Some (s ++ p))) (sym (signed_end s p c)) (shows_at [] (s ++ p) c)
number_shows (sign_without_number r {sign = sign} {c = c} h k) = shows_at [] (sign ∷ []) c
number_shows (no_hexadecimal_digit r s x c g k h) =
    subst (λ z. Shows [] z (Some (s ++ 48 ∷ x ∷ []))) (sym (signed_end s (48 ∷ x ∷ []) c)) (shows_at [] (s ++ 48 ∷ x ∷ []) c)
number_shows (hexadecimal_overflows r s h x c g k a b l f) =
    subst (λ z. Shows [] z (Some (s ++ 48 ∷ x ∷ h))) (sym (signed_end s (48 ∷ x ∷ h) c)) (shows_at [] (s ++ 48 ∷ x ∷ h) c)
number_shows (negative_too_large r h c x k a l f b) = run_shows (45 ∷ 48 ∷ x ∷ h) b
number_shows (not_a_literal r n c h f b) = run_shows n b
number_shows (literal_overflows r s l i c h g k n b) = run_shows (s ++ l) b
number_shows (leading_zero r s c g h) = shows_from [] (s ++ 48 ∷ []) (s ++ 48 ∷ c ∷ []) c (signed_end s (48 ∷ []) c)

-- the last digit of an escape
hex_last : {h : List ℕ} {n : ℕ} (v : List ℕ) → Hex4 h n → (w : List ℕ) × (c : ℕ) × (v ++ h ≡ w ++ c ∷ [])
hex_last v (hex4 {a = a} {b = b} {c = c} {d = d} k) = (v ++ a ∷ b ∷ c ∷ [], d, signed_end v (a ∷ b ∷ c ∷ []) d)

unicode_last : {e : List ℕ} {n : ℕ} → Unicode e n → (w : List ℕ) × (c : ℕ) × (e ≡ w ++ c ∷ [])
unicode_last (single x s) = hex_last (92 ∷ 117 ∷ []) x
unicode_last (surrogates {h = h} {l = l} x y a b) =
    let (w, c, e) = hex_last (92 ∷ 117 ∷ []) y in (92 ∷ 117 ∷ h ++ w, c, ap (λ z. 92 ∷ 117 ∷ h ++ z) e ∙ signed_end (92 ∷ 117 ∷ h) w c)

escape_shows : {m : Bool} {x p : List ℕ} {e : Option ErrorCode} {pl : Option (List ℕ)} → EscapeFault m x e pl p by_char → Shows [] p pl
escape_shows (digit_after_nul {c = c} r h) = shows_from [] (92 ∷ 48 ∷ []) (92 ∷ 48 ∷ c ∷ []) c refl
escape_shows (escaped_digit {c = c} r h) = shows_from [] (92 ∷ []) (92 ∷ c ∷ []) c refl
escape_shows (no_escape_digit {e = e} c r i h) = shows_from [] e (e ++ c ∷ []) c refl
escape_shows (no_second_escape {e = e} c r i h) = shows_at [] e c
escape_shows (unpaired {h = h} r x y s n) =
    let (w, c, e) = hex_last (92 ∷ 117 ∷ []) y in
    shows_from [] (92 ∷ 117 ∷ h ++ w) _ c (ap (λ z. 92 ∷ 117 ∷ h ++ z) e ∙ signed_end (92 ∷ 117 ∷ h) w c)

-- after more text
shows_later : {part : List ℕ} {place : Option (List ℕ)} (t : List ℕ) → Shows [] part place → Shows t part (after_text t place)
shows_later t h =
    record { front = h.front; char = h.char; ends = h.ends; early = h.early; late = h.late; split = h.split; at = ap (after_text t) h.at }

string_shows : {x b p : List ℕ} {e : Option ErrorCode} {pl : Option (List ℕ)} → StringFault x e pl b p by_char → Shows b p pl
string_shows (raw_terminator {q = q} {c = c} {s = s} r k i h) = shows_from (q ∷ s) [] (c ∷ []) c refl
string_shows (StringFault.in_string_escape {q = q} {s = s} k i f) = shows_later (q ∷ s) (escape_shows f)

name_shows : {x b p : List ℕ} {e : Option ErrorCode} {pl : Option (List ℕ)} → NameFault x e pl b p by_char → Shows b p pl
name_shows (NameFault.in_name_escape {t = t} k f) = shows_later t (escape_shows f)
name_shows (no_unicode_escape {t = t} c r k n) = shows_at t (92 ∷ []) c
name_shows (escaped_no_start {e = e} r u n) = let (w, c, k) = unicode_last u in shows_from [] w e c k
name_shows (escaped_no_part {t = t} {e = e} r i u n) = let (w, c, k) = unicode_last u in shows_from t w e c k

-- ---- of the whole text

-- at the one character of the part
one_shows : (c : ℕ) → Shows [] (c ∷ []) (Some [])
one_shows c = shows_from [] [] (c ∷ []) c refl

-- a row of the table
pub row_shows : {limit : ℕ} {o : List Bracket} {a : Expects} {x b p : List ℕ} {e : Option ErrorCode} {pl : Option (List ℕ)}
    → FaultAt limit o a x e pl b p by_char → Shows b p pl
row_shows (in_comment c) = comment_shows c
row_shows (no_value {c = c} t s b n) = one_shows c
row_shows (nested_too_deep {c = c} t b l) = one_shows c
row_shows (no_comma {c = c} k i s n) = one_shows c
row_shows (no_key {c = c} s n) = one_shows c
row_shows (no_colon {c = c} s n) = one_shows c
row_shows (trailing {c = c} s) = one_shows c
row_shows (in_word t w) = word_shows w
row_shows (in_number t w) = number_shows w
row_shows (in_a_string t w) = string_shows w
row_shows (in_a_name w) = name_shows w

-- the part ends with the character that shows the fault, and the position is at that character or before it, within the part
pub fault_shows : {Where : Expects → Type 0} {limit : ℕ} {x b p : List ℕ} {e : Option ErrorCode} {pl : Option (List ℕ)}
    → FaultWhere Where limit x e pl b p by_char → Shows b p pl
fault_shows (fault {f = f} {b = b} {o = o} k w t) =
    let h = row_shows t in
    record {
      front = h.front;
      char = h.char;
      ends = h.ends;
      early = h.early;
      late = h.late;
      split = h.split;
      at = ap (lifted f o) h.at ∙ ap Some (sym (append_assoc f b h.early));
    }
