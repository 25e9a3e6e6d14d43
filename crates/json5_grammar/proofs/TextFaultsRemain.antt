-- A fault of a string or name that a character shows remains, whatever follows that character.
use Rattle.std.proofs.Common.{◌≡◌, ℕ, Bool, List, [], ◌∷◌, ◌++◌, refl, sym, append_assoc, subst, Option}
use Rattle.json5_grammar.specs.Faults.Codes.{ErrorCode, Shown, by_char}
use Rattle.json5_grammar.specs.Faults.Tokens.{EscapeFault, digit_after_nul, escaped_digit, no_escape_digit, no_second_escape, unpaired, StringFault, raw_terminator, NameFault, no_unicode_escape, escaped_no_start, escaped_no_part}
use Rattle.json5_grammar.proofs.CommonLemmas.{SameHead, same_items}
use Rattle.json5_grammar.proofs.StringsRead.{fault_head}

by_backslash : (x y : List ℕ) → (t : List ℕ) × (x ≡ 92 ∷ t) → (t : List ℕ) × (y ≡ 92 ∷ t) → SameHead x y
by_backslash x y (t, h) (v, k) = rw (h, k) refl

escape_moved : {m : Bool} {x part : List ℕ} {code : Option ErrorCode} {place : Option (List ℕ)} {how : Shown} (y : List ℕ) → EscapeFault m x code place part how → x ≡ y → EscapeFault m y code place part how
escape_moved {m = m} {part = part} {code = code} {place = place} {how = how} y f h = subst (λ z. EscapeFault m z code place part how) h f

pub escape_follows : {m : Bool} {x part : List ℕ} {code : Option ErrorCode} {place : Option (List ℕ)} (z : List ℕ) → EscapeFault m x code place part by_char → EscapeFault m (part ++ z) code place part by_char
escape_follows z (digit_after_nul r h) = digit_after_nul z h
escape_follows z (escaped_digit r h) = escaped_digit z h
escape_follows z (no_escape_digit {e = e} c r i h) = escape_moved _ (no_escape_digit c z i h) (sym (append_assoc e (c ∷ []) z))
escape_follows z (no_second_escape {e = e} c r i h) = escape_moved _ (no_second_escape c z i h) (sym (append_assoc e (c ∷ []) z))
escape_follows z (unpaired r x y s h) = unpaired z x y s h

pub escape_heads : {m : Bool} {x part : List ℕ} {code : Option ErrorCode} {place : Option (List ℕ)} (z : List ℕ) → EscapeFault m x code place part by_char → SameHead x (part ++ z)
escape_heads {x = x} {part = part} z f = by_backslash x (part ++ z) (fault_head f) (fault_head (escape_follows z f))

pub string_moved : {x b p : List ℕ} {e : Option ErrorCode} {pl : Option (List ℕ)} {how : Shown} (y : List ℕ) → StringFault x e pl b p how → x ≡ y → StringFault y e pl b p how
string_moved {b = b} {p = p} {e = e} {pl = pl} {how = how} y f h = subst (λ z. StringFault z e pl b p how) h f

pub string_follows : {x b p : List ℕ} {e : Option ErrorCode} {pl : Option (List ℕ)} (z : List ℕ) → StringFault x e pl b p by_char → StringFault ((b ++ p) ++ z) e pl b p by_char
string_follows z (raw_terminator {q = q} {c = c} {s = s} r k i h) = string_moved _ (raw_terminator z k (same_items (c ∷ z) refl i) h) (sym (append_assoc (q ∷ s) (c ∷ []) z))
string_follows z (StringFault.in_string_escape {q = q} {s = s} {part = p} k i f) = string_moved _ (StringFault.in_string_escape k (same_items (p ++ z) (escape_heads z f) i) (escape_follows z f)) (sym (append_assoc (q ∷ s) p z))

pub name_moved : {x b p : List ℕ} {e : Option ErrorCode} {pl : Option (List ℕ)} {how : Shown} (y : List ℕ) → NameFault x e pl b p how → x ≡ y → NameFault y e pl b p how
name_moved {b = b} {p = p} {e = e} {pl = pl} {how = how} y f h = subst (λ z. NameFault z e pl b p how) h f

pub name_follows : {x b p : List ℕ} {e : Option ErrorCode} {pl : Option (List ℕ)} (z : List ℕ) → NameFault x e pl b p by_char → NameFault ((b ++ p) ++ z) e pl b p by_char
name_follows z (NameFault.in_name_escape {t = t} {part = p} k f) = name_moved _ (NameFault.in_name_escape k (escape_follows z f)) (sym (append_assoc t p z))
name_follows z (no_unicode_escape {t = t} c r k n) = name_moved _ (no_unicode_escape c z k n) (sym (append_assoc t (92 ∷ c ∷ []) z))
name_follows z (escaped_no_start r u n) = escaped_no_start z u n
name_follows z (escaped_no_part {t = t} {e = e} r i u n) = name_moved _ (escaped_no_part z i u n) (sym (append_assoc t e z))
