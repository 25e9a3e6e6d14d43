-- What comes before a token's fault can be continued to a token; through the character that shows the fault nothing can.
use Rattle.std.proofs.Common.{◌≡◌, ℕ, Bool, true, false, List, [], ◌∷◌, ◌++◌, refl, ◌⊎◌, inl, inr, arith, subst, Option}
use Rattle.std.specs.Prelude.{◌==◌}
use Rattle.std.proofs.lemmas.Bool.Decides.{nat_tests}
use Rattle.json5_grammar.specs.Language.Characters.{NotBegun, is_digit}
use Rattle.json5_grammar.specs.Language.Strings.{Items, no_item, raw, escape, is_quote, Str, quoted, Escape, short, nul, byte, unicode, line_end, cr_lf, lone_cr, itself}
use Rattle.json5_grammar.specs.Language.Names.{Ident, goes_on_name}
use Rattle.json5_grammar.specs.Faults.Codes.{ErrorCode, Shown, by_char}
use Rattle.json5_grammar.specs.Faults.Tokens.{StringFault, raw_terminator, string_ends, NameFault, no_unicode_escape, escaped_no_start, escaped_no_part, name_ends, backslash_ends, Named, no_item_yet, some_items}
use Rattle.json5_grammar.proofs.StringsRead.{no_string_fault}
use Rattle.json5_grammar.proofs.NamesRead.{no_name_fault}
use Rattle.json5_grammar.proofs.TextFaultsRemain.{string_follows, name_follows, string_moved, name_moved}

closed_not : (p : ℕ → Bool) (q : ℕ) (s r : List ℕ) → p q ≡ false → NotBegun p (s ++ r) → NotBegun p (s ++ q ∷ [])
closed_not p q [] r h n = h
closed_not p q (c ∷ s) r h n = n

no_digit : (q : ℕ) → is_quote q ≡ true → is_digit q ≡ false
no_digit q h = grind (arith, nat_tests)

no_lf : (q : ℕ) → is_quote q ≡ true → (q == 10) ≡ false
no_lf q h = grind (arith, nat_tests)

closed_escape : {e v y : List ℕ} (q : ℕ) (s r : List ℕ) → is_quote q ≡ true → y ≡ s ++ r → Escape e v y → Escape e v (s ++ q ∷ [])
closed_escape q s r h k (short a) = short a
closed_escape q s r h k (nul n) = nul (closed_not is_digit q s r (no_digit q h) (subst (NotBegun is_digit) k n))
closed_escape q s r h k (byte a) = byte a
closed_escape q s r h k (unicode a) = unicode a
closed_escape q s r h k (line_end a b) = line_end a b
closed_escape q s r h k cr_lf = cr_lf
closed_escape q s r h k (lone_cr n) = lone_cr (closed_not (λ c. c == 10) q s r (no_lf q h) (subst (NotBegun (λ c. c == 10)) k n))
closed_escape q s r h k (itself a) = itself a

-- whole items before anything are whole before the quote
pub items_closed : {q : ℕ} {r s u : List ℕ} {p : Bool} → is_quote q ≡ true → Items q r s u p → Items q (q ∷ []) s u p
items_closed h no_item = no_item
items_closed h (raw k i) = raw k (items_closed h i)
items_closed {q = q} {r = r} h (escape {s = s} x i) = escape (closed_escape q s r h refl x) (items_closed h i)

pub string_before : {x b p : List ℕ} {e : Option ErrorCode} {pl : Option (List ℕ)} {how : Shown} → StringFault x e pl b p how → (b ≡ []) ⊎ ((q : ℕ) × (u : List ℕ) × (escape_free : Bool) × Str (b ++ q ∷ []) u escape_free)
string_before (raw_terminator {q = q} {u = u} {escape_free = escape_free} r h i l) = inr (q, u, escape_free, quoted h (items_closed h i))
string_before (string_ends h i) = inl refl
string_before (StringFault.in_string_escape {q = q} {u = u} {escape_free = escape_free} h i f) = inr (q, u, escape_free, quoted h (items_closed h i))

named_before : {t : List ℕ} → Named t → (t ≡ []) ⊎ ((u : List ℕ) × (escape_free : Bool) × Ident t u escape_free)
named_before no_item_yet = inl refl
named_before (some_items {u = u} {escape_free = escape_free} i) = inr (u, escape_free, i)

pub name_before : {x b p : List ℕ} {e : Option ErrorCode} {pl : Option (List ℕ)} {how : Shown} → NameFault x e pl b p how → (b ≡ []) ⊎ ((u : List ℕ) × (escape_free : Bool) × Ident b u escape_free)
name_before (NameFault.in_name_escape k f) = named_before k
name_before (no_unicode_escape c r k n) = named_before k
name_before (escaped_no_start r u n) = inl refl
name_before (escaped_no_part {u = u} {escape_free = escape_free} r i v n) = inr (u, escape_free, i)
name_before (name_ends i) = inl refl
name_before (backslash_ends k) = inl refl

pub string_hopeless : {x b p s u : List ℕ} {escape_free : Bool} {e : Option ErrorCode} {pl : Option (List ℕ)} (z r : List ℕ) → StringFault x e pl b p by_char → Str s u escape_free → (b ++ p) ++ z ≡ s ++ r → ⊥
string_hopeless z r f a e = no_string_fault r a (string_moved _ (string_follows z f) e)

pub name_hopeless : {x b p s u : List ℕ} {escape_free : Bool} {e : Option ErrorCode} {pl : Option (List ℕ)} (z : List ℕ) (c : ℕ) (r : List ℕ) → NameFault x e pl b p by_char → Ident s u escape_free → goes_on_name c ≡ false → (b ++ p) ++ z ≡ s ++ c ∷ r → ⊥
name_hopeless z c r f a g e = no_name_fault c r a g (name_moved _ (name_follows z f) e)
