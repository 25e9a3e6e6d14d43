-- Counting units of UTF-16 up to the end of a text.
use Rattle.std.proofs.Common.{◌≡◌, ◌≤◌, ◌<◌, ℕ, ◌+◌, Bool, true, false, ◌||◌, nat_lt, if◌then◌else◌, List, [], ◌∷◌, Option, ◌++◌, length, take, drop, IsUtf8, refl, ap, sym, ◌∙◌, subst, arith, take-append-drop}
use Rattle.std.specs.Prelude.{sum_by}
use Rattle.std.specs.List.{list_any}
use Rattle.std.specs.Char.{encode_utf8, len_utf8}
use Rattle.std.specs.Str.{chars}
use Rattle.std.proofs.lemmas.Bool.{or_parts}
use Rattle.std.proofs.lemmas.Bool.Decides.{nat_tests}
use Rattle.std.proofs.lemmas.List.{length-append}
use Rattle.std.proofs.lemmas.List.Sums.{sum_by-cons}
use Rattle.std.proofs.lemmas.Str.{IsUtf8-past_char, IsUtf8-take, chars-append, chars_past_char, length-encode}
use Rattle.std.proofs.StrCases.{chars_of_empty}
use Rattle.json5_grammar.specs.Language.Characters.{is_terminator}
use Rattle.json5_grammar.specs.Faults.Positions.{column_of}
use Rattle.json5_grammar.specs.declared.position.Position.{Position}
use Rattle.json5_tokens.specs.Places.{IsOffsetIn, FindsColumn, AreUnitsOfLine, utf16_width}

-- how many units are in the line where the characters end, if so many come before them in its line
abbrev pub utf16_units : ℕ → List ℕ → ℕ
utf16_units n [] = n
utf16_units n (c ∷ s) = utf16_units (if is_terminator c then 0 else n + utf16_width c) s

-- ---- the units counted are those of the line

plain_column : (s : List ℕ) → list_any is_terminator s ≡ false → length s ≡ column_of s
plain_column [] h = refl
plain_column (c ∷ s) h = rw h refl

plain_units : (n : ℕ) (s : List ℕ) → list_any is_terminator s ≡ false → utf16_units n s ≡ n + sum_by utf16_width s
plain_units n [] h = omega arith
plain_units n (c ∷ s) h =
    let none = or_parts (is_terminator c) (list_any is_terminator s) h in
    let start : (if is_terminator c then 0 else n + utf16_width c) ≡ n + utf16_width c = rw none.0 refl in
    let rest = plain_units (n + utf16_width c) s none.1 in
    let all = sum_by-cons utf16_width c s in
    ap (λ m. utf16_units m s) start ∙ omega (arith, rest, all)

or_any : (b : Bool) → (b || true) ≡ true
or_any true = refl
or_any false = refl

abbrev CountsLine : ℕ → List ℕ → Type 0
CountsLine n s = (before line : List ℕ) × (s ≡ before ++ line) × (length line ≡ column_of s) × (utf16_units n s ≡ (if list_any is_terminator s then 0 else n) + sum_by utf16_width line)

-- the line begins behind the next terminators
units_behind : (n c : ℕ) (s : List ℕ) → list_any is_terminator s ≡ true → CountsLine (if is_terminator c then 0 else n + utf16_width c) s → CountsLine n (c ∷ s)
units_behind n c s k (before, line, split, size, count) =
    let some : list_any is_terminator (c ∷ s) ≡ true = rw k (or_any (is_terminator c)) in
    let here : (if list_any is_terminator s then 0 else (if is_terminator c then 0 else n + utf16_width c)) ≡ 0 = rw k refl in
    let there : (if list_any is_terminator (c ∷ s) then 0 else n) ≡ 0 = rw some refl in
    let size_here : column_of (c ∷ s) ≡ column_of s = rw some refl in
    (c ∷ before, line, ap (λ z. c ∷ z) split, size ∙ sym size_here, omega (arith, count, here, there))

-- it begins here, or goes on
units_here : (n c : ℕ) (s : List ℕ) (b : Bool) → is_terminator c ≡ b → list_any is_terminator s ≡ false → CountsLine n (c ∷ s)
units_here n c s true h k =
    let some : list_any is_terminator (c ∷ s) ≡ true = rw h refl in
    let there : (if list_any is_terminator (c ∷ s) then 0 else n) ≡ 0 = rw some refl in
    let size_here : column_of (c ∷ s) ≡ column_of s = rw some refl in
    let again : utf16_units n (c ∷ s) ≡ utf16_units 0 s = ap (λ m. utf16_units m s) (rw h refl) in
    (c ∷ [], s, refl, plain_column s k ∙ sym size_here, again ∙ plain_units 0 s k ∙ omega (arith, there))
units_here n c s false h k =
    let none : list_any is_terminator (c ∷ s) ≡ false = rw (h, k) refl in
    let there : (if list_any is_terminator (c ∷ s) then 0 else n) ≡ n = rw none refl in
    ([], c ∷ s, refl, plain_column (c ∷ s) none, plain_units n (c ∷ s) none ∙ omega (arith, there))

units_next : (n c : ℕ) (s : List ℕ) (b : Bool) → list_any is_terminator s ≡ b → CountsLine (if is_terminator c then 0 else n + utf16_width c) s → CountsLine n (c ∷ s)
units_next n c s true k rest = units_behind n c s k rest
units_next n c s false k rest = units_here n c s (is_terminator c) refl k

line_units : (n : ℕ) (s : List ℕ) → CountsLine n s
line_units n [] = ([], [], refl, refl, omega arith)
line_units n (c ∷ s) = units_next n c s (list_any is_terminator s) refl (line_units (if is_terminator c then 0 else n + utf16_width c) s)

-- ---- the walk over the text

-- what was counted, what is left, and that there is room for it
abbrev pub Units : List ℕ → List ℕ → ℕ → Type 0
Units text rest units = IsUtf8 rest × (utf16_units units (chars rest) ≡ utf16_units 0 (chars text)) × (units + length rest ≤ length text)

-- a character of two units takes four bytes
narrow : (c : ℕ) → utf16_width c ≤ len_utf8 c
narrow c = grind (arith, nat_tests)

shorter : (rest left : List ℕ) (c : ℕ) → rest ≡ encode_utf8 c ++ left → length rest ≡ len_utf8 c + length left
shorter rest left c split = ap length split ∙ length-append (encode_utf8 c) left ∙ ap (λ n. n + length left) (length-encode c)

next_units : (text rest left : List ℕ) (units next c : ℕ) → rest ≡ encode_utf8 c ++ left → next ≤ units + utf16_width c → next ≡ (if is_terminator c then 0 else units + utf16_width c) → Units text rest units → Units text left next
next_units text rest left units next c split small is (utf8, count, room) = (
  IsUtf8-past_char rest left c utf8 split,
  ap (λ n. utf16_units n (chars left)) is ∙ sym (ap (utf16_units units) (chars_past_char rest left c utf8 split)) ∙ count,
  omega (arith, shorter rest left c split, narrow c, room, small),
)

pub units_restart : (text rest left : List ℕ) (units c : ℕ) → rest ≡ encode_utf8 c ++ left → is_terminator c ≡ true → Units text rest units → Units text left 0
units_restart text rest left units c split ends u = next_units text rest left units 0 c split (omega arith) (rw ends refl) u

pub units_grow : (text rest left : List ℕ) (units width c : ℕ) → rest ≡ encode_utf8 c ++ left → is_terminator c ≡ false → width ≡ utf16_width c → Units text rest units → Units text left (units + width)
units_grow text rest left units width c split goes is u = next_units text rest left units (units + width) c split (omega (arith, is)) (ap (λ w. units + w) is ∙ rw goes refl) u

pub width_is : (c width : ℕ) → (c < 0x10000 → width ≡ 1) → (0x10000 ≤ c → width ≡ 2) → width ≡ utf16_width c
width_is c width bmp pair = decide (nat_lt c 0x10000) refl
  where
    decide : (b : Bool) → nat_lt c 0x10000 ≡ b → width ≡ utf16_width c
    decide true h = rw h (bmp (grind (arith, nat_tests)))
    decide false h = rw h (pair (grind (arith, nat_tests)))

none_before : (b : Bool) (n : ℕ) → n ≡ 0 → (if b then 0 else n) ≡ 0
none_before true n h = refl
none_before false n h = h

pub units_end : (text rest : List ℕ) (units : ℕ) → length rest ≡ 0 → Units text rest units → AreUnitsOfLine (chars text) units
units_end text rest units empty (utf8, count, room) =
    let (before, line, split, size, sums) = line_units 0 (chars text) in
    let counted : units ≡ utf16_units 0 (chars text) = ap (utf16_units units) (sym (chars_of_empty rest empty)) ∙ count in
    let none : (if list_any is_terminator (chars text) then 0 else 0) ≡ 0 = none_before (list_any is_terminator (chars text)) 0 refl in
    (before, line, split, size, omega (arith, counted, sums, none))

-- the column at an offset
pub column_found : (text front : List ℕ) (p : Position) (offset units : ℕ) → IsUtf8 text → IsOffsetIn text p offset → front ≡ take offset text → AreUnitsOfLine (chars front) units
    → FindsColumn text p (Option.Some units)
column_found text front p offset units utf8 found is counted = (chars (take offset text), chars (drop offset text), split, found.at, subst (λ t. AreUnitsOfLine (chars t) units) is counted)
  where
    split : chars text ≡ chars (take offset text) ++ chars (drop offset text)
    split = ap chars (sym (take-append-drop offset text)) ∙ chars-append (take offset text) (drop offset text) (IsUtf8-take text offset utf8 found.boundary)
