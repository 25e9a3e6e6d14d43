-- A fault above the last line of what was read stays, whatever follows.
use Rattle.std.proofs.Common.{◌≡◌, ◌&&◌, ◌==◌, not, if◌then◌else◌, ℕ, ◌+◌, ◌<◌, Bool, true, false, List, [], ◌∷◌, ◌++◌, refl, sym, ap, ◌∙◌, append-nil, Option, Some, arith}
use Rattle.std.proofs.lemmas.Bool.Decides.{nat_tests}
use Rattle.json5_grammar.specs.declared.error_code.ErrorCode.{ErrorCode}
use Rattle.json5_grammar.specs.Faults.{FaultAt, in_comment, value_missing, comma_missing, key_missing, colon_missing, in_word, in_number, in_a_string, in_a_name, FaultWhere, lifted, fault}
use Rattle.json5_grammar.specs.Faults.Codes.{Shown, by_char, by_end}
use Rattle.json5_grammar.specs.Faults.Fronts.{Bracket, Expects, of_array, of_object}
use Rattle.json5_grammar.specs.Faults.Positions.{begins_line_feed, line_of}
use Rattle.json5_grammar.specs.Faults.Tokens.{CommentFault, slash_ends, block_ends, NumberFault, number_word_ends, sign_ends, hexadecimal_ends, negative_too_large, not_a_literal, literal_overflows, DecimalRun, run, zero_run, run_at_end, null_word, true_word, false_word, WordFault, word_ends, EscapeFault, escape_ends, StringFault, string_ends, in_string_escape, NameFault, in_name_escape, name_ends, backslash_ends}
use Rattle.json5_grammar.specs.Language.Characters.{is_terminator, is_hex_digit, Each, no_char, char}
use Rattle.json5_grammar.specs.Language.Numbers.{Sign, no_sign, plus, minus, in_run, hex_start}
use Rattle.json5_grammar.proofs.CharacterTests.{begins_run_in_run, dot_or_e_in_run, Each-append, each_weaken}
use Rattle.json5_convert.specs.Streams.{is_of_end}

-- ---- characters of numbers end no line

abbrev InLine : List ℕ → Type 0
InLine = Each (λ d. not (is_terminator d))

run_in_line : (c : ℕ) → in_run c ≡ true → not (is_terminator c) ≡ true
run_in_line c h = grind (arith, nat_tests)

hex_in_line : (c : ℕ) → is_hex_digit c ≡ true → not (is_terminator c) ≡ true
hex_in_line c h = grind (arith, nat_tests)

start_in_line : (c : ℕ) → hex_start c ≡ true → not (is_terminator c) ≡ true
start_in_line c h = grind (arith, nat_tests)

sign_run : {s : List ℕ} {m : Bool} → Sign s m → Each in_run s
sign_run no_sign = no_char
sign_run plus = char refl no_char
sign_run minus = char refl no_char

run_each : {n : List ℕ} → DecimalRun n → Each in_run n
run_each (run {c = c} s b z e) = Each-append (sign_run s) (char (begins_run_in_run c b) e)
run_each (zero_run c s b e) = Each-append (sign_run s) (char refl (char (dot_or_e_in_run c b) e))

run_line : {n : List ℕ} → DecimalRun n → InLine n
run_line r = each_weaken (λ d. not (is_terminator d)) run_in_line (run_each r)

-- ---- lines

no_feed : (c : ℕ) → not (is_terminator c) ≡ true → (c == 10) ≡ false
no_feed c h = grind (arith, nat_tests)

no_step : (t b : Bool) (n : ℕ) → not t ≡ true → n ≡ 0 → (if t && b then 1 else 0) + n ≡ 0
no_step true b n h e = absurd (cc)
no_step false b n h e = let z : ◌≡◌ {A = ℕ} (if false && b then 1 else 0) 0 = refl in omega (arith, z, e)

no_lines : {x : List ℕ} → InLine x → (line_of x ≡ 0) × (begins_line_feed x ≡ false)
no_lines no_char = (refl, refl)
no_lines (char {c = c} {s = s} h e) = (no_step (is_terminator c) (not ((c == 13) && begins_line_feed s)) (line_of s) h (no_lines e).0, no_feed c h)

same_feed : (s x : List ℕ) → begins_line_feed x ≡ false → begins_line_feed (s ++ x) ≡ begins_line_feed s
same_feed [] x h = h
same_feed (c ∷ s) x h = refl

same_line : (f x : List ℕ) → line_of x ≡ 0 → begins_line_feed x ≡ false → line_of (f ++ x) ≡ line_of f
same_line [] x z h = z
same_line (c ∷ s) x z h =
    ap (λ k. (if is_terminator c && not ((c == 13) && k) then 1 else 0) + line_of (s ++ x)) (same_feed s x h)
    ∙ ap (λ n. (if is_terminator c && not ((c == 13) && begins_line_feed s) then 1 else 0) + n) (same_line s x z h)

-- ---- what the end alone shows

-- the text ends in what is at fault, without a line end
abbrev ToEnd : List ℕ → Option (List ℕ) → Type 0
ToEnd x place = (place ≡ Some []) × InLine x

number_to_end : {x p : List ℕ} {code : Option ErrorCode} {place : Option (List ℕ)} → NumberFault x code place p by_end → is_of_end code ≡ false → ToEnd x place
number_to_end (number_word_ends w p s d a b c e) k = absurd (cc)
number_to_end (sign_ends a) k = absurd (cc)
number_to_end (hexadecimal_ends s x a b) k = absurd (cc)
number_to_end (negative_too_large r h c x a b d e run_at_end) k = (refl, char refl (char refl (char (start_in_line x a) (Each-append (each_weaken (λ d. not (is_terminator d)) hex_in_line b) no_char))))
number_to_end (not_a_literal r n c a b run_at_end) k = (refl, Each-append (run_line a) no_char)
number_to_end (literal_overflows r s l i c a b d e run_at_end) k = (refl, Each-append (run_line a) no_char)

word_to_end : {x p : List ℕ} {code : Option ErrorCode} {place : Option (List ℕ)} → WordFault x code place p by_end → is_of_end code ≡ false → ToEnd x place
word_to_end (word_ends w p d null_word b c) k = absurd (cc)
word_to_end (word_ends w p d true_word b c) k = absurd (cc)
word_to_end (word_ends w p d false_word b c) k = absurd (cc)

comment_to_end : {x p : List ℕ} {code : Option ErrorCode} {place : Option (List ℕ)} → CommentFault x code place p by_end → is_of_end code ≡ false → ⊥
comment_to_end slash_ends k = absurd (cc)
comment_to_end (block_ends i) k = absurd (cc)

escape_to_end : {b : Bool} {x p : List ℕ} {code : Option ErrorCode} {place : Option (List ℕ)} → EscapeFault b x code place p by_end → is_of_end code ≡ false → ⊥
escape_to_end (escape_ends e) k = absurd (cc)

string_to_end : {x b p : List ℕ} {code : Option ErrorCode} {place : Option (List ℕ)} → StringFault x code place b p by_end → is_of_end code ≡ false → ⊥
string_to_end (string_ends a i) k = absurd (cc)
string_to_end (in_string_escape a i f) k = escape_to_end f k

name_to_end : {x b p : List ℕ} {code : Option ErrorCode} {place : Option (List ℕ)} → NameFault x code place b p by_end → is_of_end code ≡ false → ⊥
name_to_end (in_name_escape a f) k = escape_to_end f k
name_to_end (name_ends a) k = absurd (cc)
name_to_end (backslash_ends a) k = absurd (cc)

row_to_end : {limit : ℕ} {o : List Bracket} {a : Expects} {x b p : List ℕ} {code : Option ErrorCode} {place : Option (List ℕ)} → FaultAt limit o a x code place b p by_end
    → is_of_end code ≡ false → ToEnd x place
row_to_end (in_comment c) k = absurd (comment_to_end c k)
row_to_end (value_missing t) k = absurd (cc)
row_to_end (comma_missing of_array i) k = absurd (cc)
row_to_end (comma_missing of_object i) k = absurd (cc)
row_to_end key_missing k = absurd (cc)
row_to_end colon_missing k = absurd (cc)
row_to_end (in_word t w) k = word_to_end w k
row_to_end (in_number t w) k = number_to_end w k
row_to_end (in_a_string t w) k = absurd (string_to_end w k)
row_to_end (in_a_name w) k = absurd (name_to_end w k)

some_same : (f g : List ℕ) → Some f ≡ Some g → f ≡ g
some_same f g e = cc

pub shown_by_char : {Where : Expects → Type 0} {limit : ℕ} {x b p : List ℕ} {code : Option ErrorCode} {place : Option (List ℕ)} {shown : Shown} → FaultWhere Where limit x code place b p shown
    → is_of_end code ≡ false → (g : List ℕ) → place ≡ Some g → line_of g < line_of x → shown ≡ by_char
shown_by_char (fault {shown = by_char} h w t) k g e l = refl
shown_by_char (fault {f = f} {x = x} {o = o} {place = place} {shown = by_end} h w t) k g e l =
    let (at, line) = row_to_end t k in
    let (none, feed) = no_lines line in
    let here : f ++ [] ≡ g = some_same (f ++ []) g (sym (ap (λ z. lifted f o z) at) ∙ e) in
    let before : line_of g ≡ line_of f = ap line_of (sym here ∙ append-nil f) in
    let whole : line_of (f ++ x) ≡ line_of f = same_line f x none feed in
    absurd (omega (arith, before, whole, l))
