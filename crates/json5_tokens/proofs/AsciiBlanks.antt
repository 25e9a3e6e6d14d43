-- ASCII blanks in front of the input.
use Rattle.std.proofs.Common.{◌≡◌, ℕ, ◌<◌, ◌≤◌, Bool, true, false, subst, List, [], ◌∷◌, ◌++◌, length, drop, refl, ap, sym, ◌∙◌, arith}
use Rattle.std.specs.List.{prefix_len, take_while}
use Rattle.std.specs.Prelude.{◌==◌, slice_index}
use Rattle.std.specs.Str.{chars, IsUtf8}
use Rattle.std.proofs.lemmas.Str.{chars-nil, chars_past_char, encode_ascii}
use Rattle.json5_grammar.specs.Language.Blanks.{Solid}
use Rattle.json5_grammar.specs.Model.Reading.{got}
use Rattle.json5_grammar.proofs.BlanksRead.{skip_rest, begins_solid, printable_solid}
use Rattle.std.proofs.lemmas.List.{length-drop}
use Rattle.std.proofs.lemmas.Bool.Decides.{nat_tests}
use Rattle.json5_grammar.specs.Language.Characters.{is_in, is_blank, is_terminator, NotBegun, Each, no_char, char}
use Rattle.json5_grammar.specs.Model.ReadBlanks.{skip, between, Mode}
use Rattle.json5_grammar.specs.Model.ReadNumbers.{front_of, rest_of}
use Rattle.json5_grammar.proofs.CharacterTests.{front_each}
use Rattle.json5_tokens.specs.ByteRuns.{is_ascii_blank, is_in_line, is_line_part, is_no_star, BeginsSolid}
use Rattle.json5_types.proofs.AsciiRuns.{PassesAscii, chars_split, rest_cut, rest_shorter}
use Rattle.json5_tokens.proofs.BlankSteps.{blank_more, line_more, block_more}
use Rattle.json5_tokens.proofs.RunBoundaries.{stop_skips, line_chars, star_chars}

pub blank_is_ascii : PassesAscii is_ascii_blank
blank_is_ascii c h = grind (arith, nat_tests)

ascii_is_blank : (c : ℕ) → is_ascii_blank c ≡ true → is_blank c ≡ true
ascii_is_blank c h = grind (arith, nat_tests)

pass : (w x : List ℕ) → Each is_ascii_blank w → skip between (w ++ x) ≡ skip between x
pass [] x no_char = refl
pass (c ∷ w) x (char h e) = blank_more c (c ∷ (w ++ x)) (w ++ x) refl (ascii_is_blank c h) ∙ pass w x e

pub blanks_passed : (s r : List ℕ) (n : ℕ) → n ≡ length (take_while is_ascii_blank s) → r ≡ drop n s → skip between (chars s) ≡ skip between (chars r)
blanks_passed s r n e d =
    ap (skip between) (chars_split is_ascii_blank s blank_is_ascii)
    ∙ pass (front_of is_ascii_blank s) (chars (rest_of is_ascii_blank s)) (front_each is_ascii_blank s)
    ∙ ap (λ z. skip between (chars z)) (sym (d ∙ rest_cut is_ascii_blank s n e))

pub blanks_shorter : (s r : List ℕ) (n : ℕ) → n ≡ length (take_while is_ascii_blank s) → r ≡ drop n s → length r ≤ length s
blanks_shorter s r n e d = let k = rest_shorter is_ascii_blank s in let l = ap length (d ∙ rest_cut is_ascii_blank s n e) in omega (arith, k, l)

-- one space, and behind it none
pub one_blank : (s bytes : List ℕ) → bytes ≡ s → 1 < length bytes → slice_index bytes 0 ≡ 32 → 32 < slice_index bytes 1 → 1 ≡ prefix_len is_ascii_blank s
one_blank s [] e l f h = absurd (omega arith)
one_blank s (c ∷ []) e l f h = absurd (omega arith)
one_blank s (c ∷ d ∷ x) e l f h =
    let blank : is_ascii_blank c ≡ true = grind (arith, nat_tests) in
    let solid : is_ascii_blank d ≡ false = grind (arith, nat_tests) in
    rw (← e) (rw blank (rw solid refl))

-- ---- a solid character in front

-- at the end of a text nothing is passed over
pub at_end : (r : List ℕ) → length r ≡ 0 → skip between (chars r) ≡ got tt (chars r)
at_end [] e = skip_rest (chars []) (subst Solid (sym chars-nil) tt)
at_end (c ∷ r) e = absurd (omega (arith, e))

ascii_front : (r : List ℕ) → IsUtf8 r → 0 < length r → slice_index r 0 < 128 → (y : List ℕ) × (chars r ≡ slice_index r 0 ∷ y)
ascii_front [] u l h = absurd (omega arith)
ascii_front (b ∷ s) u l h = (chars s, chars_past_char (b ∷ s) s b u (ap (λ z. z ++ s) (sym (encode_ascii b h))))

-- a text that begins with a character from `!` to `~` that is no slash
pub at_solid_sign : (c : ℕ) (x y : List ℕ) → is_in 33 126 c ≡ true → (c == 47) ≡ false → x ≡ c ∷ y → skip between x ≡ got tt x
at_solid_sign c x y printable other e = skip_rest x (subst Solid (sym e) (begins_solid c y (printable_solid c printable other)))

pub at_solid_text : (r : List ℕ) → IsUtf8 r → BeginsSolid r → skip between (chars r) ≡ got tt (chars r)
at_solid_text r u k =
    let front = ascii_front r u k.some (let h = k.high in omega arith) in
    let printable : is_in 33 126 (slice_index r 0) ≡ true = grind (arith, nat_tests, k.low, k.high) in
    let other : (slice_index r 0 == 47) ≡ false = grind (arith, nat_tests, k.no_slash) in
    at_solid_sign (slice_index r 0) (chars r) front.0 printable other front.1

pub drop_shorter : (s r : List ℕ) (n : ℕ) → r ≡ drop n s → length r ≤ length s
drop_shorter s r n d = let k = length-drop n s in let l = ap length d in omega (arith, k, l)

-- a comment passes over the characters between text and rest, up to one that fails the test
pub record PassesOn (mode : Mode) (p : ℕ → Bool) (text rest : List ℕ) : Type 0 where
  pub passed : skip mode (chars text) ≡ skip mode (chars rest)
  pub shorter : length rest ≤ length text
  pub stops : NotBegun p (chars rest)

-- ---- in a comment up to the line's end

no_terminator : (c : ℕ) → is_line_part c ≡ true → is_terminator c ≡ false
no_terminator c h = grind (arith, nat_tests)

pass_line : (w x : List ℕ) → Each is_line_part w → skip Mode.line (w ++ x) ≡ skip Mode.line x
pass_line [] x no_char = refl
pass_line (c ∷ w) x (char h e) = line_more c (c ∷ (w ++ x)) (w ++ x) refl (no_terminator c h) ∙ pass_line w x e

pub line_run : (s r : List ℕ) (n : ℕ) → IsUtf8 s → n ≡ prefix_len is_in_line s → r ≡ drop n s → PassesOn Mode.line is_line_part s r
line_run s r n u e d =
    let k = stop_skips is_in_line is_line_part s r n line_chars u e d in
    record { passed = ap (skip Mode.line) k.split ∙ pass_line k.passed (chars r) k.each; shorter = drop_shorter s r n d; stops = k.stops }

-- ---- in a comment up to a star

star_from : (c : ℕ) → is_no_star c ≡ true → c ≡ 42 → ⊥
star_from c h e = grind (arith, nat_tests)

pass_block : (w x : List ℕ) → Each is_no_star w → skip Mode.block (w ++ x) ≡ skip Mode.block x
pass_block [] x no_char = refl
pass_block (c ∷ w) x (char h e) = block_more c (c ∷ (w ++ x)) (w ++ x) refl (star_from c h) ∙ pass_block w x e

pub star_run : (s r : List ℕ) (n : ℕ) → IsUtf8 s → n ≡ prefix_len is_no_star s → r ≡ drop n s → PassesOn Mode.block is_no_star s r
star_run s r n u e d =
    let k = stop_skips is_no_star is_no_star s r n star_chars u e d in
    record { passed = ap (skip Mode.block) k.split ∙ pass_block k.passed (chars r) k.each; shorter = drop_shorter s r n d; stops = k.stops }

pub star_there : (s x : List ℕ) (c : ℕ) → NotBegun is_no_star s → s ≡ c ∷ x → c ≡ 42
star_there s x c n e = let h : is_no_star c ≡ false = subst (NotBegun is_no_star) e n in grind (arith, nat_tests)
