-- Characters of ASCII in front of a text that pass a test, and the lanes that are tested for them.
use Rattle.std.proofs.Common.{◌≡◌, ◌≢◌, ℕ, Bool, true, false, not, ◌||◌, cond, eqb, List, [], ◌∷◌, ◌++◌, length, drop, refl, ap, sym, ◌∙◌, subst, arith}
use Rattle.std.specs.Prelude.{◌==◌}
use Rattle.std.specs.List.{prefix_len}
use Rattle.std.specs.Str.{chars, IsUtf8, IsCharBoundary}
use Rattle.std.proofs.lemmas.Bool.Decides.{nat_tests}
use lib.Bits.{bit_and}
use lib.Lanes.{top}
use Rattle.json5_grammar.specs.Language.Characters.{Begun, NotBegun, Each, char}
use Rattle.json5_grammar.specs.Model.ReadNumbers.{front_of, rest_of}
use Rattle.json5_grammar.proofs.CharacterTests.{front_each, rest_stops}
use Rattle.json5_grammar.proofs.FixedWidthLaws.{front_is}
use Rattle.json5_styles.specs.Json.{is_json_blank}
use Rattle.json5_tokens.specs.Scan.{SkipsAll}
use Rattle.json5_types.proofs.AsciiRuns.{PassesAscii, counted, chars_split, rest_cut, rest_chars, front_boundary}
use Rattle.json5_lexemes.specs.Plain.{is_opening, is_closing}
use Rattle.json5_lexemes.specs.PlainSteps.{begins_number, ends_blanks}

pub blank_is_ascii : PassesAscii is_json_blank
blank_is_ascii c h = grind (arith, nat_tests)

pub number_is_ascii : PassesAscii begins_number
number_is_ascii c h = grind (arith, nat_tests)

pub opening_is_ascii : PassesAscii is_opening
opening_is_ascii c h = grind (arith, nat_tests)

pub closing_is_ascii : PassesAscii is_closing
closing_is_ascii c h = grind (arith, nat_tests)

pub ascii_boundary : (p : ℕ → Bool) (s : List ℕ) (n : ℕ) → PassesAscii p → IsUtf8 s → n ≡ prefix_len p s → IsCharBoundary s n
ascii_boundary p s n a u e = front_boundary p s n a u (counted p s n e)

pub ascii_skips : (p : ℕ → Bool) (s r : List ℕ) (n : ℕ) → PassesAscii p → IsUtf8 s → n ≡ prefix_len p s → r ≡ drop n s → SkipsAll p s r
ascii_skips p s r n a u e d =
    let c : chars r ≡ chars (rest_of p s) = ap chars (d ∙ rest_cut p s n (counted p s n e)) in
    record {
      passed = front_of p s;
      split = chars_split p s a ∙ ap (λ z. front_of p s ++ z) (sym c);
      each = front_each p s;
      stops = subst (NotBegun p) (sym (c ∙ rest_chars p s a u)) (rest_stops p (chars s));
    }

pub none_in_front : (p : ℕ → Bool) (s : List ℕ) (n : ℕ) → PassesAscii p → IsUtf8 s → n ≡ prefix_len p s → n ≡ 0 → NotBegun p (chars s)
none_in_front p s n a u e z = (ascii_skips p s s 0 a u (sym z ∙ e) refl).stops

pub some_in_front : (p : ℕ → Bool) (s : List ℕ) (n : ℕ) → PassesAscii p → n ≡ prefix_len p s → n ≢ 0 → Begun p (chars s)
some_in_front p s n a e z = subst (Begun p) (sym (chars_split p s a)) (begun (front_of p s) (front_each p s) (counted p s n e ∙ ap length (sym (front_is p s))))
  where
    begun : (d : List ℕ) → Each p d → n ≡ length d → Begun p (d ++ chars (rest_of p s))
    begun [] w k = absurd (z k)
    begun (c ∷ d) (char h w) k = h

-- ---- runs that are seen 16 bytes at a time

twice : (b : Bool) → b ≡ not (not b)
twice true = refl
twice false = refl

pub blank_or_not : (x : ℕ) → is_json_blank x ≡ not (ends_blanks x)
blank_or_not x = twice (is_json_blank x)

-- the lane of a byte that is another
abbrev pub miss : ℕ → ℕ → ℕ
miss a b = cond (not (eqb a b)) 255 0

none_of_four : (a b c d : Bool) → top 7 (bit_and (bit_and (bit_and (cond (not a) 255 0) (cond (not b) 255 0)) (cond (not c) 255 0)) (cond (not d) 255 0)) ≡ not (a || (b || (c || d)))
none_of_four true true true true = refl
none_of_four true true true false = refl
none_of_four true true false true = refl
none_of_four true true false false = refl
none_of_four true false true true = refl
none_of_four true false true false = refl
none_of_four true false false true = refl
none_of_four true false false false = refl
none_of_four false true true true = refl
none_of_four false true true false = refl
none_of_four false true false true = refl
none_of_four false true false false = refl
none_of_four false false true true = refl
none_of_four false false true false = refl
none_of_four false false false true = refl
none_of_four false false false false = refl

pub solid_lane : (x : ℕ) → top 7 (bit_and (bit_and (bit_and (miss x 32) (miss x 9)) (miss x 10)) (miss x 13)) ≡ ends_blanks x
solid_lane x = none_of_four (x == 32) (x == 9) (x == 10) (x == 13)
