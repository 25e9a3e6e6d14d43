-- Runs of bytes that JSON has as they are, are runs of such characters.
use Rattle.std.proofs.Common.{◌≡◌, ℕ, zero, suc, ◌+◌, ◌≤◌, drop, Bool, true, false, not, cond, ◌||◌, nat_lt, List, [], ◌∷◌, ◌++◌, refl, sym, ap, ◌∙◌, arith}
use Rattle.std.specs.Prelude.{◌==◌}
use Rattle.std.specs.List.{prefix_len}
use Rattle.std.specs.Str.{IsUtf8, chars, encode_utf8_all}
use Rattle.std.proofs.lemmas.Bool.Decides.{nat_tests}
use Rattle.std.proofs.lemmas.Str.{encodes-append, encodes-chars}
use lib.Bits.{bit_or}
use lib.Lanes.{top}
use Rattle.json5_grammar.specs.Language.Characters.{Each, no_char, char}
use Rattle.json5_tokens.specs.Scan.{SkipsAll}
use Rattle.json5_tokens.proofs.ByteSearch.{hit}
use Rattle.json5_tokens.proofs.RunBoundaries.{FailsAscii, OfChars, of_ascii}
use Rattle.json5_tokens.proofs.TextCuts.{Halves, parts_scalar}
use Rattle.json5_styles.specs.Json.{is_unescaped}
use Rattle.json5_styles.specs.JsonTexts.{json_escaped, json_escaped_all}
use Rattle.json5_styles.specs.JsonEscapes.{ends_unescaped, StandsBefore}

-- ---- the test of a run

fails_ascii : FailsAscii is_unescaped
fails_ascii c h = grind (arith, nat_tests)

pub unescaped_chars : OfChars is_unescaped is_unescaped
unescaped_chars = of_ascii is_unescaped fails_ascii

pub opposite : (x : ℕ) → is_unescaped x ≡ not (ends_unescaped x)
opposite x = grind (arith, nat_tests)

longer : (b : Bool) (n i m : ℕ) → suc i ≤ cond b (1 + n) 0 → (i ≤ n → n ≡ i + m) → cond b (1 + n) 0 ≡ suc i + m
longer true n i m h e = let k = e (omega (arith, h)) in omega (arith, k)
longer false n i m h e = absurd (omega (arith, h))

-- what follows a front of a run goes on with it
pub run_from : (q : ℕ → Bool) (d : List ℕ) (i : ℕ) → i ≤ prefix_len q d → prefix_len q d ≡ i + prefix_len q (drop i d)
run_from q d zero h = omega arith
run_from q [] (suc i) h = absurd (omega (arith, h))
run_from q (x ∷ d) (suc i) h = longer (q x) (prefix_len q d) i (prefix_len q (drop i d)) h (run_from q d i)

-- ---- a mask lane

abbrev pub below : ℕ → ℕ → ℕ
below x n = cond (nat_lt x n) 255 0

either_lane : (a b : Bool) → bit_or (cond a 255 0) (cond b 255 0) ≡ cond (a || b) 255 0
either_lane true true = refl
either_lane true false = refl
either_lane false true = refl
either_lane false false = refl

lane_test : (a : Bool) → top 7 (cond a 255 0) ≡ a
lane_test true = refl
lane_test false = refl

from_left : (a b c : Bool) → ((a || b) || c) ≡ (a || (b || c))
from_left true b c = refl
from_left false true c = refl
from_left false false c = refl

lanes : (a b c : Bool) → bit_or (bit_or (cond a 255 0) (cond b 255 0)) (cond c 255 0) ≡ cond ((a || b) || c) 255 0
lanes a b c = ap (λ z. bit_or z (cond c 255 0)) (either_lane a b) ∙ either_lane (a || b) c

pub unescaped_lane : (x : ℕ) → top 7 (bit_or (bit_or (below x 32) (hit x 34)) (hit x 92)) ≡ ends_unescaped x
unescaped_lane x = ap (top 7) (lanes (nat_lt x 32) (x == 34) (x == 92)) ∙ lane_test _ ∙ from_left (nat_lt x 32) (x == 34) (x == 92)

-- ---- what stands in a run

stands : (c : ℕ) → is_unescaped c ≡ true → json_escaped c ≡ c ∷ []
stands c h = grind (arith, nat_tests)

stand_all : (s : List ℕ) → Each is_unescaped s → json_escaped_all s ≡ s
stand_all [] no_char = refl
stand_all (c ∷ s) (char h e) = ap (λ l. l ++ json_escaped_all s) (stands c h) ∙ ap (λ l. c ∷ l) (stand_all s e)

pub stands_run : (t rest : List ℕ) → IsUtf8 t → IsUtf8 rest → SkipsAll is_unescaped t rest → StandsBefore t rest
stands_run t rest u v s =
    let halves : Halves t s.passed (chars rest) = record { is_text = u; split = s.split } in
    record {
      before = s.passed;
      scalars = (parts_scalar halves).0;
      bytes = sym (encodes-chars t u) ∙ ap encode_utf8_all s.split ∙ encodes-append s.passed (chars rest) ∙ ap (λ l. encode_utf8_all s.passed ++ l) (encodes-chars rest v);
      same = stand_all s.passed s.each;
      utf8 = v;
    }
