-- Durations that are read, and written.
use Rattle.std.proofs.Common.{◌≡◌, ◌∙◌, ◌<◌, ◌^◌, ℕ, Bool, true, false, List, Some, None, length, refl, sym, ap, arith, codes}
use Rattle.std.specs.Prelude.{◌==◌, nat_lt, if◌then◌else◌}
use Rattle.std.specs.Str.{IsAscii, chars}
use Rattle.std.proofs.lemmas.Bool.Decides.{nat_tests}
use Rattle.std.proofs.lemmas.Str.{IsUtf8-from_ascii, encodes-chars}
use Rattle.json5_de.specs.Convert.{text_of}
use Rattle.json5_de.specs.Refinement.{refined}
use Rattle.json5_ser.specs.EscapeFreeMarks.{marks}
use Rattle.json5_ser.specs.WrittenTrees.{text}
use Rattle.json5_settings_types.specs.Durations.{IsDuration, duration_of, duration_text, duration_units}
use Rattle.json5_settings_types.specs.Sums.{comes_to, parts_text, sum_of}
use Rattle.json5_settings_types.proofs.SumLaws.{comes_of, of_comes, below}
use Rattle.json5_settings_types.proofs.SumsWritten.{parts_ascii, parts_sum, plain_ascii, some_text}

pub reads_duration : (t : List ℕ) (n : ℕ) → IsDuration t n → duration_of t ≡ Some n
reads_duration t n (sum, some, small) =
    let yes : nat_lt 0 (length t) ≡ true = grind (arith, nat_tests) in
    rw (yes, comes_of duration_units t n sum refl small) refl

pub is_duration : (t : List ℕ) (n : ℕ) → duration_of t ≡ Some n → IsDuration t n
is_duration t n is = by (nat_lt 0 (length t)) refl is
  where
    by : (b : Bool) → nat_lt 0 (length t) ≡ b → (if b then comes_to duration_units 0 t else None) ≡ Some n → IsDuration t n
    by true some same = let (sum, small) = of_comes duration_units t n same in (sum, below 0 (length t) some, small)
    by false none same = absurd (cc)

zero_text : duration_of (codes "0s") ≡ Some 0
unfolding sum_of
zero_text = refl

reads_written : (n : ℕ) → n < 2 ^ 64 → duration_of (duration_text n) ≡ Some n
reads_written n small = by (n == 0) refl
  where
    by : (b : Bool) → (n == 0) ≡ b → duration_of (if b then codes "0s" else parts_text duration_units n) ≡ Some n
    by true zero = let same : n ≡ 0 = grind (arith, nat_tests) in zero_text ∙ ap (λ k. Some k) (sym same)
    by false some = let sum = parts_sum duration_units n refl small in reads_duration (parts_text duration_units n) n (sum, some_text sum some, small)

ascii : (n : ℕ) → n < 2 ^ 64 → IsAscii (duration_text n)
ascii n small = by (n == 0)
  where
    by : (b : Bool) → IsAscii (if b then codes "0s" else parts_text duration_units n)
    by true = plain_ascii (codes "0s") refl
    by false = parts_ascii duration_units n refl small

pub reads_back : (n : ℕ) → n < 2 ^ 64 → refined text_of duration_of (marks (text (chars (duration_text n)))) ≡ Some n
reads_back n small = ap duration_of (encodes-chars (duration_text n) (IsUtf8-from_ascii (duration_text n) (ascii n small))) ∙ reads_written n small
