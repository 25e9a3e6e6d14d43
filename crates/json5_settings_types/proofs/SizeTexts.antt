-- Sizes that are read, and written.
use Rattle.std.proofs.Common.{◌≡◌, ◌∙◌, ◌<◌, ◌^◌, ℕ, Bool, true, false, List, Some, None, length, refl, sym, ap, arith, codes}
use Rattle.std.specs.Prelude.{◌==◌, nat_lt, if◌then◌else◌}
use Rattle.std.specs.Str.{IsAscii, chars}
use Rattle.std.proofs.lemmas.Bool.Decides.{nat_tests}
use Rattle.std.proofs.lemmas.Str.{IsUtf8-from_ascii, encodes-chars}
use Rattle.json5_de.specs.Convert.{text_of}
use Rattle.json5_de.specs.Refinement.{refined}
use Rattle.json5_ser.specs.EscapeFreeMarks.{marks}
use Rattle.json5_ser.specs.WrittenTrees.{text}
use Rattle.json5_settings_types.specs.Sizes.{IsSize, size_of, size_text, size_units}
use Rattle.json5_settings_types.specs.Sums.{amount_of, amount_text, sum_of}
use Rattle.json5_settings_types.proofs.SumLaws.{below}
use Rattle.json5_settings_types.proofs.SumsWritten.{plain_ascii}
use Rattle.json5_settings_types.proofs.Amounts.{amount_ascii, is_amount, reads_amount, some_amount, written_amount}

pub reads_size : (t : List ℕ) (n : ℕ) → IsSize t n → size_of t ≡ Some n
reads_size t n (amount, small) =
    let some = some_amount amount in
    let yes : nat_lt 0 (length t) ≡ true = grind (arith, nat_tests) in
    rw (yes, reads_amount amount refl small) refl

pub is_size : (t : List ℕ) (n : ℕ) → size_of t ≡ Some n → IsSize t n
is_size t n is = by (nat_lt 0 (length t)) refl is
  where
    by : (b : Bool) → nat_lt 0 (length t) ≡ b → (if b then amount_of size_units t else None) ≡ Some n → IsSize t n
    by true some same = is_amount size_units t n (below 0 (length t) some) same
    by false none same = absurd (cc)

pub of_some : (t : List ℕ) → 0 < length t → amount_of size_units t ≡ size_of t
of_some t some = let yes : nat_lt 0 (length t) ≡ true = grind (arith, nat_tests) in rw yes refl

pub in_units : (n : ℕ) → 0 < n → amount_text size_units n ≡ size_text n
in_units n some = let no_zero : (n == 0) ≡ false = grind (arith, nat_tests) in rw no_zero refl

zero_text : size_of (codes "0B") ≡ Some 0
unfolding amount_of sum_of
zero_text = refl

some_number : (n : ℕ) → (n == 0) ≡ false → 0 < n
some_number n is = grind (arith, nat_tests, is)

reads_written : (n : ℕ) → n < 2 ^ 64 → size_of (size_text n) ≡ Some n
reads_written n small = by (n == 0) refl
  where
    by : (b : Bool) → (n == 0) ≡ b → size_of (if b then codes "0B" else amount_text size_units n) ≡ Some n
    by true zero = let same : n ≡ 0 = grind (arith, nat_tests) in zero_text ∙ ap (λ k. Some k) (sym same)
    by false some = reads_size (amount_text size_units n) n (written_amount size_units n refl (some_number n some) small, small)

ascii : (n : ℕ) → n < 2 ^ 64 → IsAscii (size_text n)
ascii n small = by (n == 0)
  where
    by : (b : Bool) → IsAscii (if b then codes "0B" else amount_text size_units n)
    by true = plain_ascii (codes "0B") refl
    by false = amount_ascii size_units n refl small

pub reads_back : (n : ℕ) → n < 2 ^ 64 → refined text_of size_of (marks (text (chars (size_text n)))) ≡ Some n
reads_back n small = ap size_of (encodes-chars (size_text n) (IsUtf8-from_ascii (size_text n) (ascii n small))) ∙ reads_written n small
