-- Names of ASCII are texts.
-- A promise rests on this.
use Rattle.std.proofs.Common.{◌≡◌, ℕ, zero, suc, Bool, true, ◌&&◌, List, [], ◌∷◌, arith}
use Rattle.std.specs.Char.{is_ascii}
use Rattle.std.specs.List.{list_all}
use Rattle.std.specs.Str.{IsAscii}
use Rattle.std.proofs.lemmas.Bool.{and_parts}
use Rattle.std.proofs.lemmas.Bool.Decides.{nat_tests}
use Rattle.std.proofs.lemmas.Str.{IsUtf8-from_ascii}
use Rattle.json5_fields.specs.Layouts.{all_differ}
use Rattle.json5_settings.specs.DescribedSchemas.{AreTexts}

ascii_more : (b : ℕ) (bs : List ℕ) → is_ascii b ≡ true → IsAscii bs → IsAscii (b ∷ bs)
ascii_more b bs h rest zero = grind (arith, nat_tests)
ascii_more b bs h rest (suc i) = rest i

ascii_text : (bytes : List ℕ) → list_all is_ascii bytes ≡ true → IsAscii bytes
ascii_text [] h = λ i. omega arith
ascii_text (b ∷ bs) h =
    let parts = and_parts (is_ascii b) (list_all is_ascii bs) h in
    ascii_more b bs parts.0 (ascii_text bs parts.1)

abbrev pub are_ascii : List (List ℕ) → Bool
are_ascii [] = true
are_ascii (n ∷ ns) = list_all is_ascii n && are_ascii ns

-- they are ASCII, and differ
abbrev pub fit_together : List (List ℕ) → Bool
fit_together names = are_ascii names && all_differ names

pub ascii_names : (ns : List (List ℕ)) → are_ascii ns ≡ true → AreTexts ns
ascii_names [] h = tt
ascii_names (n ∷ ns) h =
    let parts = and_parts (list_all is_ascii n) (are_ascii ns) h in
    (IsUtf8-from_ascii n (ascii_text n parts.0), ascii_names ns parts.1)
