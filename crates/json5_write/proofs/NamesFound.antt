-- Identifiers, found character by character.
use Rattle.std.proofs.Common.{◌≡◌, ℕ, ◌<◌, List, [], ◌∷◌, ◌++◌, Bool, true, false, ◌&&◌, length, drop, refl, sym, ap, ◌∙◌, arith, inl, inr}
use Rattle.std.specs.Prelude.{nat_lt}
use Rattle.std.specs.List.{list_all, take_while}
use Rattle.std.proofs.lemmas.Bool.{and_parts, cases_lt, le-ltb, agree_below, agree_below_at}
use Rattle.std.proofs.lemmas.Bool.Decides.{nat_tests}
use Rattle.std.specs.Str.{chars, IsUtf8}
use Rattle.std.proofs.lemmas.Str.{chars-nil, chars_past_char}
use Rattle.json5_grammar.specs.Language.Characters.{is_identifier_start, is_identifier_part, Each, no_char, char}
use Rattle.json5_grammar.specs.Model.ReadNumbers.{rest_of}
use Rattle.json5_grammar.proofs.CharacterTests.{front_each}
use Rattle.json5_types.proofs.AsciiRuns.{PassesAscii, chars_split, rest_cut}
use Rattle.json5_tokens.specs.ByteRuns.{is_ascii_part}
use Rattle.json5_tokens.proofs.AsciiNames.{ascii_part}
use Rattle.json5_write.specs.NameBytes.{is_name_byte}
use Rattle.json5_grammar.specs.Written.Quoting.{is_name}
use Rattle.json5_write.specs.Escaping.{StartsWithScalar}

-- the characters begin with c
pub chars_from : (t rest : List ℕ) (c : ℕ) → IsUtf8 t → StartsWithScalar t c rest → chars t ≡ c ∷ chars rest
chars_from t rest c u s = chars_past_char t rest c u s.bytes

pub part_next : (t rest : List ℕ) (c : ℕ) (b : Bool) → IsUtf8 t → StartsWithScalar t c rest → b ≡ is_identifier_part c → b ≡ true → list_all is_identifier_part (chars t) ≡ list_all is_identifier_part (chars rest)
part_next t rest c b u s e h = ap (list_all is_identifier_part) (chars_from t rest c u s) ∙ ap (λ x. x && list_all is_identifier_part (chars rest)) (sym e ∙ h)

pub part_last : (t rest : List ℕ) (c : ℕ) (b : Bool) → IsUtf8 t → StartsWithScalar t c rest → b ≡ is_identifier_part c → b ≡ false → false ≡ list_all is_identifier_part (chars t)
part_last t rest c b u s e h = sym (ap (list_all is_identifier_part) (chars_from t rest c u s) ∙ ap (λ x. x && list_all is_identifier_part (chars rest)) (sym e ∙ h))

pub none_left : (t : List ℕ) → t ≡ [] → true ≡ list_all is_identifier_part (chars t)
none_left t e = sym (ap (λ s. list_all is_identifier_part (chars s)) e ∙ ap (list_all is_identifier_part) chars-nil)

pub name_started : (t rest : List ℕ) (c : ℕ) (b s : Bool) → IsUtf8 t → StartsWithScalar t c rest → b ≡ is_identifier_start c → b ≡ true → s ≡ list_all is_identifier_part (chars rest) → s ≡ is_name (chars t)
name_started t rest c b s u f e h g = g ∙ sym (ap is_name (chars_from t rest c u f) ∙ ap (λ x. x && list_all is_identifier_part (chars rest)) (sym e ∙ h))

pub name_not_started : (t rest : List ℕ) (c : ℕ) (b : Bool) → IsUtf8 t → StartsWithScalar t c rest → b ≡ is_identifier_start c → b ≡ false → b ≡ is_name (chars t)
name_not_started t rest c b u f e h = h ∙ sym (ap is_name (chars_from t rest c u f) ∙ ap (λ x. x && list_all is_identifier_part (chars rest)) (sym e ∙ h))

pub no_name : (t : List ℕ) → t ≡ [] → false ≡ is_name (chars t)
no_name t e = sym (ap (λ s. is_name (chars s)) e ∙ ap is_name chars-nil)

-- ---- the ASCII characters in front

-- a table that agrees with the ASCII characters of names
pub by_table : (table : ℕ → Bool) (c : ℕ) → c < 256 → agree_below table (λ x. nat_lt x 128 && is_ascii_part x) 256 ≡ true → table c ≡ is_name_byte c
by_table table c within agrees =
    agree_below_at table (λ x. nat_lt x 128 && is_ascii_part x) 256 c agrees within ∙ elim (cases_lt c 128) [
      | inl low ↦ ap (λ x. nat_lt c 128 && x) (sym (ascii_part c low))
      | inr high ↦ rw (le-ltb c 128 high) refl
    ]

pub name_ascii : PassesAscii is_name_byte
name_ascii c h = grind (arith, nat_tests)

part_of : (c : ℕ) → is_name_byte c ≡ true → is_identifier_part c ≡ true
part_of c h = (and_parts (nat_lt c 128) (is_identifier_part c) h).1

parts_all : {s : List ℕ} → Each is_name_byte s → (r : List ℕ) → list_all is_identifier_part (s ++ r) ≡ list_all is_identifier_part r
parts_all no_char r = refl
parts_all (char {c = c} {s = s} h e) r = ap (λ x. x && list_all is_identifier_part (s ++ r)) (part_of c h) ∙ parts_all e r

pub name_bytes : (t r : List ℕ) (n : ℕ) → n ≡ length (take_while is_name_byte t) → r ≡ drop n t → list_all is_identifier_part (chars t) ≡ list_all is_identifier_part (chars r)
name_bytes t r n e d =
    let cut : r ≡ rest_of is_name_byte t = d ∙ rest_cut is_name_byte t n e in
    ap (list_all is_identifier_part) (chars_split is_name_byte t name_ascii) ∙ parts_all (front_each is_name_byte t) (chars (rest_of is_name_byte t)) ∙ sym (ap (λ z. list_all is_identifier_part (chars z)) cut)
