-- Names of fields and variants in ASCII, which are written by their characters and read by their bytes.
use Rattle.std.proofs.Common.{◌≡◌, ◌<◌, ℕ, zero, suc, List, [], ◌∷◌, Bool, true, false, ◌&&◌, ◌||◌, refl, sym, subst, arith}
use Rattle.std.specs.Char.{is_ascii}
use Rattle.std.specs.List.{list_all}
use Rattle.std.specs.Str.{IsAscii, chars, encode_utf8_all}
use Rattle.std.proofs.lemmas.Bool.Decides.{nat_tests}
use Rattle.std.proofs.lemmas.Str.{chars-IsAscii, encodes-chars, IsUtf8-from_ascii}
use Rattle.json5_grammar.specs.Written.Quoting.{is_name}
use Rattle.json5_ser.specs.EscapeFreeMarks.{is_escape_free_key, is_escape_free_text}

both : (a b : Bool) → (a && b) ≡ true → (a ≡ true) × (b ≡ true)
both true b e = (refl, e)
both false b e = absurd (cc)

either : (a b : Bool) → b ≡ true → (a || b) ≡ true
either true b e = refl
either false b e = e

below : (c : ℕ) → is_ascii c ≡ true → c < 128
below c e = grind (arith, nat_tests)

all_below : (name : List ℕ) → list_all is_ascii name ≡ true → IsAscii name
all_below [] e i = omega arith
all_below (c ∷ cs) e zero = below c (both (is_ascii c) (list_all is_ascii cs) e).0
all_below (c ∷ cs) e (suc i) = all_below cs (both (is_ascii c) (list_all is_ascii cs) e).1 i

-- a name reads back: for a literal name the second argument is `refl`
pub name_back : (name : List ℕ) → list_all is_ascii name ≡ true → encode_utf8_all (chars name) ≡ name
name_back name e = encodes-chars name (IsUtf8-from_ascii name (all_below name e))

-- it is written without an escape; for a literal name the second and the third argument are `refl`
pub plain_name : (name : List ℕ) → list_all is_ascii name ≡ true → is_escape_free_text name ≡ true → is_escape_free_key (chars name) ≡ true
plain_name name e plain = subst (λ u. is_escape_free_key u ≡ true) (sym (chars-IsAscii name (all_below name e))) (either (is_name name) (is_escape_free_text name) plain)
