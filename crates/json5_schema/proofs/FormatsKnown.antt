-- Steps that answers about formats cite.
use Rattle.std.proofs.Common.{◌≡◌, ℕ, Bool, true, false, List, Some, None, is_some, Result, Ok, Err, MatchResult, refl, sym}
use Rattle.std.specs.Str.{chars, IsUtf8}
use lib.Chars.{codes}
use Rattle.std.proofs.lemmas.Str.{encodes-chars}
use Rattle.json5_types.specs.declared.error.Error.{Error}
use Rattle.json5_types.specs.Errors.{LacksMemory}
use Rattle.json5_types.specs.ValueMeanings.{Datum, null, boolean, number, text, array, object, no_field, field}
use Rattle.json5_types.specs.ValueLookups.{fields_in}
use Rattle.json5_types.specs.ValueChanges.{inserted}
use Rattle.json5_schema.specs.Patterns.{matches}
use Rattle.json5_schema.specs.Formats.{expression_named, has_format}
use Rattle.json5_schema.specs.Conformance.{format_vocabulary, vocabulary_key, with_formats}

pub known_format : (r : Result Bool Error) (name t e : List ℕ) → IsUtf8 name → IsUtf8 t → Some e ≡ expression_named name → MatchResult r (λ b. b ≡ matches e t) LacksMemory → MatchResult r (λ b. b ≡ has_format (chars name) (chars t)) LacksMemory
known_format (Ok b) name t e u w known h = rw (encodes-chars name u, encodes-chars t w, ← known) h
known_format (Err f) name t e u w known h = h

pub unknown_format : (name u : List ℕ) → IsUtf8 name → None ≡ expression_named name → true ≡ has_format (chars name) u
unknown_format name u valid known = rw (encodes-chars name valid, ← known) refl

-- ---- the schema with the vocabulary

some_same : {A : Type 0} (x y : A) → Some x ≡ Some y → x ≡ y
some_same x y h = cc

pub vocabulary_made : (s v new : Datum) (bs : List ℕ) → inserted (chars bs) v s ≡ Some new → s ≡ object no_field → v ≡ boolean true → bs ≡ codes "https://json-schema.org/draft/2020-12/vocab/format-assertion"
    → new ≡ object (field format_vocabulary (boolean true) no_field)
vocabulary_made s v new bs h e k named = sym (some_same (object (field format_vocabulary (boolean true) no_field)) new (rw (e, k, named) at h))

put_there : (s y new : Datum) → inserted vocabulary_key y s ≡ Some new → y ≡ object (field format_vocabulary (boolean true) no_field) → new ≡ with_formats s
put_there (object fs) y new h e = sym (some_same _ new (rw e at h))
put_there null y new h e = absurd (cc)
put_there (boolean b) y new h e = absurd (cc)
put_there (number n) y new h e = absurd (cc)
put_there (text u) y new h e = absurd (cc)
put_there (array xs) y new h e = absurd (cc)

pub vocabulary_put : (s t y new : Datum) (bs : List ℕ) → inserted (chars bs) y t ≡ Some new → t ≡ s → bs ≡ codes "$vocabulary" → y ≡ object (field format_vocabulary (boolean true) no_field) → new ≡ with_formats s
vocabulary_put s t y new bs h e named k = put_there s y new (rw (e, named) at h) k

pub nothing_put : (s : Datum) → is_some (fields_in s) ≡ false → s ≡ with_formats s
nothing_put (object fs) h = absurd (cc)
nothing_put null h = refl
nothing_put (boolean b) h = refl
nothing_put (number n) h = refl
nothing_put (text u) h = refl
nothing_put (array xs) h = refl
