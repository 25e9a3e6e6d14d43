-- What is added to an object, and the text of one character.
use Rattle.std.proofs.Common.{◌≡◌, ℕ, List, [], ◌∷◌, ◌++◌, refl, sym, ap, ◌∙◌, append-nil, String, string_bytes}
use Rattle.std.specs.declared.alloc.Global.{Global}
use Rattle.std.specs.Char.{IsScalar, encode_utf8}
use Rattle.std.specs.Str.{chars}
use Rattle.std.proofs.lemmas.Str.{IsUtf8-encode, chars-nil, chars_past_char}
use Rattle.json5_types.specs.declared.value.Value.{Value}
use Rattle.json5_types.specs.ValueMeanings.{value_of, fields_view, field}
use Rattle.json5_macro.specs.Literals.{fields_then}

pub field_last : (fs : List (String Global × Value)) (f : String Global × Value) → fields_view (fs ++ f ∷ []) ≡ fields_then (fields_view fs) (chars (string_bytes f.0)) (value_of f.1)
field_last [] f = refl
field_last (g ∷ fs) f = ap (field (chars (string_bytes g.0)) (value_of g.1)) (field_last fs f)

pub one_char : (c : ℕ) → IsScalar c → chars (encode_utf8 c) ≡ c ∷ []
one_char c scalar = chars_past_char (encode_utf8 c) [] c (IsUtf8-encode c scalar) (sym (append-nil (encode_utf8 c))) ∙ ap (λ s. c ∷ s) chars-nil
