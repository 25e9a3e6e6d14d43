-- Steps that answers about names of schemas cite.
use Rattle.std.proofs.Common.{◌≡◌, ◌∙◌, if◌then◌else◌, ℕ, Bool, true, false, List, ◌∷◌, Option, Some, None, is_some, String, string_bytes, nat_eq, refl, sym, ap}
use Rattle.std.specs.declared.alloc.Global.{Global}
use Rattle.std.specs.Borrow.{Bor}
use Rattle.std.specs.Cmp.Lexicographic.{pointwise}
use Rattle.std.specs.Str.{chars, IsUtf8, encode_utf8_all}
use Rattle.std.proofs.lemmas.Str.{encodes-chars}
use Rattle.json5_types.specs.declared.value.Value.{Value}
use Rattle.json5_types.specs.declared.value.Value as value
use Rattle.json5_types.specs.ValueMeanings.{Datum, null, boolean, number, text, array, object, Fields, value_of, fields_view}
use Rattle.json5_types.specs.ValueLookups.{or_else, items_in, fields_in}
use Rattle.json5_types.proofs.ValuesCompared.{view-String}
use Rattle.json5_schema.specs.Subschemas.{takes_schema, takes_named}
use Rattle.json5_schema.specs.Views.{part_view}
use Rattle.json5_schema.specs.Conformance.{is_fragment, is_anchor, is_id, has_anchor, anchored, anchored_in, anchored_through, anchored_named}
use Rattle.json5_numbers.specs.Sameness.{is_named}

-- ---- a text by its bytes

pub text_anchor : (n : Value) (s : String Global) (bs name : List ℕ) → n ≡ value.String s → bs ≡ string_bytes s → IsUtf8 bs → pointwise nat_eq bs name ≡ is_anchor name (Some (value_of n))
text_anchor n s bs name e b u =
    let back : encode_utf8_all (chars (string_bytes s)) ≡ bs = ap (λ (t : List ℕ). encode_utf8_all (chars t)) (sym b) ∙ encodes-chars bs u in
    rw (e, view-String s) (ap (λ (t : List ℕ). pointwise nat_eq t name) (sym back))

pub text_id : (n : Value) (s : String Global) (bs name : List ℕ) → n ≡ value.String s → bs ≡ string_bytes s → IsUtf8 bs → is_fragment name bs ≡ is_id name (Some (value_of n))
text_id n s bs name e b u =
    let back : encode_utf8_all (chars (string_bytes s)) ≡ bs = ap (λ (t : List ℕ). encode_utf8_all (chars t)) (sym b) ∙ encodes-chars bs u in
    rw (e, view-String s) (ap (is_fragment name) (sym back))

-- ---- an object

pub here_anchored : (s : Datum) (fs : Fields) (name : List ℕ) → s ≡ object fs → has_anchor name fs ≡ true → Some s ≡ anchored name s
here_anchored s fs name e h = rw (e, h) refl

pub inner_anchored : (s : Datum) (fs gs : Fields) (name : List ℕ) → s ≡ object fs → s ≡ object gs → has_anchor name fs ≡ false → anchored_in name gs ≡ anchored name s
inner_anchored s fs gs name e k h =
    let same : fs ≡ gs = cc in
    let none : has_anchor name gs ≡ false = ap (has_anchor name) (sym same) ∙ h in
    rw (k, none) refl

pub through_schema : (a : Datum) (fs : Fields) (name word : List ℕ) → a ≡ object fs → takes_schema word ≡ true → anchored name a ≡ anchored_through name word a
through_schema a fs name word e h = rw (e, h) refl

pub through_members : (a : Datum) (fs : Fields) (name word : List ℕ) → a ≡ object fs → takes_schema word ≡ false → (if takes_named word then anchored_named name fs else None) ≡ anchored_through name word a
through_members a fs name word e h = rw (e, h) refl

pub through_nothing : (a : Datum) (name word : List ℕ) → items_in a ≡ None → fields_in a ≡ None → None ≡ anchored_through name word a
through_nothing null name word h k = refl
through_nothing (boolean b) name word h k = refl
through_nothing (number n) name word h k = refl
through_nothing (text u) name word h k = refl
through_nothing (array xs) name word h k = absurd (cc)
through_nothing (object fs) name word h k = absurd (cc)

-- ---- the first keyword, and those after it

pub keyword_first : (name word : List ℕ) (f : String Global × Value) (fs after xs : List (String Global × Value)) (b : Bool) → xs ≡ f ∷ fs → after ≡ fs → word ≡ string_bytes f.0 → IsUtf8 word → is_named (chars word) (fields_view after) ≡ b
    → anchored_in name (fields_view xs) ≡ or_else (if b then None else anchored_through name word (value_of f.1)) (anchored_in name (fields_view fs))
keyword_first name word f fs after xs b e same w u named =
    let here : is_named (chars (string_bytes f.0)) (fields_view fs) ≡ b = ap (λ (t : List ℕ). is_named (chars t) (fields_view fs)) (sym w) ∙ (ap (λ (ys : List (String Global × Value)). is_named (chars word) (fields_view ys)) (sym same) ∙ named) in
    let back : encode_utf8_all (chars (string_bytes f.0)) ≡ word = ap (λ (t : List ℕ). encode_utf8_all (chars t)) (sym w) ∙ encodes-chars word u in
    rw (e, here, back) refl

pub found_first : (o : Option (Bor Value)) (other : Option Datum) → is_some o ≡ true → part_view o ≡ or_else (part_view o) other
found_first (Some x) other h = refl
found_first None other h = absurd (cc)

pub none_first : (o : Option (Bor Value)) (other : Option Datum) → is_some o ≡ false → or_else (part_view o) other ≡ other
none_first (Some x) other h = absurd (cc)
none_first None other h = refl

-- found in a member, unless one after it has the same key
pub kept_found : (kept through : Option Datum) (named : Bool) (a : Option Datum) → kept ≡ (if named then None else through) → through ≡ a → kept ≡ (if named then None else a)
kept_found kept through named a e h = e ∙ ap (λ o. if named then None else o) h
