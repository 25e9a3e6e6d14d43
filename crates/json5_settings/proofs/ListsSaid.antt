-- Schemas of lists, options and names say what their types convert.
use Rattle.std.proofs.Common.{◌≡◌, ◌∙◌, ◌≤◌, ◌+◌, ℕ, zero, suc, Bool, true, false, ◌&&◌, ◌||◌, not, if◌then◌else◌, List, [], ◌∷◌, length, nat_le, nat_lt, nat_eq, refl, ap, sym, arith, Option, Some, None}
use Rattle.std.specs.Prelude.{is_some}
use Rattle.std.specs.Char.{encode_utf8}
use Rattle.std.specs.Cmp.Lexicographic.{pointwise, bytes_decides}
use Rattle.std.specs.List.{prefix_len}
use Rattle.std.specs.Str.{IsUtf8, all_scalars, bytes_eq, chars, encode_utf8_all}
use Rattle.std.proofs.lemmas.Bool.Decides.{nat_tests}
use Rattle.std.proofs.lemmas.Str.{chars-encodes, encodes-chars}
use Rattle.json5_grammar.specs.Language.Numbers.{Number}
use Rattle.json5_grammar.specs.Language.Trees.{Tree, Trees, null, boolean, number, text, array, object, no_more, more}
use Rattle.json5_grammar.specs.Model.Collections.{array_of, contents, both}
use Rattle.json5_types.specs.ValueMeanings.{Datum, Fields, Items, no_item, item}
use Rattle.json5_types.specs.ValueMeanings as datum
use Rattle.json5_read.specs.TreeMeanings.{datum_of, items_of}
use Rattle.json5_de.specs.Convert.{unit_of}
use Rattle.json5_de.specs.ConvertLists.{if_some, option_of}
use Rattle.json5_de.specs.Refinement.{if_more}
use Rattle.json5_fields.specs.Named.{one_named, value_at}
use Rattle.json5_schema.specs.Conformance.{Answers, conforming, unfolded, keywords_hold, count_conforming, is_within, each_item, is_among}
use Rattle.json5_settings.specs.DescribedSchemas.{Says, Sound, Plain, SoundElements, PlainElements, AreTexts, texts_of, null_schema, list_schema, option_schema, names_schema}
use Rattle.json5_settings.specs.AsciiNames.{are_ascii, ascii_names}
use Rattle.json5_settings.proofs.ValuesSaid.{once, after_one, null_says}

-- ---- schemas that all have to hold

abbrev pub all_hold : (Datum → Datum → Bool) → List (Datum × Datum) → Bool
all_hold test [] = true
all_hold test (p ∷ ps) = test p.0 p.1 && all_hold test ps

few : (test : Datum → Datum → Bool) (ps : List (Datum × Datum)) → count_conforming test ps ≤ length ps
few test [] = omega arith
few test (p ∷ ps) = by (test p.0 p.1) (few test ps)
  where
    by : (b : Bool) → count_conforming test ps ≤ length ps → (if b then suc (count_conforming test ps) else count_conforming test ps) ≤ suc (length ps)
    by true h = omega (arith, h)
    by false h = omega (arith, h)

counted : (c n : ℕ) → (nat_le (suc n) (suc c) && nat_le (suc c) (suc n)) ≡ (nat_le n c && nat_le c n)
counted c n = grind (arith, nat_tests)

uncounted : (c n : ℕ) → c ≤ n → (nat_le (suc n) c && nat_le c (suc n)) ≡ false
uncounted c n h = grind (arith, nat_tests)

pub all_within : (test : Datum → Datum → Bool) (ps : List (Datum × Datum)) → is_within test (length ps) (length ps) ps ≡ all_hold test ps
all_within test [] = refl
all_within test (p ∷ ps) = by (test p.0 p.1) (few test ps) (all_within test ps)
  where
    by : (b : Bool) → count_conforming test ps ≤ length ps → (nat_le (length ps) (count_conforming test ps) && nat_le (count_conforming test ps) (length ps)) ≡ all_hold test ps
        → (nat_le (suc (length ps)) (if b then suc (count_conforming test ps) else count_conforming test ps) && nat_le (if b then suc (count_conforming test ps) else count_conforming test ps) (suc (length ps))) ≡ (b && all_hold test ps)
    by true h rest = counted (count_conforming test ps) (length ps) ∙ rest
    by false h rest = uncounted (count_conforming test ps) (length ps) h

pub and_true : (b : Bool) → (b && true) ≡ b
and_true true = refl
and_true false = refl

-- ---- what a test says of the trees that a schema speaks of

abbrev pub Judges : {C : Type 0} → (Datum → Datum → Bool) → Fields → (Tree → Option C) → Type 0
Judges test kw convert = (t : Tree) → Sound t → Plain t → test (datum.object kw) (datum_of t) ≡ is_some (convert t)

pub judged : {C : Type 0} (kw : Fields) (convert : Tree → Option C) (says : Says kw convert) (n : ℕ) → says.steps ≤ n → (root : Datum) (v : Answers) → Judges (unfolded n v root conforming) kw convert
judged kw convert says n h root v t s p = says.verdict n h root v t s p

-- what holds after one unfolding more
pub after_more : {C : Type 0} (kw : Fields) (convert : Tree → Option C) (steps : ℕ) → ((n : ℕ) → steps ≤ n → (root : Datum) (v : Answers) (t : Tree) → Sound t → Plain t → keywords_hold (unfolded n v root) root kw kw (datum_of t) ≡ is_some (convert t)) → Says kw convert
after_more kw convert steps holds = record { steps = suc steps; verdict = by }
  where
    by : (n : ℕ) → suc steps ≤ n → (root : Datum) (v : Answers) (t : Tree) → Sound t → Plain t → unfolded n v root conforming (datum.object kw) (datum_of t) ≡ is_some (convert t)
    by zero h root v t s p = absurd (omega (arith, h))
    by (suc n) h root v t s p = once n v root kw (datum_of t) ∙ holds n (omega (arith, h)) root v t s p

-- ---- lists

list_array : (w : Answers) (root : Datum) (of : Fields) (xs : Items)
    → keywords_hold w root (list_schema of) (list_schema of) (datum.array xs) ≡ (is_within (w conforming) (length (each_item (datum.object of) xs)) (length (each_item (datum.object of) xs)) (each_item (datum.object of) xs) && true)
unfolding encode_utf8 chars
list_array w root of xs = refl

both_some : {C : Type 0} (o : Option C) (p : Option (List C)) → is_some (both o p) ≡ (is_some o && is_some p)
both_some None p = refl
both_some (Some c) None = refl
both_some (Some c) (Some cs) = refl

module _ {C : Type 0} (test : Datum → Datum → Bool) (kw : Fields) (convert : Tree → Option C) (judges : Judges test kw convert) where
  elements : (ts : Trees) → SoundElements ts → PlainElements ts → all_hold test (each_item (datum.object kw) (items_of ts)) ≡ is_some (contents convert ts)
  elements no_more s p = refl
  elements (more t ts) s p = rw (judges t s.0 p.0, elements ts s.1 p.1) (sym (both_some (convert t) (contents convert ts)))

list_holds : {C : Type 0} (w : Answers) (root : Datum) (of : Fields) (convert : Tree → Option C) → Judges (w conforming) of convert → (t : Tree) → Sound t → Plain t
    → keywords_hold w root (list_schema of) (list_schema of) (datum_of t) ≡ is_some (array_of (contents convert) t)
unfolding encode_utf8 chars
list_holds w root of convert judges (array ts) s p =
    list_array w root of (items_of ts) ∙ (and_true _ ∙ (all_within (w conforming) (each_item (datum.object of) (items_of ts)) ∙ elements (w conforming) of convert judges ts s p))
list_holds w root of convert judges null s p = refl
list_holds w root of convert judges (boolean b) s p = refl
list_holds w root of convert judges (number n) s p = refl
list_holds w root of convert judges (text u e) s p = refl
list_holds w root of convert judges (object ps) s p = refl

pub list_says : {C : Type 0} (of : Fields) (convert : Tree → Option C) → Says of convert → Says (list_schema of) (array_of (contents convert))
list_says of convert says = after_more (list_schema of) (array_of (contents convert)) says.steps (λ n h root v t s p. list_holds (unfolded n v root) root of convert (judged of convert says n h root v) t s p)

-- ---- options

either : (a b : Bool) → ((nat_le 1 (if a then suc (if b then suc 0 else 0) else (if b then suc 0 else 0)) && nat_le (if a then suc (if b then suc 0 else 0) else (if b then suc 0 else 0)) 2) && true) ≡ (a || b)
either true true = refl
either true false = refl
either false true = refl
either false false = refl

option_choice : (w : Answers) (root : Datum) (of : Fields) (x : Datum) → keywords_hold w root (option_schema of) (option_schema of) x ≡ (w conforming (datum.object null_schema) x || w conforming (datum.object of) x)
unfolding encode_utf8 chars
option_choice w root of x = either (w conforming (datum.object null_schema) x) (w conforming (datum.object of) x)

pub made : {A B : Type 0} (f : A → B) (o : Option A) → is_some o ≡ is_some (if_some f o)
made f None = refl
made f (Some a) = refl

option_some : {C : Type 0} (convert : Tree → Option C) (t : Tree) → (is_some (unit_of t) || is_some (convert t)) ≡ is_some (option_of convert t)
option_some convert null = refl
option_some convert (boolean b) = made Some (convert (boolean b))
option_some convert (number n) = made Some (convert (number n))
option_some convert (text u e) = made Some (convert (text u e))
option_some convert (array ts) = made Some (convert (array ts))
option_some convert (object ps) = made Some (convert (object ps))

pub option_says : {C : Type 0} (of : Fields) (convert : Tree → Option C) → Says of convert → Says (option_schema of) (option_of convert)
option_says of convert says = after_more (option_schema of) (option_of convert) (null_says.steps + says.steps) (λ n h root v t s p.
    option_choice (unfolded n v root) root of (datum_of t)
    ∙ rw (judged null_schema unit_of null_says n (omega (arith, h)) root v t s p, judged of convert says n (omega (arith, h)) root v t s p) (option_some convert t))

-- ---- names

-- by their characters, and by their bytes
pub same_name : (u name : List ℕ) → all_scalars u ≡ true → IsUtf8 name → pointwise nat_eq u (chars name) ≡ bytes_eq name (encode_utf8_all u)
same_name u name scalars utf8 = by (pointwise nat_eq u (chars name)) (bytes_eq name (encode_utf8_all u)) refl refl
  where
    by : (a b : Bool) → pointwise nat_eq u (chars name) ≡ a → bytes_eq name (encode_utf8_all u) ≡ b → a ≡ b
    by true true h k = refl
    by false false h k = refl
    by true false h k =
        let same : u ≡ chars name = (bytes_decides u (chars name)).0 h in
        let bytes : name ≡ encode_utf8_all u = sym (encodes-chars name utf8) ∙ ap encode_utf8_all (sym same) in
        sym ((bytes_decides name (encode_utf8_all u)).1 bytes) ∙ k
    by false true h k =
        let bytes : name ≡ encode_utf8_all u = (bytes_decides name (encode_utf8_all u)).0 k in
        let same : u ≡ chars name = sym (chars-encodes u scalars) ∙ ap chars (sym bytes) in
        sym h ∙ (bytes_decides u (chars name)).1 same

abbrev is_one_of : List (List ℕ) → List ℕ → Bool
is_one_of [] bytes = false
is_one_of (n ∷ ns) bytes = bytes_eq n bytes || is_one_of ns bytes

among : (u : List ℕ) (names : List (List ℕ)) → all_scalars u ≡ true → AreTexts names → is_among (datum.text u) (texts_of names) ≡ is_one_of names (encode_utf8_all u)
among u [] s texts = refl
among u (n ∷ ns) s texts = rw (same_name u n s texts.0, among u ns s texts.1) refl

-- the value at the first of them
abbrev chosen : {T : Type 0} → List T → ℕ → ℕ → Option T
chosen values k n = if_more (value_at values) (if nat_lt k n then Some k else None)

chosen_later : {T : Type 0} (v : T) (values : List T) (k n : ℕ) → is_some (chosen (v ∷ values) (suc k) (suc n)) ≡ is_some (chosen values k n)
chosen_later v values k n = by (nat_lt k n) (nat_lt (suc k) (suc n)) (grind (arith, nat_tests))
  where
    by : (a b : Bool) → b ≡ a → is_some (if_more (value_at (v ∷ values)) (if b then Some (suc k) else None)) ≡ is_some (if_more (value_at values) (if a then Some k else None))
    by true true h = refl
    by false false h = refl
    by true false h = absurd (cc)
    by false true h = absurd (cc)

chosen_name : {T : Type 0} (bytes : List ℕ) (names : List (List ℕ)) (values : List T) → length values ≡ length names
    → is_one_of names bytes ≡ is_some (chosen values (prefix_len (λ name. not (bytes_eq name bytes)) names) (length names))
chosen_name bytes [] values long = refl
chosen_name bytes (n ∷ ns) [] long = absurd (omega (arith, long))
chosen_name bytes (n ∷ ns) (v ∷ vs) long = by (bytes_eq n bytes) (chosen_name bytes ns vs (omega (arith, long)))
  where
    first : (n : ℕ) → nat_lt 0 (suc n) ≡ true
    first n = grind (arith, nat_tests)

    by : (b : Bool) → is_one_of ns bytes ≡ is_some (chosen vs (prefix_len (λ name. not (bytes_eq name bytes)) ns) (length ns))
        → (b || is_one_of ns bytes) ≡ is_some (chosen (v ∷ vs) (if not b then 1 + prefix_len (λ name. not (bytes_eq name bytes)) ns else 0) (suc (length ns)))
    by true rest = rw (first (length ns)) refl
    by false rest =
        let k = prefix_len (λ name. not (bytes_eq name bytes)) ns in
        let more : suc k ≡ 1 + k = omega arith in
        rest ∙ (sym (chosen_later v vs k (length ns)) ∙ ap (λ m. is_some (chosen (v ∷ vs) m (suc (length ns)))) more)

names_enum : (w : Answers) (root : Datum) (names : List (List ℕ)) (x : Datum) → keywords_hold w root (names_schema names) (names_schema names) x ≡ (is_among x (texts_of names) && true)
unfolding encode_utf8 chars
names_enum w root names x = refl

none_null : (names : List (List ℕ)) → is_among datum.null (texts_of names) ≡ false
none_null [] = refl
none_null (n ∷ ns) = none_null ns

none_boolean : (b : Bool) (names : List (List ℕ)) → is_among (datum.boolean b) (texts_of names) ≡ false
none_boolean b [] = refl
none_boolean b (n ∷ ns) = none_boolean b ns

none_number : (n : Number) (names : List (List ℕ)) → is_among (datum.number n) (texts_of names) ≡ false
none_number m [] = refl
none_number m (n ∷ ns) = none_number m ns

none_array : (xs : Items) (names : List (List ℕ)) → is_among (datum.array xs) (texts_of names) ≡ false
none_array xs [] = refl
none_array xs (n ∷ ns) = none_array xs ns

none_object : (fs : Fields) (names : List (List ℕ)) → is_among (datum.object fs) (texts_of names) ≡ false
none_object fs [] = refl
none_object fs (n ∷ ns) = none_object fs ns

names_hold : {T : Type 0} (names : List (List ℕ)) (values : List T) → AreTexts names → length values ≡ length names → (t : Tree) → Sound t → is_among (datum_of t) (texts_of names) ≡ is_some (one_named names values t)
names_hold names values texts long (text u e) s = among u names s texts ∙ chosen_name (encode_utf8_all u) names values long
names_hold names values texts long null s = none_null names
names_hold names values texts long (boolean b) s = none_boolean b names
names_hold names values texts long (number n) s = none_number n names
names_hold names values texts long (array ts) s = none_array (items_of ts) names
names_hold names values texts long (object ps) s = none_object _ names

pub names_say : {T : Type 0} (names : List (List ℕ)) (values : List T) → AreTexts names → length values ≡ length names → Says (names_schema names) (one_named names values)
names_say names values texts long = after_one (names_schema names) (one_named names values) (λ w root t s p. names_enum w root names (datum_of t) ∙ (and_true _ ∙ names_hold names values texts long t s))

pub ascii_names_say : {T : Type 0} (names : List (List ℕ)) (values : List T) → are_ascii names ≡ true → length values ≡ length names → Says (names_schema names) (one_named names values)
ascii_names_say names values ascii long = names_say names values (ascii_names names ascii) long
