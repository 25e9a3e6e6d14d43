-- Schemas of fields, and of structs of them, say what the fields take.
use Rattle.std.proofs.Common.{◌≡◌, ◌∙◌, ◌≤◌, ◌+◌, ℕ, zero, suc, Bool, true, false, ◌&&◌, not, if◌then◌else◌, List, [], ◌∷◌, ◌++◌, length, nat_eq, refl, ap, sym, subst, arith, Option, Some, None, length-append}
use Rattle.std.specs.Prelude.{is_some}
use Rattle.std.specs.Char.{encode_utf8}
use Rattle.std.specs.Cmp.Lexicographic.{pointwise, bytes_decides}
use Rattle.std.specs.Str.{IsUtf8, all_scalars, bytes_eq, chars, encode_utf8_all}
use Rattle.std.proofs.lemmas.Bool.{and_parts}
use Rattle.std.proofs.lemmas.Str.{chars-encodes, encodes-chars, scalars-chars}
use Rattle.json5_grammar.specs.Language.Trees.{Tree, Members, null, boolean, number, text, array, object, no_more, more, no_member, member}
use Rattle.json5_grammar.specs.Model.Collections.{joint, object_of}
use Rattle.json5_types.specs.ValueLookups.{last_named, or_else}
use Rattle.json5_types.specs.ValueMeanings.{Datum, Fields, field, Items, item}
use Rattle.json5_types.specs.ValueMeanings as datum
use Rattle.json5_numbers.specs.Sameness.{is_named}
use Rattle.json5_read.specs.TreeMeanings.{datum_of, fields_of}
use Rattle.json5_de.specs.ConvertLists.{if_some}
use Rattle.json5_de.specs.Fields.{values_named, optional, required, or_value, with_default, and_field}
use Rattle.json5_de.specs.Refinement.{if_more}
use Rattle.json5_fields.specs.Layouts.{Layout, has_name, all_differ, and_layout, field_or, optional_field, required_field}
use Rattle.json5_fields.specs.Only.{all_named, only_these}
use Rattle.json5_schema.specs.Conformance.{Answers, conforming, unfolded, keywords_hold, is_within, by_name, with_value, has_names, latest, each_additional, is_additional}
use Rattle.json5_settings.specs.DescribedSchemas.{Describes, Says, SaysFields, SaysOpenStruct, SaysStruct, FieldKind, Sound, Plain, SoundMembers, PlainMembers, AreTexts, properties_of, required_of, open_struct_schema, struct_schema, is_given, are_given}
use Rattle.json5_settings.specs.AsciiNames.{are_ascii, ascii_names, fit_together}
use Rattle.json5_settings.proofs.ListsSaid.{after_more, all_hold, all_within, and_true, made}

-- ---- a name and a key

-- by their characters, and by their bytes
same_key : (u name : List ℕ) → all_scalars u ≡ true → IsUtf8 name → pointwise nat_eq u (chars name) ≡ bytes_eq (encode_utf8_all u) name
same_key u name scalars utf8 = by (pointwise nat_eq u (chars name)) (bytes_eq (encode_utf8_all u) name) refl refl
  where
    by : (a b : Bool) → pointwise nat_eq u (chars name) ≡ a → bytes_eq (encode_utf8_all u) name ≡ b → a ≡ b
    by true true h k = refl
    by false false h k = refl
    by true false h k =
        let same : u ≡ chars name = (bytes_decides u (chars name)).0 h in
        let bytes : encode_utf8_all u ≡ name = ap encode_utf8_all same ∙ encodes-chars name utf8 in
        sym ((bytes_decides (encode_utf8_all u) name).1 bytes) ∙ k
    by false true h k =
        let bytes : encode_utf8_all u ≡ name = (bytes_decides (encode_utf8_all u) name).0 k in
        let same : u ≡ chars name = sym (chars-encodes u scalars) ∙ ap chars bytes in
        sym h ∙ (bytes_decides u (chars name)).1 same

turned : (u v : List ℕ) → pointwise nat_eq u v ≡ pointwise nat_eq v u
turned u v = by (pointwise nat_eq u v) (pointwise nat_eq v u) refl refl
  where
    by : (a b : Bool) → pointwise nat_eq u v ≡ a → pointwise nat_eq v u ≡ b → a ≡ b
    by true true h k = refl
    by false false h k = refl
    by true false h k = sym ((bytes_decides v u).1 (sym ((bytes_decides u v).0 h))) ∙ k
    by false true h k = sym h ∙ (bytes_decides u v).1 (sym ((bytes_decides v u).0 k))

pub or_none : (o : Option Datum) → or_else o None ≡ o
or_none None = refl
or_none (Some x) = refl

-- ---- the value of a name, where no key stands twice

data Found (name : List ℕ) (ps : Members) : Type 0 where
  missing : values_named name ps ≡ no_more → last_named (chars name) (fields_of ps) ≡ None → Found name ps
  there : (t : Tree) → Sound t → Plain t → values_named name ps ≡ more t no_more → last_named (chars name) (fields_of ps) ≡ Some (datum_of t) → Found name ps

found : (name : List ℕ) → IsUtf8 name → (ps : Members) → SoundMembers ps → PlainMembers ps → Found name ps
found name utf8 no_member s p = missing refl refl
found name utf8 (member u escape_free t ps) s p = by (bytes_eq (encode_utf8_all u) name) refl (found name utf8 ps s.2 p.2)
  where
    same : pointwise nat_eq u (chars name) ≡ bytes_eq (encode_utf8_all u) name
    same = same_key u name s.0 utf8

    twice : (x : Datum) → pointwise nat_eq u (chars name) ≡ true → last_named (chars name) (fields_of ps) ≡ Some x → ⊥
    twice x is present =
        let key : u ≡ chars name = (bytes_decides u (chars name)).0 is in
        let new : is_named (chars name) (fields_of ps) ≡ false = subst (λ k. is_named k (fields_of ps) ≡ false) key p.0 in
        let seen : is_named (chars name) (fields_of ps) ≡ true = ap is_some present in
        absurd (cc)

    by : (b : Bool) → bytes_eq (encode_utf8_all u) name ≡ b → Found name ps → Found name (member u escape_free t ps)
    by true is (missing none absent) = let key = same ∙ is in there t s.1 p.1 (rw (is, none) refl) (rw (absent, key) refl)
    by true is (there x sound plain only present) = absurd (twice (datum_of x) (same ∙ is) present)
    by false is (missing none absent) = let key = same ∙ is in missing (rw is none) (rw key (or_none (last_named (chars name) (fields_of ps)) ∙ absent))
    by false is (there x sound plain only present) = let key = same ∙ is in there x sound plain (rw is only) (rw key (or_none (last_named (chars name) (fields_of ps)) ∙ present))

-- ---- one field

filled : {C : Type 0} (o : Option C) → is_some o ≡ is_some (if_more (λ p. p) (if_some Some o))
filled None = refl
filled (Some c) = refl

module _ {C : Type 0} (name : List ℕ) (utf8 : IsUtf8 name) (kw : Fields) (convert : Tree → Option C) (says : Says kw convert) where
  pub required_says : SaysFields (name ∷ []) (record { keywords = kw; is_required = true } ∷ []) (required name convert)
  required_says = record { steps = says.steps; one_each = refl; verdict = λ n h root v ps s p. by n h root v ps (found name utf8 ps s p) }
    where
      by : (n : ℕ) → says.steps ≤ n → (root : Datum) (v : Answers) (ps : Members) → Found name ps
          → are_given (unfolded n v root conforming) (name ∷ []) (record { keywords = kw; is_required = true } ∷ []) (fields_of ps) ≡ is_some (required name convert ps)
      by n h root v ps (missing none absent) = rw (absent, none) refl
      by n h root v ps (there t sound plain only present) = rw (present, only) (and_true _ ∙ (says.verdict n h root v t sound plain ∙ filled (convert t)))

  pub optional_says : SaysFields (name ∷ []) (record { keywords = kw; is_required = false } ∷ []) (optional name convert)
  optional_says = record { steps = says.steps; one_each = refl; verdict = λ n h root v ps s p. by n h root v ps (found name utf8 ps s p) }
    where
      by : (n : ℕ) → says.steps ≤ n → (root : Datum) (v : Answers) (ps : Members) → Found name ps
          → are_given (unfolded n v root conforming) (name ∷ []) (record { keywords = kw; is_required = false } ∷ []) (fields_of ps) ≡ is_some (optional name convert ps)
      by n h root v ps (missing none absent) = rw (absent, none) refl
      by n h root v ps (there t sound plain only present) = rw (present, only) (and_true _ ∙ (says.verdict n h root v t sound plain ∙ made Some (convert t)))

  pub default_says : (c : C) → SaysFields (name ∷ []) (record { keywords = kw; is_required = false } ∷ []) (with_default c name convert)
  default_says c = record { steps = optional_says.steps; one_each = refl; verdict = λ n h root v ps s p. optional_says.verdict n h root v ps s p ∙ made (or_value c) (optional name convert ps) }

-- ---- fields, and others

and_assoc : (a b c : Bool) → ((a && b) && c) ≡ (a && (b && c))
and_assoc true b c = refl
and_assoc false b c = refl

given_both : (test : Datum → Datum → Bool) (ns ms : List (List ℕ)) (ks ls : List FieldKind) (fs : Fields) → length ks ≡ length ns
    → are_given test (ns ++ ms) (ks ++ ls) fs ≡ (are_given test ns ks fs && are_given test ms ls fs)
given_both test [] ms [] ls fs long = refl
given_both test [] ms (k ∷ ks) ls fs long = absurd (omega (arith, long))
given_both test (n ∷ ns) ms [] ls fs long = absurd (omega (arith, long))
given_both test (n ∷ ns) ms (k ∷ ks) ls fs long =
    ap (λ b. is_given test k (last_named (chars n) fs) && b) (given_both test ns ms ks ls fs (omega (arith, long)))
    ∙ sym (and_assoc (is_given test k (last_named (chars n) fs)) (are_given test ns ks fs) (are_given test ms ls fs))

joint_some : {A B : Type 0} (o : Option A) (p : Option B) → (is_some o && is_some p) ≡ is_some (joint o p)
joint_some None p = refl
joint_some (Some a) None = refl
joint_some (Some a) (Some b) = refl

pub both_say : {A B : Type 0} (ns ms : List (List ℕ)) (ks ls : List FieldKind) (f : Members → Option A) (g : Members → Option B) → SaysFields ns ks f → SaysFields ms ls g → SaysFields (ns ++ ms) (ks ++ ls) (and_field f g)
both_say ns ms ks ls f g first second = record {
  steps = first.steps + second.steps;
  one_each = rw (length-append ks ls, length-append ns ms, first.one_each, second.one_each) refl;
  verdict = λ n h root v ps s p. given_both (unfolded n v root conforming) ns ms ks ls (fields_of ps) first.one_each
      ∙ rw (first.verdict n (omega (arith, h)) root v ps s p, second.verdict n (omega (arith, h)) root v ps s p) (joint_some (f ps) (g ps));
}

pub texts_first : (ns ms : List (List ℕ)) → AreTexts (ns ++ ms) → AreTexts ns
texts_first [] ms texts = tt
texts_first (n ∷ ns) ms texts = (texts.0, texts_first ns ms texts.1)

pub texts_second : (ns ms : List (List ℕ)) → AreTexts (ns ++ ms) → AreTexts ms
texts_second [] ms texts = texts
texts_second (n ∷ ns) ms texts = texts_second ns ms texts.1

pub both_describe : {S T A B : Type 0} (a : Layout S A) (b : Layout T B) (ks ls : List FieldKind) → Describes a ks → Describes b ls → Describes (and_layout a b) (ks ++ ls)
both_describe a b ks ls first second = record {
  one_each = rw (length-append ks ls, length-append a.names b.names, first.one_each, second.one_each) refl;
  says = λ texts. both_say a.names b.names ks ls a.convert b.convert (first.says (texts_first a.names b.names texts)) (second.says (texts_second a.names b.names texts));
}

-- ---- descriptions of one field

module _ {C : Type 0} (name : List ℕ) (kw : Fields) (convert : Tree → Option C) (says : Says kw convert) where
  pub required_describes : Describes (required_field name convert) (record { keywords = kw; is_required = true } ∷ [])
  required_describes = record { one_each = refl; says = λ texts. required_says name texts.0 kw convert says }

  pub optional_describes : Describes (optional_field name convert) (record { keywords = kw; is_required = false } ∷ [])
  optional_describes = record { one_each = refl; says = λ texts. optional_says name texts.0 kw convert says }

  pub default_describes : (c : C) → Describes (field_or c name convert) (record { keywords = kw; is_required = false } ∷ [])
  default_describes c = record { one_each = refl; says = λ texts. default_says name texts.0 kw convert says c }

-- ---- which names a schema has

either_some : (o : Option Datum) (b : Bool) (x : Datum) → is_some (or_else o (if b then Some x else None)) ≡ (if b then true else is_some o)
either_some None true x = refl
either_some None false x = refl
either_some (Some y) true x = refl
either_some (Some y) false x = refl

known : (ns : List (List ℕ)) (ks : List FieldKind) (u : List ℕ) → length ks ≡ length ns → AreTexts ns → all_scalars u ≡ true → is_named u (properties_of ns ks) ≡ has_name ns (encode_utf8_all u)
known [] [] u long texts s = refl
known [] (k ∷ ks) u long texts s = absurd (omega (arith, long))
known (n ∷ ns) [] u long texts s = absurd (omega (arith, long))
known (n ∷ ns) (k ∷ ks) u long texts s =
    either_some (last_named u (properties_of ns ks)) (pointwise nat_eq (chars n) u) (datum.object k.keywords)
    ∙ rw (turned (chars n) u, same_key u n s texts.0, known ns ks u (omega (arith, long)) texts.1 s) refl

first_new : (n : List ℕ) (ns : List (List ℕ)) → (if has_name ns n then false else all_differ ns) ≡ true → (has_name ns n ≡ false) × (all_differ ns ≡ true)
first_new n ns differ = by (has_name ns n) refl differ
  where
    by : (b : Bool) → has_name ns n ≡ b → (if b then false else all_differ ns) ≡ true → (has_name ns n ≡ false) × (all_differ ns ≡ true)
    by true is d = absurd (cc)
    by false is d = (is, d)

-- ---- the values of an object, and the names that it has to have

and_false : (b : Bool) → (b && false) ≡ false
and_false true = refl
and_false false = refl

one_given : (test : Datum → Datum → Bool) (c : List ℕ) (fs : Fields) (kw : Fields) (r : Bool) (o : Option Datum) (qs : List (Datum × Datum)) (names : Items) → last_named c fs ≡ o
    → (all_hold test (with_value (datum.object kw) o qs) && has_names (if r then item (datum.text c) names else names) fs)
    ≡ (is_given test (record { keywords = kw; is_required = r }) o && (all_hold test qs && has_names names fs))
one_given test c fs kw true None qs names is = rw is (and_false (all_hold test qs))
one_given test c fs kw true (Some x) qs names is = rw is (and_assoc (test (datum.object kw) x) (all_hold test qs) (has_names names fs))
one_given test c fs kw false None qs names is = refl
one_given test c fs kw false (Some x) qs names is = and_assoc (test (datum.object kw) x) (all_hold test qs) (has_names names fs)

given_all : (test : Datum → Datum → Bool) (ns : List (List ℕ)) (ks : List FieldKind) (fs : Fields) → length ks ≡ length ns → AreTexts ns → all_differ ns ≡ true
    → (all_hold test (by_name (properties_of ns ks) fs) && has_names (required_of ns ks) fs) ≡ are_given test ns ks fs
given_all test [] [] fs long texts differ = refl
given_all test [] (k ∷ ks) fs long texts differ = absurd (omega (arith, long))
given_all test (n ∷ ns) [] fs long texts differ = absurd (omega (arith, long))
given_all test (n ∷ ns) (k ∷ ks) fs long texts differ =
    let rest : length ks ≡ length ns = omega (arith, long) in
    let apart = first_new n ns differ in
    let new : is_named (chars n) (properties_of ns ks) ≡ false = known ns ks (chars n) rest texts.1 (scalars-chars n texts.0) ∙ ap (has_name ns) (encodes-chars n texts.0) ∙ apart.0 in
    rw new (one_given test (chars n) fs k.keywords k.is_required (last_named (chars n) fs) (by_name (properties_of ns ks) fs) (required_of ns ks) refl
    ∙ ap (λ b. is_given test k (last_named (chars n) fs) && b) (given_all test ns ks fs rest texts.1 apart.1))

-- ---- no others

pub all_latest : (ps : Members) → PlainMembers ps → latest (fields_of ps) ≡ fields_of ps
all_latest no_member p = refl
all_latest (member u escape_free t ps) p = rw (p.0, all_latest ps p.2) refl

additional_is : (ns : List (List ℕ)) (ks : List FieldKind) (u : List ℕ) → is_additional (struct_schema ns ks) u ≡ (not (is_named u (properties_of ns ks)) && true)
unfolding chars
additional_is ns ks u = refl

no_others : (test : Datum → Datum → Bool) → ((x : Datum) → test (datum.boolean false) x ≡ false) → (ns : List (List ℕ)) (ks : List FieldKind) → length ks ≡ length ns → AreTexts ns → (ps : Members) → SoundMembers ps
    → all_hold test (each_additional (datum.boolean false) (struct_schema ns ks) (fields_of ps)) ≡ all_named ns ps
no_others test none ns ks long texts no_member s = refl
no_others test none ns ks long texts (member u escape_free t ps) s = by (has_name ns (encode_utf8_all u)) (additional_is ns ks u ∙ ap (λ b. not b && true) (known ns ks u long texts s.0)) (no_others test none ns ks long texts ps s.2)
  where
    others : List (Datum × Datum)
    others = each_additional (datum.boolean false) (struct_schema ns ks) (fields_of ps)

    by : (b : Bool) → is_additional (struct_schema ns ks) u ≡ (not b && true) → all_hold test (each_additional (datum.boolean false) (struct_schema ns ks) (fields_of ps)) ≡ all_named ns ps
        → all_hold test (if is_additional (struct_schema ns ks) u then (datum.boolean false, datum_of t) ∷ each_additional (datum.boolean false) (struct_schema ns ks) (fields_of ps) else each_additional (datum.boolean false) (struct_schema ns ks) (fields_of ps)) ≡ (if b then all_named ns ps else false)
    by true is rest = rw is rest
    by false is rest = rw (is, none (datum_of t)) refl

-- ---- structs

struct_object : (w : Answers) (root : Datum) (ns : List (List ℕ)) (ks : List FieldKind) (fs : Fields) → keywords_hold w root (struct_schema ns ks) (struct_schema ns ks) (datum.object fs)
    ≡ (is_within (w conforming) (length (by_name (properties_of ns ks) fs)) (length (by_name (properties_of ns ks) fs)) (by_name (properties_of ns ks) fs)
    && (has_names (required_of ns ks) fs
    && (is_within (w conforming) (length (each_additional (datum.boolean false) (struct_schema ns ks) (latest fs))) (length (each_additional (datum.boolean false) (struct_schema ns ks) (latest fs))) (each_additional (datum.boolean false) (struct_schema ns ks) (latest fs)) && true)))
unfolding encode_utf8 chars
struct_object w root ns ks fs = refl

open_object : (w : Answers) (root : Datum) (ns : List (List ℕ)) (ks : List FieldKind) (fs : Fields) → keywords_hold w root (open_struct_schema ns ks) (open_struct_schema ns ks) (datum.object fs)
    ≡ (is_within (w conforming) (length (by_name (properties_of ns ks) fs)) (length (by_name (properties_of ns ks) fs)) (by_name (properties_of ns ks) fs) && (has_names (required_of ns ks) fs && true))
unfolding encode_utf8 chars
open_object w root ns ks fs = refl

none_false : (n : ℕ) (v : Answers) (root x : Datum) → unfolded (suc n) v root conforming (datum.boolean false) x ≡ false
unfolding unfolded
none_false n v root x = refl

arranged : {D : Type 0} (p r a : Bool) (o : Option D) → (p && r) ≡ is_some o → (p && (r && (a && true))) ≡ is_some (if a then o else None)
arranged true true true o h = h
arranged true true false o h = refl
arranged true false true o h = h
arranged true false false o h = refl
arranged false r true o h = h
arranged false r false o h = refl

module _ {S D : Type 0} (l : Layout S D) (ks : List FieldKind) (texts : AreTexts l.names) (differ : all_differ l.names ≡ true) (says : SaysFields l.names ks l.convert) where
  members_given : (n : ℕ) → says.steps ≤ n → (root : Datum) (v : Answers) (ps : Members) → SoundMembers ps → PlainMembers ps
      → (all_hold (unfolded n v root conforming) (by_name (properties_of l.names ks) (fields_of ps)) && has_names (required_of l.names ks) (fields_of ps)) ≡ is_some (l.convert ps)
  members_given n h root v ps s p = given_all (unfolded n v root conforming) l.names ks (fields_of ps) says.one_each texts differ ∙ says.verdict n h root v ps s p

  struct_holds : (n : ℕ) → suc says.steps ≤ n → (root : Datum) (v : Answers) (t : Tree) → Sound t → Plain t
      → keywords_hold (unfolded n v root) root (struct_schema l.names ks) (struct_schema l.names ks) (datum_of t) ≡ is_some (object_of (only_these l) t)
  unfolding encode_utf8 chars
  struct_holds zero h root v t s p = absurd (omega (arith, h))
  struct_holds (suc n) h root v (object ps) s p =
      let test = unfolded (suc n) v root conforming in
      let others : all_hold test (each_additional (datum.boolean false) (struct_schema l.names ks) (latest (fields_of ps))) ≡ all_named l.names ps =
      ap (λ fs. all_hold test (each_additional (datum.boolean false) (struct_schema l.names ks) fs)) (all_latest ps p) ∙ no_others test (none_false n v root) l.names ks says.one_each texts ps s in
      struct_object (unfolded (suc n) v root) root l.names ks (fields_of ps)
      ∙ (rw (all_within test (by_name (properties_of l.names ks) (fields_of ps)), all_within test (each_additional (datum.boolean false) (struct_schema l.names ks) (latest (fields_of ps))), others)
      (arranged (all_hold test (by_name (properties_of l.names ks) (fields_of ps))) (has_names (required_of l.names ks) (fields_of ps)) (all_named l.names ps) (l.convert ps) (members_given (suc n) (omega (arith, h)) root v ps s p)))
  struct_holds (suc n) h root v null s p = refl
  struct_holds (suc n) h root v (boolean b) s p = refl
  struct_holds (suc n) h root v (number m) s p = refl
  struct_holds (suc n) h root v (text u e) s p = refl
  struct_holds (suc n) h root v (array ts) s p = refl

  pub struct_says : Says (struct_schema l.names ks) (object_of (only_these l))
  struct_says = after_more (struct_schema l.names ks) (object_of (only_these l)) (suc says.steps) struct_holds

  open_holds : (n : ℕ) → says.steps ≤ n → (root : Datum) (v : Answers) (t : Tree) → Sound t → Plain t
      → keywords_hold (unfolded n v root) root (open_struct_schema l.names ks) (open_struct_schema l.names ks) (datum_of t) ≡ is_some (object_of l.convert t)
  unfolding encode_utf8 chars
  open_holds n h root v (object ps) s p =
      open_object (unfolded n v root) root l.names ks (fields_of ps)
      ∙ (rw (all_within (unfolded n v root conforming) (by_name (properties_of l.names ks) (fields_of ps)), and_true (has_names (required_of l.names ks) (fields_of ps))) (members_given n h root v ps s p))
  open_holds n h root v null s p = refl
  open_holds n h root v (boolean b) s p = refl
  open_holds n h root v (number m) s p = refl
  open_holds n h root v (text u e) s p = refl
  open_holds n h root v (array ts) s p = refl

  pub open_says : Says (open_struct_schema l.names ks) (object_of l.convert)
  open_says = after_more (open_struct_schema l.names ks) (object_of l.convert) says.steps open_holds

-- ---- structs whose names fit

pub fitting_struct : {S D : Type 0} (l : Layout S D) (ks : List FieldKind) → fit_together l.names ≡ true → Describes l ks → SaysStruct l ks
fitting_struct l ks fit describes =
    let parts = and_parts (are_ascii l.names) (all_differ l.names) fit in
    let texts = ascii_names l.names parts.0 in
    struct_says l ks texts parts.1 (describes.says texts)

pub fitting_open : {S D : Type 0} (l : Layout S D) (ks : List FieldKind) → fit_together l.names ≡ true → Describes l ks → SaysOpenStruct l ks
fitting_open l ks fit describes =
    let parts = and_parts (are_ascii l.names) (all_differ l.names) fit in
    let texts = ascii_names l.names parts.0 in
    open_says l ks texts parts.1 (describes.says texts)
