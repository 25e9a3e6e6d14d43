-- Steps that answers cite: texts by their bytes, references, and results.
use Rattle.std.proofs.Common.{if◌then◌else◌, ◌≡◌, ◌≢◌, ◌∙◌, ◌<◌, ◌≤◌, ◌-◌, take, drop, ℕ, suc, zero, Bool, true, false, ◌||◌, List, [], ◌∷◌, length, Option, Some, None, Result, Ok, Err, MatchResult, ap, ap₂, sym, refl, subst, arith, ne_eqb, String, string_bytes}
use Rattle.std.specs.declared.alloc.Global.{Global}
use Rattle.std.specs.Str.{chars, IsUtf8, encode_utf8_all}
use Rattle.std.proofs.lemmas.Str.{encodes-chars}
use Rattle.std.proofs.lemmas.List.{length-drop, take_all}
use Rattle.json5_types.specs.declared.error.Error.{Error}
use Rattle.json5_types.specs.declared.value.Value.{Value}
use Rattle.json5_types.specs.declared.value.Value as value
use Rattle.json5_types.specs.ValueMeanings.{Datum, null, boolean, number, text, array, object, no_item, Fields, value_of, items_view}
use Rattle.json5_types.specs.ValueLookups.{boolean_of, fields_in}
use Rattle.json5_types.specs.Errors.{LacksMemory}
use Rattle.json5_types.proofs.ValuesCompared.{view-String}
use Rattle.json5_schema.specs.declared.keyword.Assertion.{Assertion}
use Rattle.json5_schema.specs.declared.keyword.Keyword.{Keyword}
use Rattle.json5_schema.specs.declared.keyword.Keyword.TheVariants as keyword
use Rattle.json5_schema.specs.declared.kind.Kind.{Kind}
use Rattle.json5_schema.specs.Keywords.{keyword_named, kind_named}
use Rattle.json5_schema.specs.Conformance.{is_patterned, is_of_kind, is_of_named, at_fragment, behind_sign, target_of, items_after, by_index, all_on, dependent_schemas, dependent_on, Asked, choice, settled, asserts, asks, Question, conforming, Answers, answers, satisfied, part_holds, keyword_holds, keywords_hold, schema_holds, unfolded, Conforms}
use Rattle.json5_numbers.specs.Sameness.{is_named}
use Rattle.json5_schema.specs.Patterns.{matches, fits}
use Rattle.json5_schema.specs.Views.{IsRefusal}
use Rattle.json5_schema.proofs.Conforming.{unfolded_more}

-- ---- texts by their bytes

pub named_text : (n : Value) (s : String Global) (bs : List ℕ) (k : Kind) (x : Datum) → n ≡ value.String s → bs ≡ string_bytes s → IsUtf8 bs → k ≡ kind_named bs → is_of_kind k x ≡ is_of_named (value_of n) x
named_text n s bs k x e b u named =
    let back : encode_utf8_all (chars (string_bytes s)) ≡ bs = ap (λ (t : List ℕ). encode_utf8_all (chars t)) (sym b) ∙ encodes-chars bs u in
    rw (e, view-String s) (ap (λ (l : Kind). is_of_kind l x) (named ∙ ap kind_named (sym back)))

pub fits_bytes : (p t : List ℕ) → IsUtf8 p → IsUtf8 t → matches p t ≡ fits (chars p) (chars t)
fits_bytes p t u w = sym (ap₂ matches (encodes-chars p u) (encodes-chars t w))

pub fits_result : (r : Result Bool Error) (p t : List ℕ) → IsUtf8 p → IsUtf8 t → MatchResult r (λ b. b ≡ matches p t) LacksMemory → MatchResult r (λ b. b ≡ fits (chars p) (chars t)) LacksMemory
fits_result (Ok b) p t u w h = h ∙ fits_bytes p t u w
fits_result (Err e) p t u w h = h

-- ---- patterns

pub patterned_by : (o : Option Datum) (x : Datum) (u : List ℕ) (r : Result Bool Error) → Some x ≡ o → MatchResult r (λ b. b ≡ is_patterned (Some x) u) LacksMemory → MatchResult r (λ b. b ≡ is_patterned o u) LacksMemory
patterned_by o x u r e h = subst (λ z. MatchResult r (λ b. b ≡ is_patterned z u) LacksMemory) e h

-- ---- references

pub no_sign : (bs : List ℕ) (root : Datum) → ((rest : List ℕ) → bs ≢ 35 ∷ rest) → behind_sign bs root ≡ None
no_sign [] root h = refl
no_sign (c ∷ s) root h = rw (ne_eqb c 35 (λ e. h s (ap (λ y. y ∷ s) e))) refl

pub past_sign : (bs rest : List ℕ) (root : Datum) → bs ≡ 35 ∷ rest → behind_sign bs root ≡ at_fragment rest root
past_sign bs rest root e = rw e refl

pub target_text : (n : Value) (s : String Global) (bs : List ℕ) (root : Datum) → n ≡ value.String s → bs ≡ string_bytes s → IsUtf8 bs → target_of root (value_of n) ≡ behind_sign bs root
target_text n s bs root e b u =
    let back : encode_utf8_all (chars (string_bytes s)) ≡ bs = ap (λ (t : List ℕ). encode_utf8_all (chars t)) (sym b) ∙ encodes-chars bs u in
    rw (e, view-String s) (ap (λ (t : List ℕ). behind_sign t root) back)

-- ---- a schema

at_depth : (n : ℕ) (v : Answers) (root : Datum) → 0 < n → unfolded n v root ≡ answers (unfolded (n - 1) v root) root
at_depth zero v root h = absurd (omega (arith, h))
at_depth (suc n) v root h = let e : suc n - 1 ≡ n = omega arith in rw e (unfolded_more n v root)

pub answered : (n : ℕ) (v : Answers) (root s x : Datum) (q : Question) → 0 < n → unfolded n v root q s x ≡ answers (unfolded (n - 1) v root) root q s x
answered n v root s x q h = ap (λ (w : Answers). w q s x) (at_depth n v root h)

boolean_holds : (s : Datum) (w : Answers) (root x : Datum) (b : Bool) → boolean_of s ≡ Some b → schema_holds w root s x ≡ b
boolean_holds (boolean a) w root x b e = cc
boolean_holds null w root x b e = absurd (cc)
boolean_holds (number m) w root x b e = absurd (cc)
boolean_holds (text u) w root x b e = absurd (cc)
boolean_holds (array ys) w root x b e = absurd (cc)
boolean_holds (object fs) w root x b e = absurd (cc)

object_holds : (s : Datum) (w : Answers) (root x : Datum) (fs : Fields) → fields_in s ≡ Some fs → schema_holds w root s x ≡ keywords_hold w root fs fs x
object_holds (object gs) w root x fs e = let k : gs ≡ fs = cc in ap (λ (hs : Fields). keywords_hold w root hs hs x) k
object_holds null w root x fs e = absurd (cc)
object_holds (boolean b) w root x fs e = absurd (cc)
object_holds (number m) w root x fs e = absurd (cc)
object_holds (text u) w root x fs e = absurd (cc)
object_holds (array ys) w root x fs e = absurd (cc)

other_holds : (s : Datum) (w : Answers) (root x : Datum) → boolean_of s ≡ None → fields_in s ≡ None → schema_holds w root s x ≡ true
other_holds null w root x h k = refl
other_holds (boolean b) w root x h k = absurd (cc)
other_holds (number m) w root x h k = refl
other_holds (text u) w root x h k = refl
other_holds (array ys) w root x h k = refl
other_holds (object fs) w root x h k = absurd (cc)

pub boolean_schema : (n : ℕ) (v : Answers) (root s x : Datum) (b : Bool) → 0 < n → boolean_of s ≡ Some b → unfolded n v root conforming s x ≡ b
boolean_schema n v root s x b h e = answered n v root s x conforming h ∙ boolean_holds s (unfolded (n - 1) v root) root x b e

pub other_schema : (n : ℕ) (v : Answers) (root s x : Datum) → 0 < n → boolean_of s ≡ None → fields_in s ≡ None → unfolded n v root conforming s x ≡ true
other_schema n v root s x h e k = answered n v root s x conforming h ∙ other_holds s (unfolded (n - 1) v root) root x e k

pub object_schema : (r : Result Bool Error) (n : ℕ) (root s x : Datum) (fs : Fields) → 0 < n → fields_in s ≡ Some fs
    → MatchResult r (λ b. (v : Answers) → keywords_hold (unfolded (n - 1) v root) root fs fs x ≡ b) IsRefusal → MatchResult r (λ b. (v : Answers) → unfolded n v root conforming s x ≡ b) IsRefusal
object_schema (Ok b) n root s x fs h e k = λ v. answered n v root s x conforming h ∙ object_holds s (unfolded (n - 1) v root) root x fs e ∙ k v
object_schema (Err f) n root s x fs h e k = k

-- ---- a keyword

keyword_asked : (w : Answers) (root a x : Datum) (key bytes : List ℕ) (all rest : Fields) (k : Keyword) (q : Asked) → is_named (chars key) rest ≡ false → IsUtf8 key → key ≡ bytes → k ≡ keyword_named key → q ≡ asks root all k a x
    → keyword_holds w root all (chars bytes) a rest x ≡ satisfied w root q
keyword_asked w root a x key bytes all rest k q h u same named asked =
    let e : keyword_named (encode_utf8_all (chars key)) ≡ k = ap keyword_named (encodes-chars key u) ∙ sym named in
    ap (λ (t : List ℕ). keyword_holds w root all (chars t) a rest x) (sym same)
    ∙ ap (λ (b : Bool). b || satisfied w root (asks root all (keyword_named (encode_utf8_all (chars key))) a x)) h
    ∙ ap (λ (l : Keyword). satisfied w root (asks root all l a x)) e ∙ ap (satisfied w root) (sym asked)

pub asked_keyword : (r : Result Bool Error) (n : ℕ) (root a x : Datum) (key bytes : List ℕ) (all rest : Fields) (k : Keyword) (q : Asked) → is_named (chars key) rest ≡ false → IsUtf8 key → key ≡ bytes → k ≡ keyword_named key → q ≡ asks root all k a x
    → MatchResult r (λ b. (v : Answers) → satisfied (unfolded n v root) root q ≡ b) IsRefusal → MatchResult r (λ b. (v : Answers) → keyword_holds (unfolded n v root) root all (chars bytes) a rest x ≡ b) IsRefusal
asked_keyword (Ok b) n root a x key bytes all rest k q h u same named asked holds = λ v. keyword_asked (unfolded n v root) root a x key bytes all rest k q h u same named asked ∙ holds v
asked_keyword (Err f) n root a x key bytes all rest k q h u same named asked holds = holds

-- one that says by itself whether it holds
pub asserted_keyword : (r : Result Bool Error) (n : ℕ) (root a x : Datum) (key bytes : List ℕ) (all rest : Fields) (k : Keyword) (j : Assertion) → is_named (chars key) rest ≡ false → IsUtf8 key → key ≡ bytes → k ≡ keyword_named key → k ≡ keyword.Assertion j
    → MatchResult r (λ b. b ≡ asserts root j a x) IsRefusal → MatchResult r (λ b. (v : Answers) → keyword_holds (unfolded n v root) root all (chars bytes) a rest x ≡ b) IsRefusal
asserted_keyword (Ok b) n root a x key bytes all rest k j h u same named is holds =
    λ v. keyword_asked (unfolded n v root) root a x key bytes all rest k (settled b) h u same named (rw is (ap settled holds))
asserted_keyword (Err f) n root a x key bytes all rest k j h u same named is holds = holds

pub passed_keyword : (n : ℕ) (v : Answers) (root a x : Datum) (key bytes : List ℕ) (all rest : Fields) (k : Keyword) → is_named (chars key) rest ≡ false → IsUtf8 key → key ≡ bytes → k ≡ keyword_named key → k ≡ keyword.Annotation
    → keyword_holds (unfolded n v root) root all (chars bytes) a rest x ≡ true
passed_keyword n v root a x key bytes all rest k h u same named is = keyword_asked (unfolded n v root) root a x key bytes all rest k (settled true) h u same named (rw is refl)

-- ---- a choice

pub chosen_then : (r : Result Bool Error) (n : ℕ) (root s x : Datum) (found t e : Option Datum) (holds : Bool) → found ≡ t → holds ≡ true → ((v : Answers) → unfolded n v root conforming s x ≡ holds)
    → MatchResult r (λ b. (v : Answers) → part_holds (unfolded n v root conforming) found x ≡ b) IsRefusal → MatchResult r (λ b. (v : Answers) → satisfied (unfolded n v root) root (choice s t e x) ≡ b) IsRefusal
chosen_then (Ok b) n root s x found t e holds is h k part = λ v.
    ap (λ (c : Bool). if c then part_holds (unfolded n v root conforming) t x else part_holds (unfolded n v root conforming) e x) (k v ∙ h) ∙ (ap (λ (o : Option Datum). part_holds (unfolded n v root conforming) o x) (sym is) ∙ part v)
chosen_then (Err f) n root s x found t e holds is h k part = part

pub chosen_else : (r : Result Bool Error) (n : ℕ) (root s x : Datum) (found t e : Option Datum) (holds : Bool) → found ≡ e → holds ≡ false → ((v : Answers) → unfolded n v root conforming s x ≡ holds)
    → MatchResult r (λ b. (v : Answers) → part_holds (unfolded n v root conforming) found x ≡ b) IsRefusal → MatchResult r (λ b. (v : Answers) → satisfied (unfolded n v root) root (choice s t e x) ≡ b) IsRefusal
chosen_else (Ok b) n root s x found t e holds is h k part = λ v.
    ap (λ (c : Bool). if c then part_holds (unfolded n v root conforming) t x else part_holds (unfolded n v root conforming) e x) (k v ∙ h) ∙ (ap (λ (o : Option Datum). part_holds (unfolded n v root conforming) o x) (sym is) ∙ part v)
chosen_else (Err f) n root s x found t e holds is h k part = part

-- ---- the whole

pub whole_schema : (r : Result Bool Error) (n : ℕ) (root x : Datum) → MatchResult r (λ b. (v : Answers) → unfolded n v root conforming root x ≡ b) IsRefusal → MatchResult r (λ b. Conforms root x b) IsRefusal
whole_schema (Ok b) n root x h = (n, h)
whole_schema (Err f) n root x h = h

-- ---- elements after some, and schemas of names

-- the elements from an index on, as a slice has them
pub items_from : (xs : List Value) (n : ℕ) → items_view (take (length xs - n) (drop n xs)) ≡ items_after n (items_view xs)
items_from xs n = let short : length (drop n xs) ≤ length xs - n = omega (arith, length-drop n xs) in ap items_view (take_all (length xs - n) (drop n xs) short) ∙ dropped xs n
  where
    dropped : (xs : List Value) (n : ℕ) → items_view (drop n xs) ≡ items_after n (items_view xs)
    dropped xs zero = refl
    dropped [] (suc n) = refl
    dropped (x ∷ xs) (suc n) = dropped xs n

pub nothing_after : (xs : List Value) (n : ℕ) → length xs ≤ n → no_item ≡ items_after n (items_view xs)
nothing_after [] zero h = refl
nothing_after [] (suc n) h = refl
nothing_after (x ∷ xs) zero h = absurd (omega (arith, h))
nothing_after (x ∷ xs) (suc n) h = nothing_after xs n (omega (arith, h))

pub dependents_asked : (s x : Datum) (ss fs : Fields) (ps : List (Datum × Datum)) → s ≡ object ss → x ≡ object fs → ps ≡ dependent_schemas ss fs x → all_on ps ≡ dependent_on s x
dependents_asked s x ss fs ps h k e = rw (h, k) (ap all_on (e ∙ ap (dependent_schemas ss fs) k))

no_pairs : (xs : List Value) → by_index (items_view xs) no_item ≡ []
no_pairs [] = refl
no_pairs (x ∷ xs) = refl

-- no pairs are left where the elements of one list are none
pub none_first : (xs ys : List Value) → length xs ≡ 0 → by_index (items_view xs) (items_view ys) ≡ []
none_first [] ys h = refl
none_first (x ∷ xs) ys h = absurd (omega (arith, h))

pub none_second : (xs ys : List Value) → length ys ≡ 0 → by_index (items_view xs) (items_view ys) ≡ []
none_second xs [] h = no_pairs xs
none_second xs (y ∷ ys) h = absurd (omega (arith, h))
