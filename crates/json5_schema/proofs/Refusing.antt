-- Why a part isn't taken, and so the whole isn't.
use Rattle.std.proofs.Common.{◌≡◌, ◌⊎◌, ◌↔◌, ◌∙◌, ◌<◌, ◌≤◌, ◌+◌, ◌&&◌, ◌||◌, ℕ, zero, suc, Bool, true, false, not, List, [], ◌∷◌, length, get_or, drop, Result, Ok, Err, IfOk, IfErr, Some, None, String, string_bytes, inl, inr, refl, sym, ap, subst, arith, nat_eq}
use Rattle.std.specs.declared.alloc.Global.{Global}
use lib.Chars.{codes}
use Rattle.std.specs.Cmp.Lexicographic.{pointwise, same_text}
use Rattle.std.specs.Str.{chars, IsUtf8, encode_utf8_all}
use Rattle.std.specs.Str.Iter.{HasSubslice}
use Rattle.std.proofs.lemmas.Str.{encodes-chars}
use Rattle.regex.specs.declared.error.Error as regex
use Rattle.regex.specs.declared.error.Error.TheVariants as unread
use Rattle.regex.specs.Failures.{IsRightKind}
use Rattle.regex.specs.Patterns.{default_config}
use Rattle.regex.specs.Sources.{IsRefusal}
use Rattle.json5_types.specs.declared.value.Value.{Value}
use Rattle.json5_types.specs.declared.value.Value as value
use Rattle.json5_types.specs.ValueMeanings.{Datum, null, boolean, number, text, array, object, Fields, no_field, field, Items, no_item, item, value_of, items_view, fields_view}
use Rattle.json5_types.specs.ValueLookups.{boolean_of, items_in, fields_in, named_of, text_in}
use Rattle.json5_types.proofs.ValuesCompared.{view-String}
use Rattle.json5_types.proofs.LookedUp.{from_here}
use Rattle.json5_numbers.specs.Sameness.{is_named}
use Rattle.json5_schema.specs.declared.faults.Problem.{Problem}
use Rattle.json5_schema.specs.declared.faults.Problem.TheVariants as problem
use Rattle.json5_schema.specs.declared.faults.SchemaFault.{SchemaFault}
use Rattle.json5_schema.specs.declared.faults.SchemaFault.TheVariants as faults
use Rattle.json5_schema.specs.declared.looking.Rules.{Rules}
use Rattle.json5_schema.specs.declared.shape.Holding.{Holding}
use Rattle.json5_schema.specs.declared.shape.Holding.TheVariants as holding
use Rattle.json5_schema.specs.declared.shape.Shape.{Shape}
use Rattle.json5_schema.specs.declared.shape.Shape.TheVariants as shape
use Rattle.json5_schema.specs.Conformance.{asserts_formats, behind_sign}
use Rattle.json5_schema.specs.Patterns.{in_rust}
use Rattle.json5_schema.specs.Refusals.{asks_beside, begins_with_sign, gives, is_by_name, is_each, has_few_digits, inner, is_signed, times, times_among, times_at, times_named, IsLaterName, NamesDraft, is_followed, is_format, names_schema, shape_in, IsFaulty, beside, wrong, further, IsFaultySchema, IsFor, IsOfMemory, IsOfWhole, IsRefused, IsRefusedBy, IsRefusedFor, IsTextNot, IsWrong, LeadsOn, here, inside, LeadsTo, step, steps, Refers, RefusedFor, StandsInPlace}
use Rattle.json5_schema.specs.RefusalSteps.{members_by, CountsBeside, IsDraft, IsFaultyArgument, IsFaultyBy, IsFaultyKeyword, IsFaultyMember, IsFormatFault, IsKeyFault, IsNoFormat, IsNoName, IsNoReference, IsOfOldDraft, IsOfReference, IsOutOfShape, IsPatternFault, IsProblemOf, IsUnknownAmong, IsUnknownIn, IsUnknownNamed, IsUnknownThrough, LeadsAmong, LeadsBack, LeadsBy, LeadsNamed}
use Rattle.json5_schema.specs.Shapes.{are_named_schemas, are_schemas, are_schemas_or_names, holding_of, is_names, is_schema, IsElementOf, IsMemberOf}
use Rattle.json5_schema.specs.Subschemas.{alone, element, member, itself, takes_named, takes_schema, takes_schemas, within, IsElement, IsMember}
use Rattle.json5_schema.proofs.Knowing.{value_from}

-- ---- a fault

pub memory : (f : SchemaFault) (why : Problem → Type 0) → IsOfMemory f → IsFor why f
memory (faults.At place p) why h = absurd h
memory (faults.Value e) why h = h

pub because : (f : SchemaFault) (why : Problem → Type 0) (q : Problem) → IsFor (λ p. p ≡ q) f → why q → IsFor why f
because (faults.At place p) why q h k = subst why (sym h) k
because (faults.Value e) why q h k = h

pub widened : (f : SchemaFault) (P Q : Problem → Type 0) → ((p : Problem) → P p → Q p) → IsFor P f → IsFor Q f
widened (faults.At place p) P Q wider h = wider p h
widened (faults.Value e) P Q wider h = h

pub refused : {A : Type 0} (r : Result A SchemaFault) (P Q : Problem → Type 0) → ((p : Problem) → P p → Q p) → RefusedFor P r → RefusedFor Q r
refused (Ok x) P Q wider h = tt
refused (Err f) P Q wider h = widened f P Q wider h

-- ---- one of the elements, and of the members

pub element_at : (xs : List Value) (i : ℕ) (x : Value) → i < length xs → x ≡ get_or xs i x → IsElement (value_of x) (items_view xs)
element_at [] i x h is = absurd (omega (arith, h))
element_at (y ∷ ys) zero x h is = inl (ap value_of is)
element_at (y ∷ ys) (suc i) x h is = inr (element_at ys i x (omega (arith, h)) is)

pub member_at : (xs : List (String Global × Value)) (i : ℕ) (f : String Global × Value) → i < length xs → f ≡ get_or xs i f → IsMember (chars (string_bytes f.0)) (value_of f.1) (fields_view xs)
member_at [] i f h is = absurd (omega (arith, h))
member_at (g ∷ gs) zero f h is = inl (ap (λ (k : String Global × Value). chars (string_bytes k.0)) is, ap (λ (k : String Global × Value). value_of k.1) is)
member_at (g ∷ gs) (suc i) f h is = inr (member_at gs i f (omega (arith, h)) is)

spelled : (f : String Global × Value) (bytes : List ℕ) → bytes ≡ string_bytes f.0 → IsUtf8 bytes → bytes ≡ encode_utf8_all (chars (string_bytes f.0))
spelled f bytes b u = sym (ap (λ (t : List ℕ). encode_utf8_all (chars t)) (sym b) ∙ encodes-chars bytes u)

-- ---- texts by their bytes

pub text_bytes : (n : Value) (s : String Global) (bs : List ℕ) → n ≡ value.String s → bs ≡ string_bytes s → IsUtf8 bs → (value_of n ≡ text (chars bs)) × (encode_utf8_all (chars bs) ≡ bs)
text_bytes n s bs e b u = (ap value_of e ∙ view-String s ∙ ap (λ (t : List ℕ). text (chars t)) (sym b), encodes-chars bs u)

text_not : (test : List ℕ → Bool) (a : Datum) (bs : List ℕ) → (a ≡ text (chars bs)) × (encode_utf8_all (chars bs) ≡ bs) → test bs ≡ false → IsTextNot test a
text_not test a bs t off = (chars bs, t.0, ap test t.1 ∙ off)

-- ---- a pattern

pub pattern_fault : (bytes : List ℕ) (e : regex.Error) (p : Problem) → IsRefusal default_config (in_rust false bytes) e → IsRightKind default_config (in_rust false bytes) e → IsProblemOf e p → IsPatternFault bytes p
pattern_fault bytes (unread.Syntax x) p h k is = inl (is, (x.kind, h x refl))
pattern_fault bytes unread.CompiledTooBig p h k is = inr (is, k)
pattern_fault bytes unread.Internal p h k is = absurd is
pattern_fault bytes unread.OutOfMemory p h k is = absurd is

pub pattern_refused : (bytes : List ℕ) (f : SchemaFault) (e : regex.Error) → IsRefusal default_config (in_rust false bytes) e → IsRightKind default_config (in_rust false bytes) e → IsFor (IsProblemOf e) f → IsFor (IsPatternFault bytes) f
pattern_refused bytes f e h k it = widened f (IsProblemOf e) (IsPatternFault bytes) (λ p is. pattern_fault bytes e p h k is) it

pub key_fault : (xs : List (String Global × Value)) (i : ℕ) (f : String Global × Value) (bytes : List ℕ) (p : Problem) → i < length xs → f ≡ get_or xs i f → bytes ≡ string_bytes f.0 → IsUtf8 bytes
    → IsPatternFault bytes p → IsKeyFault (fields_view xs) p
key_fault xs i f bytes p h is b u k = (chars (string_bytes f.0), value_of f.1, member_at xs i f h is, subst (λ z. IsPatternFault z p) (spelled f bytes b u) k)

-- ---- an argument

pub at_reference : (strict : Bool) (name : List ℕ) (k : Shape) (n : Value) (s : String Global) (bs : List ℕ) (p : Problem) → k ≡ shape.Reference → n ≡ value.String s → bs ≡ string_bytes s → IsUtf8 bs → IsNoReference bs p → IsWrong strict name k (value_of n) p
at_reference strict name k n s bs p is e b u (q, off) = rw q (is, text_not is_followed (value_of n) bs (text_bytes n s bs e b u) off)

pub at_anchor : (strict : Bool) (name : List ℕ) (k : Shape) (n : Value) (s : String Global) (bs : List ℕ) (p : Problem) → k ≡ shape.Anchor → n ≡ value.String s → bs ≡ string_bytes s → IsUtf8 bs → IsNoName name bs p → IsWrong strict name k (value_of n) p
at_anchor strict name k n s bs p is e b u (q, off) = rw q (inl (sym is, inr (inl (is, text_not (names_schema name) (value_of n) bs (text_bytes n s bs e b u) off))))

pub at_pattern : (strict : Bool) (name : List ℕ) (k : Shape) (n : Value) (s : String Global) (bs : List ℕ) (p : Problem) → k ≡ shape.Pattern → n ≡ value.String s → bs ≡ string_bytes s → IsUtf8 bs → IsPatternFault bs p → IsWrong strict name k (value_of n) p
at_pattern strict name k n s bs p is e b u (inl (q, h)) = let t = text_bytes n s bs e b u in rw (q, is) (bs, (chars bs, t.0, sym t.1), h)
at_pattern strict name k n s bs p is e b u (inr (q, h)) = let t = text_bytes n s bs e b u in rw (q, is) (bs, (chars bs, t.0, sym t.1), h)

pub at_keys : (strict : Bool) (name : List ℕ) (k : Shape) (a : Datum) (fs : Fields) (p : Problem) → k ≡ shape.PatternSchemas → a ≡ object fs → IsKeyFault fs p → IsWrong strict name k a p
at_keys strict name k a fs p is e (u, s, there, inl (q, h)) = rw (q, is, e) (encode_utf8_all u, (u, s, there, refl), h)
at_keys strict name k a fs p is e (u, s, there, inr (q, h)) = rw (q, is, e) (encode_utf8_all u, (u, s, there, refl), h)

no_format : (strict : Bool) (name : List ℕ) (k : Shape) (a : Datum) (p : Problem) → IsNoFormat p → k ≡ shape.Format → strict ≡ true → IsTextNot is_format a → IsWrong strict name k a p
no_format strict name k a (problem.NoFormat likeliest) h is on off = (is, on, off)
no_format strict name k a _ h is on off = absurd h

pub at_format : (rules : Rules) (name : List ℕ) (k : Shape) (n : Value) (s : String Global) (bs : List ℕ) (p : Problem) → k ≡ shape.Format → n ≡ value.String s → bs ≡ string_bytes s → IsUtf8 bs → IsFormatFault rules bs p → IsWrong rules.is_strict name k (value_of n) p
at_format rules name k n s bs p is e b u (inl (bytes, named, inl (q, h))) = let t = text_bytes n s bs e b u in rw (q, is) (bytes, (chars bs, t.0, rw t.1 named), h)
at_format rules name k n s bs p is e b u (inl (bytes, named, inr (q, h))) = let t = text_bytes n s bs e b u in rw (q, is) (bytes, (chars bs, t.0, rw t.1 named), h)
at_format rules name k n s bs p is e b u (inr (h, on, off)) = no_format rules.is_strict name k (value_of n) p h is on (text_not is_format (value_of n) bs (text_bytes n s bs e b u) off)

pub at_divisor : (strict : Bool) (name : List ℕ) (k : Shape) (a : Datum) (p : Problem) → k ≡ shape.Divisor → (p ≡ problem.Expected shape.Divisor) × (has_few_digits a ≡ false) → IsWrong strict name k a p
at_divisor strict name k a p is (q, off) = rw q (inl (sym is, inr (inr (is, off))))

pub out_of_shape : (strict : Bool) (name : List ℕ) (k : Shape) (a : Datum) (p : Problem) → IsOutOfShape k a p → IsWrong strict name k a p
out_of_shape strict name k a p (inl (q, is)) = rw q is
out_of_shape strict name k a p (inr (q, off)) = rw q (inl (refl, inl off))

pub signed_text : (n : Value) (s : String Global) (bs : List ℕ) → n ≡ value.String s → bs ≡ string_bytes s → IsUtf8 bs → begins_with_sign bs ≡ is_signed (value_of n)
signed_text n s bs e b u = let t = text_bytes n s bs e b u in rw (t.0, t.1) refl

-- ---- members with a text

pub given : (n : Value) (s : String Global) (key bs name bytes : List ℕ) → n ≡ value.String s → bs ≡ string_bytes s → IsUtf8 bs → IsUtf8 key → (pointwise nat_eq key name && pointwise nat_eq bs bytes) ≡ gives name bytes (chars key) (value_of n)
given n s key bs name bytes e b u k = let t = text_bytes n s bs e b u in rw (t.0, t.1, encodes-chars key k) refl

pub not_given : (n : Value) (s : String Global) (key name bytes : List ℕ) → n ≡ value.String s → IsUtf8 key → pointwise nat_eq key name ≡ false → false ≡ gives name bytes (chars key) (value_of n)
not_given n s key name bytes e k off = rw (e, view-String s, encodes-chars key k, off) refl

pub among_next : (name bytes : List ℕ) (xs : List Value) (i : ℕ) (x : Value) (count found more : ℕ) → i < length xs → x ≡ get_or xs i x → found ≤ times name bytes (value_of x) → more ≤ count + found
    → count + times_among name bytes (items_view (drop i xs)) ≤ times_among name bytes (items_view xs) → more + times_among name bytes (items_view (drop (i + 1) xs)) ≤ times_among name bytes (items_view xs)
among_next name bytes xs i x count found more h is f m left =
    let here : times_among name bytes (items_view (drop i xs)) ≡ times name bytes (value_of x) + times_among name bytes (items_view (drop (i + 1) xs)) = ap (λ (ys : List Value). times_among name bytes (items_view ys)) (value_from xs i x h is) in
    omega (arith, here, f, m, left)

pub named_next : (name bytes key : List ℕ) (xs : List (String Global × Value)) (i : ℕ) (f : String Global × Value) (count found more : ℕ) → i < length xs → f ≡ get_or xs i f → key ≡ string_bytes f.0 → found ≤ times_at name bytes (chars key) (value_of f.1) → more ≤ count + found
    → count + times_named name bytes (fields_view (drop i xs)) ≤ times_named name bytes (fields_view xs) → more + times_named name bytes (fields_view (drop (i + 1) xs)) ≤ times_named name bytes (fields_view xs)
named_next name bytes key xs i f count found more h is b k m left =
    let there : found ≤ times_at name bytes (chars (string_bytes f.0)) (value_of f.1) = subst (λ z. found ≤ times_at name bytes (chars z) (value_of f.1)) b k in
    let here : times_named name bytes (fields_view (drop i xs)) ≡ times_at name bytes (chars (string_bytes f.0)) (value_of f.1) + times_named name bytes (fields_view (drop (i + 1) xs)) = ap (λ (ys : List (String Global × Value)). times_named name bytes (fields_view ys)) (from_here xs i f h is) in
    omega (arith, here, there, m, left)

pub and_yes : (a b : Bool) → a ≡ true → b ≡ (a && b)
and_yes a b h = rw h refl

pub and_no : (a b : Bool) → a ≡ false → false ≡ (a && b)
and_no a b h = rw h refl

-- ---- the draft

never : (b : Bool) → b ≡ true → b ≡ false → ⊥
never b h k = absurd (cc)

pub by_text : (P : List ℕ → Type 0) (n : Value) (s : String Global) (bs : List ℕ) → n ≡ value.String s → bs ≡ string_bytes s → IsUtf8 bs → P bs → IsDraft P (value_of n)
by_text P n s bs e b u h = let t = text_bytes n s bs e b u in (chars bs, t.0, subst P (sym t.1) h)

same_text_in : (u v : List ℕ) → text u ≡ text v → u ≡ v
same_text_in u v e = cc

pub from_text : (P : List ℕ → Type 0) (n : Value) (s : String Global) (bs : List ℕ) → n ≡ value.String s → bs ≡ string_bytes s → IsUtf8 bs → IsDraft P (value_of n) → P bs
from_text P n s bs e b u (v, is, h) = let t = text_bytes n s bs e b u in subst P t.1 (subst (λ z. P (encode_utf8_all z)) (same_text_in v (chars bs) (sym is ∙ t.0)) h)

pub no_text : (P : List ℕ → Type 0) (x : Datum) → text_in x ≡ None → ¬ IsDraft P x
no_text P (text v) e h = absurd (cc)
no_text P null e (u, is, h) = absurd (cc)
no_text P (boolean b) e (u, is, h) = absurd (cc)
no_text P (number n) e (u, is, h) = absurd (cc)
no_text P (array xs) e (u, is, h) = absurd (cc)
no_text P (object fs) e (u, is, h) = absurd (cc)

pub named_draft : (P : List ℕ → Type 0) (root x : Datum) → named_of (chars (codes "$schema")) root ≡ Some x → IsDraft P x → NamesDraft P root
named_draft P root x e (u, is, h) = (u, e ∙ ap (λ z. Some z) is, h)

some_same : (x y : Datum) → Some x ≡ Some y → x ≡ y
some_same x y e = cc

pub draft_named : (P : List ℕ → Type 0) (root x : Datum) → named_of (chars (codes "$schema")) root ≡ Some x → NamesDraft P root → IsDraft P x
draft_named P root x e (u, is, h) = (u, some_same x (text u) (sym e ∙ is), h)

pub no_draft : (P : List ℕ → Type 0) (root : Datum) → named_of (chars (codes "$schema")) root ≡ None → ¬ NamesDraft P root
no_draft P root e (u, is, h) = absurd (cc)

pub counted : (r : Result Bool SchemaFault) (P Q : Type 0) → (Q → P) → IfOk r (CountsBeside P) → IfOk r (CountsBeside Q)
counted (Ok b) P Q f h = λ off names. h off (f names)
counted (Err e) P Q f h = tt

pub none_later : (a b : Bool) (s : List ℕ) → ((a ≡ true) ↔ HasSubslice s (codes "2019-09")) → ((b ≡ true) ↔ HasSubslice s (codes "2020-12")) → a ≡ false → b ≡ false → ¬ IsLaterName s
none_later a b s h k off other (inl it) = never a (h.1 it) off
none_later a b s h k off other (inr it) = never b (k.1 it) other

-- ---- the schemas in an argument

pub no_schema : (x : Datum) → boolean_of x ≡ None → fields_in x ≡ None → is_schema x ≡ false
no_schema x b f = rw (b, f) refl

pub by_holding : {A : Type 0} (r : Result A SchemaFault) (rules : Rules) (k : Shape) (h : Holding) (a : Datum) → h ≡ holding_of k → RefusedFor (IsFaultyBy rules h a) r → RefusedFor (IsFaultyBy rules (holding_of k) a) r
by_holding r rules k h a e t = subst (λ z. RefusedFor (IsFaultyBy rules z a) r) e t

pub alone_faulty : (rules : Rules) (a : Datum) (p : Problem) → IsFaultySchema rules a p → IsFaultyBy rules holding.Alone a p
alone_faulty rules a p (inl (q, off)) = inl (q, off)
alone_faulty rules a p (inr it) = inr (a, refl, it)

pub either_faulty : (rules : Rules) (xs : Items) (p : Problem) → IsFaultyBy rules holding.Elements (array xs) p → IsFaultyBy rules holding.AloneOrElements (array xs) p
either_faulty rules xs p (inl (q, off)) = inl (q, off)
either_faulty rules xs p (inr (t, stands, it)) = inr (t, inr stands, it)

pub alone_either_faulty : (rules : Rules) (a : Datum) (p : Problem) → items_in a ≡ None → IsFaultySchema rules a p → IsFaultyBy rules holding.AloneOrElements a p
alone_either_faulty rules (array xs) p e it = absurd (cc)
alone_either_faulty rules null p e (inl h) = inl h
alone_either_faulty rules null p e (inr it) = inr (null, inl refl, it)
alone_either_faulty rules (boolean b) p e (inl h) = inl h
alone_either_faulty rules (boolean b) p e (inr it) = inr (boolean b, inl refl, it)
alone_either_faulty rules (number n) p e (inl h) = inl h
alone_either_faulty rules (number n) p e (inr it) = inr (number n, inl refl, it)
alone_either_faulty rules (text v) p e (inl h) = inl h
alone_either_faulty rules (text v) p e (inr it) = inr (text v, inl refl, it)
alone_either_faulty rules (object fs) p e (inl h) = inl h
alone_either_faulty rules (object fs) p e (inr it) = inr (object fs, inl refl, it)

off_left : (a b : Bool) → a ≡ false → (a && b) ≡ false
off_left a b h = rw h refl

off_right : (a b : Bool) → b ≡ false → (a && b) ≡ false
off_right true b h = h
off_right false b h = refl

not_all : (s : Datum) (xs : Items) → IsElement s xs → is_schema s ≡ false → are_schemas xs ≡ false
not_all s no_item there off = absurd there
not_all s (item x xs) (inl same) off = off_left (is_schema x) (are_schemas xs) (subst (λ z. is_schema z ≡ false) same off)
not_all s (item x xs) (inr later) off = off_right (is_schema x) (are_schemas xs) (not_all s xs later off)

not_all_named : (u : List ℕ) (s : Datum) (fs : Fields) → IsMember u s fs → is_schema s ≡ false → are_named_schemas fs ≡ false
not_all_named u s no_field there off = absurd there
not_all_named u s (field v x fs) (inl same) off = off_left (is_schema x) (are_named_schemas fs) (subst (λ z. is_schema z ≡ false) same.1 off)
not_all_named u s (field v x fs) (inr later) off = off_right (is_schema x) (are_named_schemas fs) (not_all_named u s fs later off)

not_all_either : (u : List ℕ) (s : Datum) (fs : Fields) → IsMember u s fs → (is_schema s || is_names s) ≡ false → are_schemas_or_names fs ≡ false
not_all_either u s no_field there off = absurd there
not_all_either u s (field v x fs) (inl same) off = off_left (is_schema x || is_names x) (are_schemas_or_names fs) (subst (λ z. (is_schema z || is_names z) ≡ false) same.1 off)
not_all_either u s (field v x fs) (inr later) off = off_right (is_schema x || is_names x) (are_schemas_or_names fs) (not_all_either u s fs later off)

pub element_faulty : (rules : Rules) (s : Datum) (xs : Items) (p : Problem) → IsElement s xs → IsFaultySchema rules s p → IsFaultyBy rules holding.Elements (array xs) p
element_faulty rules s xs p there (inl (q, off)) = inl (q, not_all s xs there off)
element_faulty rules s xs p there (inr it) = inr (s, there, it)

pub member_faulty : (rules : Rules) (or_names : Bool) (u : List ℕ) (s : Datum) (fs : Fields) (p : Problem) → IsMember u s fs → IsFaultyMember rules or_names s p → IsFaultyBy rules (members_by or_names) (object fs) p
member_faulty rules false u s fs p there (other, inl (q, off)) = inl (q, not_all_named u s fs there off)
member_faulty rules false u s fs p there (other, inr it) = inr (s, (u, there), it)
member_faulty rules true u s fs p there (other, inl (q, off)) = let k = other refl in inl (q, not_all_either u s fs there (rw (off, k) refl))
member_faulty rules true u s fs p there (other, inr it) = inr (s, (u, there), it)

-- ---- a keyword of a schema

pub both_yes : (a b : Bool) → (a && b) ≡ true → (a ≡ true) × (b ≡ true)
both_yes true b h = (refl, h)
both_yes false b h = absurd (cc)

pub other_names : (a b : Bool) → (a && b) ≡ false → a ≡ true → b ≡ false
other_names true b h e = h
other_names false b h e = absurd (cc)

both : (a b : Bool) → (not a && b) ≡ true → (a ≡ false) × (b ≡ true)
both true b h = absurd (cc)
both false b h = (refl, h)

keyword_faulty : (rules : Rules) (there : Bool) (fs : Fields) (name bytes : List ℕ) (a : Datum) (p : Problem) → IsMember name a fs → bytes ≡ encode_utf8_all name → there ≡ (not rules.counts_siblings && is_named (chars (codes "$ref")) fs)
    → IsFaultyKeyword rules there bytes a p → IsFaulty rules (object fs) p
keyword_faulty rules there fs name bytes a p has spelled refers (inl (q, on, asks)) =
    let (skips, named) = both rules.counts_siblings (is_named (chars (codes "$ref")) fs) (sym refers ∙ on) in
    let asked : asks_beside (encode_utf8_all name) (shape_in rules (encode_utf8_all name) a) ≡ true = rw spelled at asks in
    rw q (beside rules (object fs) a name skips named has asked)
keyword_faulty rules there fs name bytes a p has spelled refers (inr (inl it)) = wrong rules (object fs) a name p has (rw spelled at it)
keyword_faulty rules there fs name bytes a p has spelled refers (inr (inr (inl (q, off)))) =
    let none = rw spelled at off in
    rw q (wrong rules (object fs) a name (problem.Expected shape.Schema) has (inr (refl, none)))
keyword_faulty rules there fs name bytes a p has spelled refers (inr (inr (inr (t, stands, it)))) = further rules (object fs) a t name p has (rw spelled at stands) it

pub keyword_of : (rules : Rules) (there : Bool) (xs : List (String Global × Value)) (i : ℕ) (f : String Global × Value) (bytes : List ℕ) (p : Problem) → i < length xs → f ≡ get_or xs i f → bytes ≡ string_bytes f.0 → IsUtf8 bytes
    → there ≡ (not rules.counts_siblings && is_named (chars (codes "$ref")) (fields_view xs)) → IsFaultyKeyword rules there bytes (value_of f.1) p → IsFaulty rules (object (fields_view xs)) p
keyword_of rules there xs i f bytes p h is b u refers it = keyword_faulty rules there (fields_view xs) (chars (string_bytes f.0)) bytes (value_of f.1) p (member_at xs i f h is) (spelled f bytes b u) refers it

-- what isn't taken of an argument, where it stands
pub argument_there : (rules nested : Rules) (name : List ℕ) (k : Shape) (a : Datum) (p : Problem) → nested ≡ inner rules → k ≡ shape_in rules name a → IsFaultyArgument nested name k a p → IsFaultyArgument (inner rules) name (shape_in rules name a) a p
argument_there rules nested name k a p e is it = subst (λ z. IsFaultyArgument (inner rules) name z a p) is (subst (λ z. IsFaultyArgument z name k a p) e it)

-- ---- keywords that are none

unknown_in : (fs : Fields) (name bytes : List ℕ) (a : Datum) (p : Problem) → IsMember name a fs → bytes ≡ encode_utf8_all name → IsUnknownThrough bytes a p → IsUnknownIn (object fs) p
unknown_in fs name bytes a p has spelled (inl (none, off)) = (none, (object fs, a, name, itself (object fs), has, rw spelled at off))
unknown_in fs name bytes a p has spelled (inr (s, stands, (none, (t, b, word, sub, there, off)))) = (none, (t, b, word, within (object fs) a s t name has (rw spelled at stands) sub, there, off))

pub unknown_of : (xs : List (String Global × Value)) (i : ℕ) (f : String Global × Value) (bytes : List ℕ) (p : Problem) → i < length xs → f ≡ get_or xs i f → bytes ≡ string_bytes f.0 → IsUtf8 bytes
    → IsUnknownThrough bytes (value_of f.1) p → IsUnknownIn (object (fields_view xs)) p
unknown_of xs i f bytes p h is b u it = unknown_in (fields_view xs) (chars (string_bytes f.0)) bytes (value_of f.1) p (member_at xs i f h is) (spelled f bytes b u) it

-- of the argument, of an element and of a member
pub alone_of : (name : List ℕ) (a : Datum) (p : Problem) → (takes_schema name ≡ true) × IsUnknownIn a p → IsUnknownThrough name a p
alone_of name a p (takes, k) = inr (a, alone takes refl, k)

pub element_of : (name : List ℕ) (a : Datum) (p : Problem) → (takes_schemas name ≡ true) × IsUnknownAmong a p → IsUnknownThrough name a p
element_of name (array xs) p (takes, (s, there, k)) = inr (s, element xs takes refl there, k)
element_of name null p (takes, (s, there, k)) = absurd there
element_of name (boolean b) p (takes, (s, there, k)) = absurd there
element_of name (number n) p (takes, (s, there, k)) = absurd there
element_of name (text t) p (takes, (s, there, k)) = absurd there
element_of name (object fs) p (takes, (s, there, k)) = absurd there

pub member_of : (name : List ℕ) (a : Datum) (p : Problem) → (takes_named name ≡ true) × IsUnknownNamed a p → IsUnknownThrough name a p
member_of name (object fs) p (takes, (s, (u, there), k)) = inr (s, member u fs takes refl there, k)
member_of name null p (takes, (s, there, k)) = absurd there
member_of name (boolean b) p (takes, (s, there, k)) = absurd there
member_of name (number n) p (takes, (s, there, k)) = absurd there
member_of name (text t) p (takes, (s, there, k)) = absurd there
member_of name (array xs) p (takes, (s, there, k)) = absurd there

-- ---- the whole

pub old_refused : (is_strict : Bool) (root : Datum) (p : Problem) → IsOfOldDraft root p → IsRefusedBy is_strict root p
old_refused is_strict root p (q, names) = rw q (record { counts_siblings = true; is_strict = is_strict; asserts_formats = asserts_formats root; is_whole = true }, record { strict = refl; formats = refl; siblings = λ e. absurd (cc); whole = refl }, inr (inr names))

pub as_refused : {A : Type 0} (r : Result A SchemaFault) (is_strict : Bool) (x root y : Datum) → root ≡ y → RefusedFor (IsRefusedBy is_strict root) r → IfErr r (IsRefused is_strict x y)
as_refused (Ok v) is_strict x root y e h = tt
as_refused (Err (faults.At place p)) is_strict x root y e h = subst (λ z. IsRefusedBy is_strict z p) e h
as_refused (Err (faults.Value f)) is_strict x root y e h = inl h

-- ---- references that lead back

pub by_keyword : (xs : List (String Global × Value)) (i : ℕ) (f : String Global × Value) (bytes to : List ℕ) → i < length xs → f ≡ get_or xs i f → bytes ≡ string_bytes f.0 → IsUtf8 bytes → LeadsBy bytes (value_of f.1) to → LeadsOn (object (fields_view xs)) to
by_keyword xs i f bytes to h is b u (inl (named, same)) =
    here (object (fields_view xs)) (chars (string_bytes f.0)) to (subst (λ z. IsMember (chars (string_bytes f.0)) z (fields_view xs)) same (member_at xs i f h is)) (sym (spelled f bytes b u) ∙ named)
by_keyword xs i f bytes to h is b u (inr (t, stands, leads)) =
    inside (object (fields_view xs)) (value_of f.1) t (chars (string_bytes f.0)) to (member_at xs i f h is) (subst (λ z. StandsInPlace z (value_of f.1) t) (spelled f bytes b u) stands) leads

pub by_reference : (n : Value) (s : String Global) (bs name to : List ℕ) (a b : Bool) → n ≡ value.String s → bs ≡ string_bytes s → a ≡ pointwise nat_eq name (codes "$ref") → b ≡ pointwise nat_eq bs to → a ≡ true → b ≡ true → LeadsBy name (value_of n) to
by_reference n s bs name to a b e t k l h j =
    let named = same_text name (codes "$ref") (sym h ∙ k) in
    let same = same_text bs to (sym j ∙ l) in
    inl (named, ap value_of e ∙ (view-String s ∙ ap (λ z. text (chars z)) (sym t ∙ same)))

pub by_each : (a : Datum) (xs : Items) (name to : List ℕ) → a ≡ array xs → is_each name ≡ true → LeadsAmong (array xs) to → LeadsBy name a to
by_each a xs name to e each (t, there, leads) = inr (t, inr (inl (each, subst (IsElementOf t) (sym e) there)), leads)

pub by_member : (a : Datum) (fs : Fields) (name to : List ℕ) → a ≡ object fs → is_by_name name ≡ true → LeadsNamed (object fs) to → LeadsBy name a to
by_member a fs name to e named (t, there, leads) = inr (t, inr (inr (named, subst (IsMemberOf t) (sym e) there)), leads)

pub leads_once : (root : Datum) (from to : List ℕ) (t : Datum) → Some t ≡ behind_sign from root → Refers root from → LeadsOn t to → LeadsTo root from to
leads_once root from to t is there leads = step t from to there (sym is) leads

-- from the first one to the next one, by the one in front of it
pub led_on : (root : Datum) (first last next : List ℕ) → (last ≡ first) ⊎ LeadsTo root first last → LeadsTo root last next → (next ≡ first) ⊎ LeadsTo root first next
led_on root first last next (inl same) h = inr (subst (λ z. LeadsTo root z next) same h)
led_on root first last next (inr before) h = inr (steps first last next before h)

pub led_back : (root : Datum) (first last : List ℕ) → (last ≡ first) ⊎ LeadsTo root first last → LeadsTo root last first → LeadsBack root
led_back root first last (inl same) h = (first, subst (λ z. LeadsTo root z first) same h)
led_back root first last (inr before) h = (first, steps first last first before h)

-- ---- the whole, for one of its references

pub of_reference : (rules : Rules) (root : Datum) (p : Problem) → IsOfReference rules root p → IsRefusedFor rules root p
of_reference rules root p (inl k) = inr (inl k)
of_reference rules root p (inr (q, k)) = inr (inr (subst (IsOfWhole root) (sym q) k))
