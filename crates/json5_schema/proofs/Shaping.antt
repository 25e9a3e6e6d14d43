-- From the arguments of a schema's keywords to those of all schemas in it.
use Rattle.std.proofs.Common.{◌≡◌, ◌⊎◌, ◌≤◌, ◌∙◌, ◌&&◌, ◌||◌, if◌then◌else◌, ℕ, suc, Bool, true, false, nat_eq, List, [], ◌∷◌, length, drop, not, None, Result, Ok, Err, IfOk, String, inl, inr, refl, sym, ap, subst, arith, string_bytes}
use Rattle.std.specs.Prelude.{⊤, ◌==◌}
use Rattle.std.proofs.lemmas.Bool.Decides.{nat_tests}
use Rattle.std.specs.declared.alloc.Global.{Global}
use Rattle.std.specs.Cmp.Lexicographic.{pointwise, same_text}
use Rattle.std.specs.List.{list_any}
use Rattle.std.specs.Str.{chars, IsUtf8, encode_utf8_all}
use Rattle.std.proofs.lemmas.Str.{encodes-chars}
use lib.Chars.{codes}
use Rattle.json5_types.specs.declared.value.Value.{Value}
use Rattle.json5_types.specs.declared.value.Value as value
use Rattle.json5_types.specs.ValueMeanings.{Datum, null, boolean, number, text, array, object, Items, no_item, item, Fields, no_field, field, value_of, items_view, fields_view}
use Rattle.json5_types.specs.ValueLookups.{items_in, fields_in}
use Rattle.json5_types.proofs.ValuesCompared.{view-String}
use Rattle.json5_schema.specs.declared.kind.Kind.{Kind}
use Rattle.json5_schema.specs.Keywords.{kind_named}
use Rattle.json5_schema.specs.declared.shape.Holding.{Holding}
use Rattle.json5_schema.specs.declared.shape.Holding.TheVariants as holding
use Rattle.json5_schema.specs.declared.shape.Shape.{Shape}
use Rattle.json5_schema.specs.declared.shape.Shape.TheVariants as shape
use Rattle.json5_schema.specs.Shapes.{are_named_schemas, are_schemas, are_schemas_or_names, has_item, holding_of, is_kind, is_known_kind, is_names, is_schema, shape_at, shape_named, AllNamedTaken, AllTaken, HoldsNamed, HoldsTaken, IsElementOf, IsMemberOf, IsMemberTaken, IsOfShape, IsShaped, IsShapedThrough, IsTaken, IsTakenAs, StandsBy}
use Rattle.json5_schema.specs.Subschemas.{taking_named, taking_schema, taking_schemas, takes_schema, takes_schemas, takes_named, StandsIn, alone, element, member, Subschema, itself, within, HasKeyword, IsElement, IsMember}
use Rattle.json5_schema.proofs.Knowing.{past_end}

-- ---- what a name tells

abbrev All : (List ℕ → Type 0) → List (List ℕ) → Type 0
All P [] = ⊤
All P (n ∷ ns) = P n × All P ns

one_of : (P : List ℕ → Type 0) (ns : List (List ℕ)) (w : List ℕ) → list_any (λ known. pointwise nat_eq known w) ns ≡ true → All P ns → P w
one_of P [] w e h = absurd (cc)
one_of P (n ∷ ns) w e h = by (one_of P ns w) (pointwise nat_eq n w) refl e
  where
    by : (list_any (λ known. pointwise nat_eq known w) ns ≡ true → All P ns → P w) → (b : Bool) → b ≡ pointwise nat_eq n w → (b || list_any (λ known. pointwise nat_eq known w) ns) ≡ true → P w
    by later true same e = subst P (same_text n w same) h.0
    by later false other e = later e h.1

abbrev Holds : Holding → Holding → List ℕ → Type 0
Holds one other w = (holding_of (shape_named w) ≡ one) ⊎ (holding_of (shape_named w) ≡ other)

alone_in : (w : List ℕ) → takes_schema w ≡ true → Holds holding.Alone holding.AloneOrElements w
alone_in w e =
    let all : All (Holds holding.Alone holding.AloneOrElements) taking_schema = (inl refl, (inl refl, (inl refl, (inl refl, (inr refl, (inl refl, (inl refl, (inl refl, (inl refl, (inl refl, (inl refl, (inl refl, tt)))))))))))) in
    one_of (Holds holding.Alone holding.AloneOrElements) taking_schema w e all

elements_in : (w : List ℕ) → takes_schemas w ≡ true → Holds holding.Elements holding.AloneOrElements w
elements_in w e =
    let all : All (Holds holding.Elements holding.AloneOrElements) taking_schemas = (inl refl, (inl refl, (inl refl, (inl refl, (inr refl, tt))))) in
    one_of (Holds holding.Elements holding.AloneOrElements) taking_schemas w e all

members_in : (w : List ℕ) → takes_named w ≡ true → Holds holding.Members holding.MembersOrNames w
members_in w e =
    let all : All (Holds holding.Members holding.MembersOrNames) taking_named = (inl refl, (inl refl, (inl refl, (inr refl, (inl refl, (inl refl, tt)))))) in
    one_of (Holds holding.Members holding.MembersOrNames) taking_named w e all

by_holding : (w : List ℕ) (a s : Datum) (one other : Holding) → Holds one other w → StandsBy one a s → StandsBy other a s → StandsBy (holding_of (shape_named w)) a s
by_holding w a s one other (inl e) h k = subst (λ z. StandsBy z a s) (sym e) h
by_holding w a s one other (inr e) h k = subst (λ z. StandsBy z a s) (sym e) k

element_of : (a s : Datum) (xs : Items) → a ≡ array xs → IsElement s xs → IsElementOf s a
element_of a s xs e h = subst (IsElementOf s) (sym e) h

member_of : (a s : Datum) (u : List ℕ) (fs : Fields) → a ≡ object fs → IsMember u s fs → IsMemberOf s a
member_of a s u fs e h = subst (IsMemberOf s) (sym e) (u, h)

stands_by : (w : List ℕ) (a s : Datum) → StandsIn w a s → StandsBy (holding_of (shape_named w)) a s
stands_by w a s (alone t e) = by_holding w a s holding.Alone holding.AloneOrElements (alone_in w t) e (inl e)
stands_by w a s (element xs t e h) = by_holding w a s holding.Elements holding.AloneOrElements (elements_in w t) (element_of a s xs e h) (inr (element_of a s xs e h))
stands_by w a s (member u fs t e h) = by_holding w a s holding.Members holding.MembersOrNames (members_in w t) (member_of a s u fs e h) (member_of a s u fs e h)

-- by its name, or more where nothing is asked by that
abbrev IsShapeFor : List ℕ → Shape → Type 0
IsShapeFor w k = (k ≡ shape_named w) ⊎ (shape_named w ≡ shape.Any)

shape_for : (w : List ℕ) (f i : Shape) → IsShapeFor w (shape_at w f i)
shape_for w f i = by (pointwise nat_eq w (codes "format")) (pointwise nat_eq w (codes "$id")) refl refl
  where
    by : (b c : Bool) → b ≡ pointwise nat_eq w (codes "format") → c ≡ pointwise nat_eq w (codes "$id") → IsShapeFor w (if b then f else if c then i else shape_named w)
    by true c e d = inr (subst (λ z. shape_named z ≡ shape.Any) (sym (same_text w (codes "format") e)) refl)
    by false true e d = inr (subst (λ z. shape_named z ≡ shape.Any) (sym (same_text w (codes "$id") d)) refl)
    by false false e d = inl refl

-- ---- a schema

shaped_in : {r s : Datum} → Subschema r s → ((u : List ℕ) (b : Datum) → HasKeyword r u b → IsShapedThrough (encode_utf8_all u) b) → (a : Datum) (name : List ℕ) → HasKeyword s name a → IsOfShape (shape_named (encode_utf8_all name)) a
shaped_in (itself r) h a name has = (h name a has).0
shaped_in (within r b s t u there stands sub) h a name has = (h u b there).1 s stands t a name sub has

-- what is no object has no keyword
none_shaped : (r : Datum) → fields_in r ≡ None → IsShaped r
none_shaped r e = λ s a name sub has. shaped_in sub (λ u b there. none r e u b there) a name has
  where
    none : (r : Datum) → fields_in r ≡ None → (u : List ℕ) (b : Datum) → HasKeyword r u b → IsShapedThrough (encode_utf8_all u) b
    none (object fs) e u b there = absurd (cc)
    none null e u b there = absurd there
    none (boolean c) e u b there = absurd there
    none (number n) e u b there = absurd there
    none (text v) e u b there = absurd there
    none (array xs) e u b there = absurd there

pub boolean_taken : (x : Datum) (b : Bool) → x ≡ boolean b → IsTaken x
boolean_taken x b e = subst IsTaken (sym e) (refl, none_shaped (boolean b) refl)

-- ---- a keyword

pub through : (w : List ℕ) (a : Datum) (k f i : Shape) → k ≡ shape_at w f i → IsTakenAs k a → IsShapedThrough w a
through w a k f i e h = by (shape_for w f i)
  where
    so : IsTakenAs (shape_named w) a → IsShapedThrough w a
    so (outline, (holds, all)) = ((outline, holds), λ s stands. all s (stands_by w a s stands))

    by : IsShapeFor w (shape_at w f i) → IsShapedThrough w a
    by (inl same) = so (subst (λ z. IsTakenAs z a) (e ∙ same) h)
    by (inr any) = so (subst (λ z. IsTakenAs z a) (sym any) (refl, (refl, λ s stands. absurd stands)))

-- ---- the schemas in an argument

pub by_holding_of : (k : Shape) (h : Holding) (a : Datum) → h ≡ holding_of k → HoldsTaken h a → HoldsTaken (holding_of k) a
by_holding_of k h a e t = subst (λ z. HoldsTaken z a) e t

pub none_held : (a : Datum) → HoldsTaken holding.Nothing a
none_held a = (refl, λ s stands. absurd stands)

pub alone_held : (a : Datum) → IsTaken a → HoldsTaken holding.Alone a
alone_held a (schema, shaped) = (schema, λ s same. subst IsShaped (sym same) shaped)

both_true : (a b : Bool) → a ≡ true → b ≡ true → (a && b) ≡ true
both_true a b h k = rw (h, k) refl

all_schemas : (xs : Items) → AllTaken xs → are_schemas xs ≡ true
all_schemas no_item h = refl
all_schemas (item x xs) h = both_true (is_schema x) (are_schemas xs) (h x (inl refl)).0 (all_schemas xs (λ s there. h s (inr there)))

pub elements_held : (a : Datum) (xs : Items) → a ≡ array xs → AllTaken xs → HoldsTaken holding.Elements a
elements_held a xs e h = subst (HoldsTaken holding.Elements) (sym e) (all_schemas xs h, λ s there. (h s there).1)

pub no_elements_held : (a : Datum) → items_in a ≡ None → HoldsTaken holding.Elements a
no_elements_held (array xs) e = absurd (cc)
no_elements_held null e = (refl, λ s there. absurd there)
no_elements_held (boolean b) e = (refl, λ s there. absurd there)
no_elements_held (number n) e = (refl, λ s there. absurd there)
no_elements_held (text v) e = (refl, λ s there. absurd there)
no_elements_held (object fs) e = (refl, λ s there. absurd there)

pub either_held : (a : Datum) (xs : Items) → a ≡ array xs → AllTaken xs → HoldsTaken holding.AloneOrElements a
either_held a xs e h = subst (HoldsTaken holding.AloneOrElements) (sym e) (all_schemas xs h, λ s stands. one s stands)
  where
    one : (s : Datum) → (s ≡ array xs) ⊎ IsElement s xs → IsShaped s
    one s (inl same) = subst IsShaped (sym same) (none_shaped (array xs) refl)
    one s (inr there) = (h s there).1

alone_shaped : (a s : Datum) → IsShaped a → (s ≡ a) ⊎ ⊥ → IsShaped s
alone_shaped a s h (inl same) = subst IsShaped (sym same) h
alone_shaped a s h (inr none) = absurd none

pub alone_either_held : (a : Datum) → items_in a ≡ None → IsTaken a → HoldsTaken holding.AloneOrElements a
alone_either_held (array xs) e t = absurd (cc)
alone_either_held null e t = (t.0, λ s stands. alone_shaped null s t.1 stands)
alone_either_held (boolean b) e t = (t.0, λ s stands. alone_shaped (boolean b) s t.1 stands)
alone_either_held (number n) e t = (t.0, λ s stands. alone_shaped (number n) s t.1 stands)
alone_either_held (text v) e t = (t.0, λ s stands. alone_shaped (text v) s t.1 stands)
alone_either_held (object fs) e t = (t.0, λ s stands. alone_shaped (object fs) s t.1 stands)

-- ---- members

sure : (s : Datum) → IsMemberTaken false s → IsTaken s
sure s (inl (off, names)) = absurd (cc)
sure s (inr t) = t

all_named : (fs : Fields) → AllNamedTaken false fs → are_named_schemas fs ≡ true
all_named no_field h = refl
all_named (field u x fs) h = both_true (is_schema x) (are_named_schemas fs) (sure x (h u x (inl (refl, refl)))).0 (all_named fs (λ v s there. h v s (inr there)))

or_left : (a b : Bool) → a ≡ true → (a || b) ≡ true
or_left a b h = rw h refl

or_right : (a b : Bool) → b ≡ true → (a || b) ≡ true
or_right true b h = refl
or_right false b h = h

schema_or_names : (s : Datum) → IsMemberTaken true s → (is_schema s || is_names s) ≡ true
schema_or_names s (inl (on, names)) = or_right (is_schema s) (is_names s) names
schema_or_names s (inr t) = or_left (is_schema s) (is_names s) t.0

all_either : (fs : Fields) → AllNamedTaken true fs → are_schemas_or_names fs ≡ true
all_either no_field h = refl
all_either (field u x fs) h = both_true (is_schema x || is_names x) (are_schemas_or_names fs) (schema_or_names x (h u x (inl (refl, refl)))) (all_either fs (λ v s there. h v s (inr there)))

no_fields : (s : Datum) → is_names s ≡ true → fields_in s ≡ None
no_fields (object fs) e = absurd (cc)
no_fields null e = refl
no_fields (boolean b) e = refl
no_fields (number n) e = refl
no_fields (text v) e = refl
no_fields (array xs) e = refl

shaped_member : (s : Datum) → IsMemberTaken true s → IsShaped s
shaped_member s (inl (on, names)) = none_shaped s (no_fields s names)
shaped_member s (inr t) = t.1

pub members_held : (b : Bool) (a : Datum) (fs : Fields) → a ≡ object fs → AllNamedTaken b fs → HoldsNamed b a
members_held false a fs e h = subst (HoldsTaken holding.Members) (sym e) (all_named fs h, λ s there. (sure s (h there.0 s there.1)).1)
members_held true a fs e h = subst (HoldsTaken holding.MembersOrNames) (sym e) (all_either fs h, λ s there. shaped_member s (h there.0 s there.1))

no_members : (h : Holding) (a : Datum) → (h ≡ holding.Members) ⊎ (h ≡ holding.MembersOrNames) → fields_in a ≡ None → HoldsTaken h a
no_members h (object fs) k e = absurd (cc)
no_members h null (inl k) e = rw k (refl, λ s there. absurd there)
no_members h null (inr k) e = rw k (refl, λ s there. absurd there)
no_members h (boolean b) (inl k) e = rw k (refl, λ s there. absurd there)
no_members h (boolean b) (inr k) e = rw k (refl, λ s there. absurd there)
no_members h (number n) (inl k) e = rw k (refl, λ s there. absurd there)
no_members h (number n) (inr k) e = rw k (refl, λ s there. absurd there)
no_members h (text v) (inl k) e = rw k (refl, λ s there. absurd there)
no_members h (text v) (inr k) e = rw k (refl, λ s there. absurd there)
no_members h (array xs) (inl k) e = rw k (refl, λ s there. absurd there)
no_members h (array xs) (inr k) e = rw k (refl, λ s there. absurd there)

pub no_members_held : (b : Bool) (a : Datum) → fields_in a ≡ None → HoldsNamed b a
no_members_held false a e = no_members holding.Members a (inl refl) e
no_members_held true a e = no_members holding.MembersOrNames a (inr refl) e

-- ---- the first one, and those after it

abbrev pub AllShaped : Fields → Type 0
AllShaped fs = (u : List ℕ) (a : Datum) → IsMember u a fs → IsShapedThrough (encode_utf8_all u) a

pub keywords_shaped : (xs : List (String Global × Value)) (i : ℕ) → length xs ≤ i → (AllShaped (fields_view (drop i xs)) → AllShaped (fields_view xs)) → IsTaken (object (fields_view xs))
keywords_shaped xs i h all = (refl, λ s a name sub has. shaped_in sub (all (rw (past_end xs i h) (λ u b there. absurd there))) a name has)

pub first_shaped : (f : String Global × Value) (w : List ℕ) (fs xs : List (String Global × Value)) → xs ≡ f ∷ fs → w ≡ string_bytes f.0 → IsUtf8 w → IsShapedThrough w (value_of f.1) → AllShaped (fields_view fs) → AllShaped (fields_view xs)
first_shaped f w fs xs e b utf8 h rest = rw e (λ u a there. one u a there)
  where
    back : encode_utf8_all (chars (string_bytes f.0)) ≡ w
    back = ap (λ (t : List ℕ). encode_utf8_all (chars t)) (sym b) ∙ encodes-chars w utf8

    one : (u : List ℕ) (a : Datum) → IsMember u a (fields_view (f ∷ fs)) → IsShapedThrough (encode_utf8_all u) a
    one u a (inl same) = rw (same.0, same.1, back) h
    one u a (inr later) = rest u a later

pub each_taken : (xs : List Value) (i : ℕ) → length xs ≤ i → (AllTaken (items_view (drop i xs)) → AllTaken (items_view xs)) → AllTaken (items_view xs)
each_taken xs i h all = all (rw (past_end xs i h) (λ s there. absurd there))

pub first_taken : (x : Value) (ys xs : List Value) → xs ≡ x ∷ ys → IsTaken (value_of x) → AllTaken (items_view ys) → AllTaken (items_view xs)
first_taken x ys xs e h rest = rw e (λ s there. one s there)
  where
    one : (s : Datum) → IsElement s (items_view (x ∷ ys)) → IsTaken s
    one s (inl same) = rw same h
    one s (inr later) = rest s later

pub named_taken : (b : Bool) (xs : List (String Global × Value)) (i : ℕ) → length xs ≤ i → (AllNamedTaken b (fields_view (drop i xs)) → AllNamedTaken b (fields_view xs)) → AllNamedTaken b (fields_view xs)
named_taken b xs i h all = all (rw (past_end xs i h) (λ u s there. absurd there))

pub first_named_taken : (b : Bool) (f : String Global × Value) (fs xs : List (String Global × Value)) → xs ≡ f ∷ fs → IsMemberTaken b (value_of f.1) → AllNamedTaken b (fields_view fs) → AllNamedTaken b (fields_view xs)
first_named_taken b f fs xs e h rest = rw e (λ u s there. one u s there)
  where
    one : (u : List ℕ) (s : Datum) → IsMember u s (fields_view (f ∷ fs)) → IsMemberTaken b s
    one u s (inl same) = rw same.1 h
    one u s (inr later) = rest u s later

pub any_ok : {T E P : Type 0} (r : Result T E) → P → IfOk r (λ _. P)
any_ok (Ok x) h = h
any_ok (Err e) h = tt

-- ---- arguments

pub named_kind : (n : Value) (t : String Global) (bs : List ℕ) (k : Kind) → n ≡ value.String t → bs ≡ string_bytes t → IsUtf8 bs → k ≡ kind_named bs → is_known_kind k ≡ is_kind (value_of n)
named_kind n t bs k e b u named =
    let back : encode_utf8_all (chars (string_bytes t)) ≡ bs = ap (λ (z : List ℕ). encode_utf8_all (chars z)) (sym b) ∙ encodes-chars bs u in
    rw (e, view-String t) (ap is_known_kind (named ∙ ap kind_named (sym back)))

not_empty : (n : ℕ) → not (suc n == 0) ≡ true
not_empty n = grind (arith, nat_tests)

pub some_item : (xs : List Value) → not (length xs == 0) ≡ has_item (array (items_view xs))
some_item [] = refl
some_item (x ∷ xs) = not_empty (length xs)
