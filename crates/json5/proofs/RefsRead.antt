-- What a walk takes of a borrowed value, step by step, and what reading the whole comes to.
use Rattle.std.proofs.Common.{◌≡◌, ℕ, ℤ, Bool, true, false, List, [], ◌∷◌, ◌++◌, refl, ap, sym, ◌∙◌, subst, inl, rules, Option, Some, None}
use Rattle.std.specs.Prelude.{IsUtf8, IfOk, OnOk, OnSome, IfNone, MatchOption, if◌then◌else◌, MatchResult, Result, Ok, Err, is_ok, is_err}
use Rattle.std.specs.Option.{is_some}
use Rattle.std.specs.Result.{result_ok}
use Rattle.std.specs.Str.{chars, encode_utf8_all}
use Rattle.json5_grammar.specs.Language.Documents.{Doc}
use Rattle.json5_grammar.specs.Language.Numbers as numbers
use Rattle.json5_grammar.specs.Language.Trees.{Tree, Trees, Members, number, text, no_more, more, no_member, member}
use Rattle.json5_grammar.specs.Model.Collections.{snoc, snoc_member}
use Rattle.json5_grammar.proofs.OneTree.{one_tree}
use Rattle.json5_types.specs.declared.cow_str.CowStr.{CowStr}
use Rattle.json5_types.specs.declared.error.Error.{Error}
use Rattle.json5_types.specs.declared.value.Value.{Value}
use Rattle.json5_types.specs.Cows.{cow_bytes}
use Rattle.json5_types.specs.Errors.{LacksMemory}
use Rattle.json5_types.specs.ValueChanges.{items_then}
use Rattle.json5_types.specs.ValueMeanings.{Datum, Items, Fields, item, field, value_of}
use Rattle.json5_types.specs.ValueMeanings as datum
use Rattle.json5_read.specs.declared.brackets.BracketKind.{BracketKind as Kind}
use Rattle.json5_read.specs.declared.brackets.BracketKind.TheVariants as kind
use Rattle.json5_read.specs.declared.kinds.Literal.{Literal}
use Rattle.json5_read.specs.declared.kinds.Literal.TheVariants as literal
use Rattle.json5_read.specs.DocumentReads.{ReadsText}
use Rattle.json5_read.specs.OwnedReads.{datum_of_literal}
use Rattle.json5_read.specs.TreeMeanings.{datum_of}
use Rattle.json5_walk.specs.Frames.{Frame, in_array, in_object, At, at_value, at_element, at_key, at_colon, at_comma, value_frames}
use Rattle.json5_walk.specs.Moves.{Stays, TakesTree, takes_tree, Opens, opens_array, opens_object, TakesKeyOf, takes_key, TakesColon, takes_colon, TakesComma, after_element, after_member, Closes, closes_elements, closes_array, closes_members, closes_object}
use Rattle.json5_walk.specs.Walks.{Walked, Trail, IsAt, Moved, Ends, TookNumber, TookSpacedNumber, TookSpacedString, TookSpacedWhole, TookString, at_start, tree_of}
use Rattle.json5_walk.proofs.Calls.{starts_at}
use Rattle.json5_walk.proofs.Entries.{after_gap, then as followed, named_so}
use Rattle.json5.specs.declared.value_ref.ValueRef.{ValueRef, the_lemmas}
use Rattle.json5.specs.declared.value_ref.ValueRef as ref
use Rattle.json5.specs.ValueRefs.{ReadsRef, ref_of, refs_view, members_view}
use Rattle.json5.specs.ValueRefWalks.{meaning_of, meanings_of, member_meanings, IsRead, TakesMeaning, InElements, InMembers, Finishes, TakesElements, TakesMembers, TakesItem, TakesKey, TakesPart}
use Rattle.json5.proofs.RefsCopied.{fields_then, members_last, refs_last, view-String}
use Rattle.json5.proofs.TextsMean.{document_means}

-- ---- what a call's answer says

pub if_ok : {T E : Type 0} (P : T → Type 0) (r : Result T E) (v : T) → Some v ≡ result_ok r → IfOk r P → P v
if_ok P (Ok w) v e p = let k : w ≡ v = cc in subst P k p
if_ok P (Err b) v e p = absurd (cc)

pub on_ok : {A T E : Type 0} (r : Result T E) (v : T) → Some v ≡ result_ok r → OnOk r A → A
on_ok (Ok w) v e p = p
on_ok (Err b) v e p = absurd (cc)

-- what a push left that there was memory for
pub grown : {V T E : Type 0} (r : Result T E) (u : T) (new longer old : List V) → Some u ≡ result_ok r → new ≡ (if is_ok r then longer else old) → new ≡ longer
grown (Ok a) u new longer old e p = p
grown (Err b) u new longer old e p = absurd (cc)

pub no_err : {A T E : Type 0} (r : Result T E) (failed : Bool) → failed ≡ is_err r → OnOk r A → failed ≡ false → A
no_err (Ok a) failed e p h = p
no_err (Err b) failed e p h = let k : false ≡ true = sym h ∙ e in absurd (cc)

pub some_so : {A T : Type 0} (r : Option T) (done : Bool) → done ≡ is_some r → OnSome r A → done ≡ true → A
some_so (Some a) done e p h = p
some_so None done e p h = let k : true ≡ false = sym h ∙ e in absurd (cc)

pub none_so : {A T : Type 0} (r : Option T) (done : Bool) → done ≡ is_some r → IfNone r A → done ≡ false → A
none_so (Some a) done e p h = let k : false ≡ true = sym h ∙ e in absurd (cc)
none_so None done e p h = p

pub none_kept : {A T : Type 0} (B : T → Type 0) (r : Option T) (done : Bool) → done ≡ is_some r → MatchOption r A B → done ≡ false → A
none_kept B (Some a) done e p h = let k : false ≡ true = sym h ∙ e in absurd (cc)
none_kept B None done e p h = p

-- ---- nothing, or blanks, before a step

pub from_kept : {v w left : Walked} (Step : At → At → Type 0) → w ≡ v → Moved Step w left → Moved Step v left
from_kept {left = left} Step e p = subst (λ z. Moved Step z left) e p

pub gap_kept : {u v w : Walked} → Moved Stays u v → w ≡ v → Moved Stays u w
gap_kept {u = u} p e = subst (λ z. Moved Stays u z) (sym e) p

-- ---- values that are no collection

-- a value of a tree that means x
takes : {v w : Walked} (t : Tree) (x : Datum) → meaning_of t ≡ x → Moved (TakesTree t) v w → Moved (TakesMeaning x) v w
takes t x e m = named_so (TakesTree t) (TakesMeaning x) so m
  where
    so : (a b : At) → TakesTree t a b → TakesMeaning x a b
    so a _ (takes_tree _ due) = (due, (e, refl))

pub view-Whole : (z : ℤ) → ref_of (ref.Whole z) ≡ datum.number (numbers.whole z)
view-Whole z = search (rules, the_lemmas)

pub view-Decimal : (d : numbers.Decimal) → ref_of (ref.Decimal d) ≡ datum.number (numbers.decimal d)
view-Decimal d = search (rules, the_lemmas)

pub short_text : {v w : Walked} (s : CowStr) → TookSpacedString (cow_bytes s) v w → Moved (TakesMeaning (ref_of (ref.String s))) v w
short_text s k = takes (text k.text_of true) (ref_of (ref.String s)) (ap (λ z. datum.text (chars z)) (sym k.is_text) ∙ sym (view-String s)) k.took.moved

pub long_text : {v w : Walked} (s : CowStr) → TookString s v w → Moved (TakesMeaning (ref_of (ref.String s))) v w
long_text s k = takes (text k.text_of k.escape_free) (ref_of (ref.String s)) (ap (λ z. datum.text (chars z)) (sym k.is_text.1) ∙ sym (view-String s)) k.took.moved

pub short_whole : {v mid w : Walked} (min max n z : ℤ) → mid ≡ v → z ≡ n → TookSpacedWhole min max n mid w → Moved (TakesMeaning (ref_of (ref.Whole z))) v w
short_whole min max n z e same k = from_kept (TakesMeaning (ref_of (ref.Whole z))) e (takes (number (numbers.whole n)) (ref_of (ref.Whole z)) (ap (λ m. datum.number (numbers.whole m)) (sym same) ∙ sym (view-Whole z)) k.took.moved)

pub short_decimal : {v mid w : Walked} (d : numbers.Decimal) → mid ≡ v → TookSpacedNumber (numbers.decimal d) mid w → Moved (TakesMeaning (ref_of (ref.Decimal d))) v w
short_decimal d e k = from_kept (TakesMeaning (ref_of (ref.Decimal d))) e (takes (number (numbers.decimal d)) (ref_of (ref.Decimal d)) (sym (view-Decimal d)) k.moved)

pub took_number : {v w : Walked} (n : numbers.Number) (x : ValueRef) → ref_of x ≡ datum.number n → TookNumber n v w → Moved (TakesMeaning (ref_of x)) v w
took_number n x e k = takes (number n) (ref_of x) (sym e) k.moved

literal_means : (l : Literal) → meaning_of (tree_of l) ≡ datum_of_literal l
literal_means literal.Null = refl
literal_means literal.True = refl
literal_means literal.False = refl

pub took_literal : {v w : Walked} (l : Literal) (x : ValueRef) → ref_of x ≡ datum_of_literal l → Moved (TakesTree (tree_of l)) v w → Moved (TakesMeaning (ref_of x)) v w
took_literal l x e m = takes (tree_of l) (ref_of x) (literal_means l ∙ sym e) m

-- ---- elements

one_more : (ts : Trees) (t : Tree) → meanings_of (snoc ts t) ≡ items_then (meanings_of ts) (meaning_of t)
one_more no_more t = refl
one_more (more s ts) t = ap (item (meaning_of s)) (one_more ts t)

element_read : (xs : Items) (x : Datum) (o p : List Frame) (ts : Trees) (b : At) → meanings_of ts ≡ xs → p ≡ o → IsRead x (in_array ts ∷ p) b → InElements (items_then xs x) o b
element_read xs x o p ts (at_comma t r) e q (m, same) =
    subst (λ z. InElements (items_then xs x) o (at_comma t z)) (sym same) (one_more ts t ∙ ap (λ z. items_then z (meaning_of t)) e ∙ ap (items_then xs) m, q)
element_read xs x o p ts (at_value r) e q k = absurd k
element_read xs x o p ts (at_element us r) e q k = absurd k
element_read xs x o p ts (at_key qs r) e q k = absurd k
element_read xs x o p ts (at_colon qs u f r) e q k = absurd k

in_elements_then : (xs : Items) (x : Datum) (o : List Frame) (a b : At) → InElements xs o a → TakesMeaning x a b → InElements (items_then xs x) o b
in_elements_then xs x o (at_element ts p) b (e, q) (due, k) = element_read xs x o p ts b e q k
in_elements_then xs x o (at_comma t []) b h k = absurd h
in_elements_then xs x o (at_comma t (in_array ts ∷ p)) b h (due, k) = absurd (cc)
in_elements_then xs x o (at_comma t (in_object ps u e ∷ p)) b h k = absurd h
in_elements_then xs x o (at_value p) b h k = absurd h
in_elements_then xs x o (at_key ps p) b h k = absurd h
in_elements_then xs x o (at_colon ps u e p) b h k = absurd h

elements_parted : (xs : Items) (o : List Frame) (a b : At) → InElements xs o a → TakesComma a b → InElements xs o b
elements_parted xs o _ _ h (after_element ts t p) = h
elements_parted xs o _ _ h (after_member ps u e t p) = absurd h

elements_ended : (xs : Items) (o : List Frame) (a b : At) → Closes a b → InElements xs o a → IsRead (datum.array xs) o b
elements_ended xs o _ _ (closes_elements ts p) (e, q) = (ap datum.array e, q)
elements_ended xs o _ _ (closes_array ts t p) (e, q) = (ap datum.array e, q)
elements_ended xs o _ _ (closes_members ps p) h = absurd h
elements_ended xs o _ _ (closes_object ps u e t p) h = absurd h

pub element_more : {v mid w : Walked} (xs : Items) (x : Datum) → Moved (TakesElements xs) v mid → Moved (TakesMeaning x) mid w → Moved (TakesElements (items_then xs x)) v w
element_more xs x p q = followed (TakesElements xs) (TakesMeaning x) (TakesElements (items_then xs x)) (λ a b c m k o is. in_elements_then xs x o b c (m o is) k) p q

pub elements_on : {v mid w : Walked} (xs : Items) → Moved (TakesElements xs) v mid → Moved TakesComma mid w → Moved (TakesElements xs) v w
elements_on xs p q = followed (TakesElements xs) TakesComma (TakesElements xs) (λ a b c m k o is. elements_parted xs o b c (m o is) k) p q

pub elements_closed : {v mid w : Walked} (xs : Items) → Moved (TakesElements xs) v mid → Moved Closes mid w → Moved (Finishes kind.Array (datum.array xs)) v w
elements_closed xs p q = followed (TakesElements xs) Closes (Finishes kind.Array (datum.array xs)) (λ a b c m k o is. elements_ended xs o b c k (m o is)) p q

-- ---- members

one_member_more : (ps : Members) (u : List ℕ) (e : Bool) (t : Tree) → member_meanings (snoc_member ps u e t) ≡ fields_then (member_meanings ps) (chars (encode_utf8_all u)) (meaning_of t)
one_member_more no_member u e t = refl
one_member_more (member v f s ps) u e t = ap (field (chars (encode_utf8_all v)) (meaning_of s)) (one_member_more ps u e t)

member_read : (fs : Fields) (x : Datum) (bytes u : List ℕ) (e : Bool) (o p : List Frame) (ps : Members) (b : At) → member_meanings ps ≡ fs → p ≡ o → bytes ≡ encode_utf8_all u → IsRead x (in_object ps u e ∷ p) b → InMembers (fields_then fs (chars bytes) x) o b
member_read fs x bytes u e o p ps (at_comma t r) is q named (m, same) =
    subst (λ z. InMembers (fields_then fs (chars bytes) x) o (at_comma t z)) (sym same)
    (one_member_more ps u e t ∙ ap (λ z. fields_then z (chars (encode_utf8_all u)) (meaning_of t)) is ∙ ap (λ z. fields_then fs (chars z) (meaning_of t)) (sym named) ∙ ap (fields_then fs (chars bytes)) m, q)
member_read fs x bytes u e o p ps (at_value r) is q named k = absurd k
member_read fs x bytes u e o p ps (at_element us r) is q named k = absurd k
member_read fs x bytes u e o p ps (at_key qs r) is q named k = absurd k
member_read fs x bytes u e o p ps (at_colon qs w f r) is q named k = absurd k

in_members_then : (fs : Fields) (x : Datum) (bytes : List ℕ) (o : List Frame) (a b c d : At) → TakesKeyOf bytes a b → TakesColon b c → InMembers fs o a → TakesMeaning x c d → InMembers (fields_then fs (chars bytes) x) o d
in_members_then fs x bytes o _ _ _ d (takes_key ps u e p named) (takes_colon _ _ _ _) (is, q) (due, k) = member_read fs x bytes u e o p ps d is q named k

members_parted : (fs : Fields) (o : List Frame) (a b : At) → InMembers fs o a → TakesComma a b → InMembers fs o b
members_parted fs o _ _ h (after_element ts t p) = absurd h
members_parted fs o _ _ h (after_member ps u e t p) = h

members_ended : (fs : Fields) (o : List Frame) (a b : At) → Closes a b → InMembers fs o a → IsRead (datum.object fs) o b
members_ended fs o _ _ (closes_elements ts p) h = absurd h
members_ended fs o _ _ (closes_array ts t p) h = absurd h
members_ended fs o _ _ (closes_members ps p) (is, q) = (ap datum.object is, q)
members_ended fs o _ _ (closes_object ps u e t p) (is, q) = (ap datum.object is, q)

pub member_more : {v0 v1 v2 v3 v4 : Walked} (fs : Fields) (bytes : List ℕ) (x : Datum) → Moved (TakesMembers fs) v0 v1 → Moved (TakesKeyOf bytes) v1 v2 → Moved TakesColon v2 v3 → Moved (TakesMeaning x) v3 v4
    → Moved (TakesMembers (fields_then fs (chars bytes) x)) v0 v4
member_more fs bytes x p q r l = record {
  text = l.text ∙ r.text ∙ q.text ∙ p.text;
  limit = l.limit ∙ r.limit ∙ q.limit ∙ p.limit;
  leads = λ s f.
      let (a, m, f1) = p.leads s f in
      let (b, k, f2) = q.leads (record { now = a; marked = s.marked }) f1 in
      let (c, n, f3) = r.leads (record { now = b; marked = s.marked }) f2 in
      let (d, j, f4) = l.leads (record { now = c; marked = s.marked }) f3 in
      (d, λ o is. in_members_then fs x bytes o a b c d k n (m o is) j, f4);
}

pub members_on : {v mid w : Walked} (fs : Fields) → Moved (TakesMembers fs) v mid → Moved TakesComma mid w → Moved (TakesMembers fs) v w
members_on fs p q = followed (TakesMembers fs) TakesComma (TakesMembers fs) (λ a b c m k o is. members_parted fs o b c (m o is) k) p q

pub members_closed : {v mid w : Walked} (fs : Fields) → Moved (TakesMembers fs) v mid → Moved Closes mid w → Moved (Finishes kind.Object (datum.object fs)) v w
members_closed fs p q = followed (TakesMembers fs) Closes (Finishes kind.Object (datum.object fs)) (λ a b c m k o is. members_ended fs o b c k (m o is)) p q

-- ---- items of a loop

pub closed_at : {v w : Walked} (r : Option ValueRef) → r ≡ None → TakesItem r v w → Moved Closes v w
closed_at {v = v} {w = w} r e h = subst (λ z. TakesItem z v w) e h

pub item_at : {v w : Walked} (r : Option ValueRef) (x : ValueRef) → r ≡ Some x → TakesItem r v w → Moved (TakesMeaning (ref_of x)) v w
item_at {v = v} {w = w} r x e h = subst (λ z. TakesItem z v w) e h

pub no_key_at : {v w : Walked} (r : Option CowStr) → r ≡ None → TakesKey r v w → Moved Closes v w
no_key_at {v = v} {w = w} r e h = subst (λ z. TakesKey z v w) e h

pub key_at : {v w : Walked} (r : Option CowStr) (k : CowStr) → r ≡ Some k → TakesKey r v w → Moved (TakesKeyOf (cow_bytes k)) v w
key_at {v = v} {w = w} r k e h = subst (λ z. TakesKey z v w) e h

pub comma_at : {v w : Walked} (goes : Bool) → goes ≡ true → TakesPart v w goes → Moved TakesComma v w
comma_at {v = v} {w = w} goes e h = subst (TakesPart v w) e h

pub end_at : {v w : Walked} (goes : Bool) → goes ≡ false → TakesPart v w goes → Moved Closes v w
end_at {v = v} {w = w} goes e h = subst (TakesPart v w) e h

pub pushed : {v mid w : Walked} (vs new : List ValueRef) (x : ValueRef) → new ≡ vs ++ x ∷ [] → Moved (TakesElements (refs_view vs)) v mid → Moved (TakesMeaning (ref_of x)) mid w → Moved (TakesElements (refs_view new)) v w
pushed {v = v} {w = w} vs new x e p q = subst (λ z. Moved (TakesElements z) v w) (sym (ap refs_view e ∙ refs_last vs x)) (element_more (refs_view vs) (ref_of x) p q)

pub member_pushed : {v0 v1 v2 v3 v4 : Walked} (fs new : List (CowStr × ValueRef)) (k : CowStr) (x : ValueRef) → new ≡ fs ++ (k, x) ∷ [] → Moved (TakesMembers (members_view fs)) v0 v1
    → Moved (TakesKeyOf (cow_bytes k)) v1 v2 → Moved TakesColon v2 v3 → Moved (TakesMeaning (ref_of x)) v3 v4 → Moved (TakesMembers (members_view new)) v0 v4
member_pushed {v0 = v} {v4 = w} fs new k x e p q r l =
    subst (λ z. Moved (TakesMembers z) v w) (sym (ap members_view e ∙ members_last fs (k, x))) (member_more (members_view fs) (cow_bytes k) (ref_of x) p q r l)

-- ---- a collection

opened : {v mid w : Walked} (k : Kind) (x : Datum) → Moved (Opens k) v mid → Moved (Finishes k x) mid w → Moved (TakesMeaning x) v w
opened k x p q = followed (Opens k) (Finishes k x) (TakesMeaning x) (λ a b c. so k a b c) p q
  where
    so : (k : Kind) (a b c : At) → Opens k a b → Finishes k x b c → TakesMeaning x a c
    so _ _ _ c (opens_array a due) m = (due, m (value_frames a) (refl, refl))
    so _ _ _ c (opens_object a due) m = (due, m (value_frames a) (refl, refl))

-- blanks, a bracket, and what is left after it
pub taken_within : {u v mid w : Walked} (k : Kind) (x : Datum) (value : ValueRef) → ref_of value ≡ x → Moved Stays u v → Moved (Opens k) v mid → Moved (Finishes k x) mid w → Moved (TakesMeaning (ref_of value)) u w
taken_within {u = u} {w = w} k x value e gap p q = subst (λ z. Moved (TakesMeaning z) u w) (sym e) (after_gap gap (opened k x p q))

-- ---- the whole

-- the whole text is a document of a tree that means x
abbrev pub Means : ℕ → List ℕ → Datum → Type 0
Means limit x d = (t : Tree) × Doc limit x t × (d ≡ datum_of t)

ended : (x : Datum) (a : At) (t : Tree) → IsRead x [] a → a ≡ at_comma t [] → meaning_of t ≡ x
ended x a t is e = (subst (λ z. IsRead x [] z) e is).0

pub whole : (bytes : List ℕ) (limit : ℕ) (x : Datum) (v w : Walked) → IsUtf8 bytes → v ≡ at_start bytes limit → Moved (TakesMeaning x) v w → ((s : Trail) → IsAt w s → Ends w s) → Means limit (chars bytes) x
whole bytes limit x v w utf8 e m ends =
    let begun : Moved (TakesMeaning x) (at_start bytes limit) w = subst (λ z. Moved (TakesMeaning x) z w) e m in
    let (a, k, f) = begun.leads (record { now = at_value []; marked = None }) (starts_at utf8) in
    let d = ends (record { now = a; marked = None }) f in
    let doc : Doc limit (chars bytes) d.tree = subst (λ n. Doc n (chars bytes) d.tree) begun.limit (subst (λ y. Doc w.limit (chars y) d.tree) begun.text d.document) in
    (d.tree, doc, sym (ended x a d.tree k.1 d.walked) ∙ document_means bytes limit d.tree utf8 doc)

pub read_whole : (limit : ℕ) (x : List ℕ) (v : ValueRef) → Means limit x (ref_of v) → ReadsRef limit x (Ok v)
read_whole limit x v (t, d, e) = record {
  sound = (t, d, e);
  complete = λ u k. e ∙ ap datum_of (one_tree limit limit x t u d k);
  refused = tt;
}

-- what was read anew and copied
pub copied : (limit : ℕ) (x : List ℕ) (v : Value) (r : Result ValueRef Error) → ReadsText limit x (Ok v) → MatchResult r (λ w. ref_of w ≡ value_of v) LacksMemory → ReadsRef limit x r
copied limit x v (Ok w) k e = let (t, d, is) = k.sound in read_whole limit x w (t, d, e ∙ is)
copied limit x v (Err e) k lacks = record {
  sound = tt;
  complete = λ t d. lacks.kind;
  refused = record { cause = inl lacks.kind; unprompted = λ h. cc };
}

pub unread : (limit : ℕ) (x : List ℕ) (e : Error) → ReadsText limit x (Err e) → ReadsRef limit x (Err e)
unread limit x e k = record { sound = tt; complete = k.complete; refused = k.refused }
