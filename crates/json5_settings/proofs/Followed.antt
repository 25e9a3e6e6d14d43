-- Members with a key, one after another.
use Rattle.std.proofs.Common.{◌≡◌, ◌∙◌, ◌+◌, ◌++◌, ◌==◌, ◌&&◌, ℕ, suc, arith, Bool, true, false, if◌then◌else◌, nat_eq, List, [], ◌∷◌, length, Option, Some, None, is_some, refl, ap, sym, String, string_bytes}
use Rattle.std.specs.declared.alloc.Global.{Global}
use Rattle.std.specs.Str.{chars}
use Rattle.std.specs.Cmp.Lexicographic.{pointwise}
use Rattle.json5_types.specs.ValueChanges.{has_key}
use Rattle.std.proofs.lemmas.Bool.{eq-eqb, ne_eqb}
use Rattle.std.proofs.lemmas.List.{length-append}
use Rattle.json5_types.proofs.ValuesCounted.{items_counted}
use Rattle.json5_types.specs.ValueLookups.{item_at, last_named, or_else}
use Rattle.json5_types.specs.ValueEquality.{datum_eq}
use Rattle.json5_types.specs.ValueMeanings.{Datum, Items, item, array, Fields, field, object, value_of, items_view, fields_view}
use Rattle.json5_types.specs.declared.value.Value.{Value}
use Rattle.json5_read.specs.BuildSteps.{elements_before}
use Rattle.json5_read.proofs.BuildRests.{no_more_elements}
use Rattle.json5_settings.specs.Follows.{are_as_many, elements_followed, followed, members_followed, without_gone}

abbrev Member : Type 0
Member = String Global × Value

or_none : (a : Option Datum) → is_some (or_else a None) ≡ is_some a
or_none None = refl
or_none (Some y) = refl

named_behind : (key u : List ℕ) (x : Datum) (fs : Fields) → pointwise nat_eq u key ≡ false → has_key key (field u x fs) ≡ has_key key fs
named_behind key u x fs h = ap (λ b. is_some (or_else (last_named key fs) (if b then Some x else None))) h ∙ or_none (last_named key fs)

-- where the first member has another key, those behind it say whether one has this
pub key_behind : (key : List ℕ) (fs gs : List Member) (f : Member) (b : Bool) → fs ≡ f ∷ gs → pointwise nat_eq (chars (string_bytes f.0)) key ≡ false → has_key key (fields_view fs) ≡ b → has_key key (fields_view gs) ≡ b
key_behind key fs gs f b e other h = sym (named_behind key (chars (string_bytes f.0)) (value_of f.1) (fields_view gs) other) ∙ ap (λ xs. has_key key (fields_view xs)) (sym e) ∙ h

-- ---- what a member of an object becomes

unfolded : (os ns bs : Fields) → datum_eq (object os) (object ns) ≡ false → followed (Some (object os)) (object ns) (Some (object bs)) ≡ without_gone os (object ns) (members_followed (object os) ns (object bs))
unfolded os ns bs h = ap (λ b. if b then object bs else without_gone os (object ns) (members_followed (object os) ns (object bs))) h

pub followed_objects : (os ns bs : Fields) (old new before left made : Datum) → old ≡ object os → new ≡ object ns → before ≡ object bs → datum_eq old new ≡ false
    → left ≡ members_followed old ns before → made ≡ without_gone os new left → made ≡ followed (Some old) new (Some before)
followed_objects os ns bs old new before left made eo en eb differ l m =
    let differ' = rw (eo, en) at differ in
    let l' = rw (eo, eb) at l in
    let m' = rw en at m in
    rw (eo, en, eb) (m' ∙ ap (without_gone os (object ns)) l' ∙ sym (unfolded os ns bs differ'))

-- ---- what an element of an array becomes

many_alike : (os ns bs : List Value) → are_as_many (items_view os) (items_view ns) (items_view bs) ≡ ((length os == length ns) && (length ns == length bs))
many_alike os ns bs = rw (items_counted os, items_counted ns, items_counted bs) refl

pub many_then : (os ns bs : List Value) → length os ≡ length ns → (length ns == length bs) ≡ are_as_many (items_view os) (items_view ns) (items_view bs)
many_then os ns bs e = ap (λ b. b && (length ns == length bs)) (sym (eq-eqb (length os) (length ns) e)) ∙ sym (many_alike os ns bs)

pub many_else : (os ns bs : List Value) → (length os ≡ length ns → ⊥) → (length os == length ns) ≡ are_as_many (items_view os) (items_view ns) (items_view bs)
many_else os ns bs e = ne_eqb (length os) (length ns) e ∙ ap (λ b. b && (length ns == length bs)) (sym (ne_eqb (length os) (length ns) e)) ∙ sym (many_alike os ns bs)

last_element : (vs : List Value) (v : Value) (xs : Items) → elements_before (vs ++ v ∷ []) xs ≡ elements_before vs (item (value_of v) xs)
last_element [] v xs = refl
last_element (w ∷ vs) v xs = ap (item (value_of w)) (last_element vs v xs)

-- one more was changed, and what is left gives the whole still
pub one_element : (done all rest behind : List Value) (v n : Value) (os bs whole : Items) → all ≡ done ++ (v ∷ []) → rest ≡ n ∷ behind → value_of v ≡ followed (item_at (length done) os) (value_of n) (item_at (length done) bs)
    → elements_before done (elements_followed (length done) os (items_view rest) bs) ≡ whole → elements_before all (elements_followed (length all) os (items_view behind) bs) ≡ whole
one_element done all rest behind v n os bs whole is split so before =
    let one : length done + 1 ≡ suc (length done) = omega arith in
    let count : length all ≡ suc (length done) = ap length is ∙ length-append done (v ∷ []) ∙ one in
    ap (λ k. elements_before all (elements_followed k os (items_view behind) bs)) count ∙ ap (λ z. elements_before z (elements_followed (suc (length done)) os (items_view behind) bs)) is
    ∙ last_element done v (elements_followed (suc (length done)) os (items_view behind) bs) ∙ ap (λ x. elements_before done (item x (elements_followed (suc (length done)) os (items_view behind) bs))) so
    ∙ ap (λ r. elements_before done (elements_followed (length done) os (items_view r) bs)) (sym split) ∙ before

pub all_elements : (done rest : List Value) (os bs whole : Items) → length rest ≡ 0 → elements_before done (elements_followed (length done) os (items_view rest) bs) ≡ whole → items_view done ≡ whole
all_elements done [] os bs whole none before = sym (no_more_elements done) ∙ before
all_elements done (x ∷ xs) os bs whole none before = absurd (omega (arith, none))

pub no_element_yet : (done : List Value) (os ns bs : Items) → done ≡ [] → elements_before done (elements_followed (length done) os ns bs) ≡ elements_followed 0 os ns bs
no_element_yet done os ns bs e = rw e refl

pub followed_arrays : (os ns bs made : Items) (old new before all : Datum) → old ≡ array os → new ≡ array ns → before ≡ array bs → all ≡ array made → datum_eq old new ≡ false → are_as_many os ns bs ≡ true → made ≡ elements_followed 0 os ns bs → all ≡ followed (Some old) new (Some before)
followed_arrays os ns bs made old new before all eo en eb ea differ many m =
    let differ' = rw (eo, en) at differ in
    rw (ea, eo, en, eb, differ', many) (ap array m)

pub other_arrays : (os ns bs : Items) (old new before all : Datum) → old ≡ array os → new ≡ array ns → before ≡ array bs → all ≡ new → datum_eq old new ≡ false → are_as_many os ns bs ≡ false → all ≡ followed (Some old) new (Some before)
other_arrays os ns bs old new before all eo en eb ea differ few =
    let differ' = rw (eo, en) at differ in
    rw (ea, eo, en, eb, differ', few) refl
