-- Forms that are added step by step.
use Rattle.std.proofs.Common.{◌≡◌, ◌∙◌, ◌<◌, ◌+◌, get_or, drop, length, ℕ, List, [], ◌∷◌, ◌++◌, append_assoc, append-nil, refl, sym, ap, subst, arith, String, string_bytes, Vec}
use Rattle.std.specs.declared.alloc.Global.{Global}
use Rattle.std.specs.declared.cmp.Ordering.{Ordering}
use Rattle.std.specs.declared.cmp.Ordering.TheVariants.{Less, Equal, Greater}
use Rattle.std.specs.Borrow.{Bor}
use Rattle.std.specs.BTreeMap.{insert_entry}
use Rattle.std.specs.Cmp.Lexicographic.{slice_cmp}
use Rattle.std.specs.FinMap.Entries.{by_order}
use Rattle.std.specs.FinMap.{insert, entries, put, entries-insert, len-empty, len-entries}
use Rattle.std.specs.Ordering.{match_ordering, nat_cmp}
use Rattle.std.specs.Str.{chars, encode_utf8_all, IsUtf8}
use Rattle.std.proofs.lemmas.Cmp.{nat_list_cmp_total}
use Rattle.std.proofs.lemmas.Str.{encodes-chars}
use Rattle.json5_grammar.specs.Language.Characters.{right_bracket}
use Rattle.json5_types.specs.declared.value.Value.{Value}
use Rattle.json5_types.specs.ValueMeanings.{text, array, Items, Fields, value_of, fields_view}
use Rattle.json5_types.specs.declared.value.Value as value
use Rattle.json5_types.proofs.LookedUp.{from_here}
use Rattle.json5_types.proofs.ValuesCompared.{view-String}
use Rattle.json5_schema.specs.CanonicalForms.{Forms, no_forms, form, items_form, forms_with, AreSound, HasSound, AddsForm, read, members_form, text_form}

added_on : (o a : List ℕ) {n : List ℕ} (rest : List ℕ) → n ≡ o ++ a → n ++ rest ≡ o ++ (a ++ rest)
added_on o a rest h = ap (λ l. l ++ rest) h ∙ append_assoc o a rest

-- the forms of the elements that are left end the whole
pub record ItemsLeft (start now : List ℕ) (left all : Items) : Type 0 where
  pub bytes : now ++ (items_form left ++ right_bracket ∷ []) ≡ start ++ form (array all)
  pub sound : AreSound left → AreSound all

-- ---- members

abbrev Member : Type 0
Member = String Global × Value

abbrev Entry : Type 0
Entry = Bor (List ℕ) × Vec ℕ Global

abbrev names_cmp : Bor (List ℕ) → Bor (List ℕ) → Ordering
names_cmp x y = slice_cmp nat_cmp x.now y.now

read_put : (es : List Entry) (k : Bor (List ℕ)) (v : Vec ℕ Global) → read (insert_entry names_cmp es k v) ≡ put (slice_cmp nat_cmp) k.now v.items (read es)
read_put [] k v = refl
read_put (e ∷ es) k v = go (read_put es k v) (names_cmp k e.0)
  where
    go : read (insert_entry names_cmp es k v) ≡ put (slice_cmp nat_cmp) k.now v.items (read es) → (r : Ordering) → read (match_ordering r ((k, v) ∷ e ∷ es) ((e.0, v) ∷ es) (e ∷ insert_entry names_cmp es k v)) ≡ by_order r ((k.now, v.items) ∷ read (e ∷ es)) ((e.0.now, v.items) ∷ read es) ((e.0.now, e.1.items) ∷ put (slice_cmp nat_cmp) k.now v.items (read es))
    go more Less = refl
    go more Equal = refl
    go more Greater = ap (λ l. (e.0.now, e.1.items) ∷ l) more

-- the members that are left are put to the forms that are held
pub record MembersLeft (es : List Entry) (left all : Fields) : Type 0 where
  pub held : Forms
  pub here : read es ≡ entries held
  pub whole : forms_with held left ≡ forms_with no_forms all
  pub sound : HasSound left → HasSound all

none_long : (es : List (List ℕ × List ℕ)) → length es ≡ 0 → [] ≡ es
none_long [] h = refl
none_long (e ∷ es) h = absurd (omega (arith, h))

pub first_member : (es : List Entry) (fs : Fields) → es ≡ [] → MembersLeft es fs fs
first_member es fs h = record {
  held = no_forms;
  here = ap read h ∙ none_long (entries no_forms) (sym (len-entries no_forms) ∙ len-empty (slice_cmp nat_cmp) (List ℕ));
  whole = refl;
  sound = λ s. s;
}

pub next_member : (es next : List Entry) (fs : List Member) (i : ℕ) (f : Member) (k : Bor (List ℕ)) (v : Vec ℕ Global) → i < length fs → f ≡ get_or fs i f → next ≡ insert_entry names_cmp es k v → k.now ≡ string_bytes f.0 → IsUtf8 k.now
    → AddsForm [] v.items (value_of f.1) → MembersLeft es (fields_view (drop i fs)) (fields_view fs) → MembersLeft next (fields_view (drop (i + 1) fs)) (fields_view fs)
next_member es next fs i f k v h is put_in named utf8 made left =
    let rest = fields_view (drop (i + 1) fs) in
    let u = chars (string_bytes f.0) in
    let was = subst (λ gs. MembersLeft es gs (fields_view fs)) (ap fields_view (from_here fs i f h is)) left in
    let bytes : k.now ≡ encode_utf8_all u = sym (encodes-chars k.now utf8) ∙ ap (λ b. encode_utf8_all (chars b)) named in
    record {
      held = insert was.held (encode_utf8_all u) (form (value_of f.1));
      here = ap read put_in ∙ read_put es k v ∙ ap (λ b. put (slice_cmp nat_cmp) b v.items (read es)) bytes ∙ ap (λ b. put (slice_cmp nat_cmp) (encode_utf8_all u) b (read es)) made.bytes
          ∙ ap (put (slice_cmp nat_cmp) (encode_utf8_all u) (form (value_of f.1))) was.here ∙ sym (entries-insert nat_list_cmp_total was.held (encode_utf8_all u) (form (value_of f.1)));
      whole = was.whole;
      sound = λ s. was.sound (ap chars (sym bytes) ∙ ap chars named, made.sound, s);
    }

-- ---- entries of a map

pub next_entry : (start now named next : List ℕ) (es rest : List Entry) (e : Entry) → es ≡ e ∷ rest → named ≡ now ++ text_form e.0.now → next ≡ named ++ e.1.items → now ++ members_form (read es) ≡ start → next ++ members_form (read rest) ≡ start
next_entry start now named next es rest e here h k was =
    let left = members_form (read rest) in
    added_on _ _ left k ∙ added_on _ _ (e.1.items ++ left) h ∙ ap (λ xs. now ++ members_form (read xs)) (sym here) ∙ was

pub last_entry : (start now : List ℕ) (es : List Entry) → es ≡ [] → now ++ members_form (read es) ≡ start → now ≡ start
last_entry start now es none was = sym (append-nil now) ∙ ap (λ xs. now ++ members_form (read xs)) (sym none) ∙ was

-- ---- texts

pub text_added : (old new : List ℕ) (v : Value) (s : String Global) (bytes : List ℕ) → v ≡ value.String s → bytes ≡ string_bytes s → IsUtf8 bytes → new ≡ old ++ text_form bytes → AddsForm old new (value_of v)
text_added old new v s bytes is same utf8 h =
    let seen : value_of v ≡ text (chars (string_bytes s)) = ap value_of is ∙ view-String s in
    let back : bytes ≡ encode_utf8_all (chars (string_bytes s)) = sym (encodes-chars bytes utf8) ∙ ap (λ b. encode_utf8_all (chars b)) same in
    subst (AddsForm old new) (sym seen) (record { bytes = h ∙ ap (λ b. old ++ text_form b) back; sound = tt })
