-- What merging a patch makes of a tree.
use denote.Ref.{Bor}
use Rattle.std.proofs.Common.{◌≡◌, ◌≤◌, ◌<◌, ◌+◌, ℕ, zero, suc, Bool, true, false, List, [], ◌∷◌, ◌++◌, length, take, get_or, refl, ap, sym, ◌∙◌, subst, inl, inr, arith, Option, Some, None}
use Rattle.std.specs.declared.alloc.Global.{Global}
use Rattle.std.specs.Prelude.{String, string_bytes, is_some, option_map}
use Rattle.std.specs.Str.{chars, IsUtf8, encode_utf8_all}
use Rattle.std.proofs.lemmas.Str.{encodes-chars}
use lib.Chars.{codes}
use Rattle.json5_grammar.specs.Language.Documents.{Doc, max_depth}
use Rattle.json5_grammar.specs.Language.Trees.{Tree, null, boolean, number, text, array, object, no_member}
use Rattle.json5_grammar.specs.Language.Values.{Val}
use Rattle.json5_types.specs.ValueLookups.{datum_depth, fields_depth, fields_in, is_null}
use Rattle.json5_types.specs.ValueMeanings as patch
use Rattle.json5_types.specs.ValueMeanings.{Datum, Fields, fields_view, value_of}
use Rattle.json5_types.specs.declared.value.Value.{Value}
use Rattle.json5_read.specs.TreeMeanings.{datum_of}
use Rattle.json5_format.proofs.Formats.{written_tree}
use Rattle.json5_write.specs.EscapeFreeMarks.{unmarked}
use Rattle.json5_write.specs.ValueTrees.{datum_tree}
use Rattle.json5_edit.specs.Changes.{ChangesBy, IsRemoved}
use Rattle.json5_edit.specs.Comparing.{IsWithout}
use Rattle.json5_edit.specs.Parts.{part, positions_of, put}
use Rattle.json5_edit.specs.Places.{LeadsNowhere, LeadsTo}
use Rattle.json5_edit.specs.Refusals.{Reaches}
use Rattle.json5_edit.specs.declared.paths.Step.{Step}
use Rattle.json5_edit.specs.declared.places.ValueSpan.{ValueSpan}
use Rattle.json5_edit.specs.declared.paths.Step.TheVariants as step
use Rattle.json5_edit_values.specs.Locations.{Becomes, ChangesAt}
use Rattle.json5_edit_values.specs.Merges.{Merges, MergesEach, MergesMember, stays_out, goes_out, merges, joins, object_or_empty}
use Rattle.json5_edit_values.specs.News.{IsMergedOf, IsTakenOut, JoinsMerged, LeadsSo, LeadsToObject, MergesFieldInto, MergesFieldsInto, MergesInto}
use Rattle.json5_edit_values.specs.Patches.{IsOf, Joins}
use Rattle.json5_edit_values.proofs.PatchesMade.{empty_document, one_alone, one_document, one_there}
use Rattle.json5_edit_values.proofs.PathsJoined.{changes_twice, changes_within, lacks_key, leads_after, stays_at}

-- ---- a patch by its kind

merges_plain : (p : Datum) (t u : Tree) → fields_in p ≡ None → unmarked u ≡ datum_tree p → Merges p t u
merges_plain patch.null t u none e = e
merges_plain (patch.boolean b) t u none e = e
merges_plain (patch.number n) t u none e = e
merges_plain (patch.text x) t u none e = e
merges_plain (patch.array xs) t u none e = e
merges_plain (patch.object fs) t u none e = absurd (cc)

merges_object : (p : Datum) (fs : Fields) (t w u : Tree) → fields_in p ≡ Some fs → MergesEach fs (object_or_empty t) w → unmarked u ≡ unmarked w → Merges p t u
merges_object patch.null fs t w u is m e = absurd (cc)
merges_object (patch.boolean b) fs t w u is m e = absurd (cc)
merges_object (patch.number n) fs t w u is m e = absurd (cc)
merges_object (patch.text x) fs t w u is m e = absurd (cc)
merges_object (patch.array xs) fs t w u is m e = absurd (cc)
merges_object (patch.object gs) fs t w u is m e =
    let same : fs ≡ gs = cc in
    (w, subst (λ z. MergesEach z (object_or_empty t) w) same m, e)

object_itself : (t : Tree) → is_some (fields_in (datum_of t)) ≡ true → object_or_empty t ≡ t
object_itself null e = absurd (cc)
object_itself (boolean b) e = absurd (cc)
object_itself (number n) e = absurd (cc)
object_itself (text u b) e = absurd (cc)
object_itself (array ts) e = absurd (cc)
object_itself (object ps) e = refl

other_emptied : (t : Tree) → is_some (fields_in (datum_of t)) ≡ false → object_or_empty t ≡ object no_member
other_emptied null e = refl
other_emptied (boolean b) e = refl
other_emptied (number n) e = refl
other_emptied (text u b) e = refl
other_emptied (array ts) e = refl
other_emptied (object ps) e = absurd (cc)

is_no_null : (p : Datum) → is_null p ≡ false → p ≡ patch.null → ⊥
is_no_null p e is = let no : true ≡ false = ap is_null (sym is) ∙ e in absurd (cc)

null_is : (p : Datum) → is_null p ≡ true → p ≡ patch.null
null_is patch.null e = refl
null_is (patch.boolean b) e = absurd (cc)
null_is (patch.number n) e = absurd (cc)
null_is (patch.text x) e = absurd (cc)
null_is (patch.array xs) e = absurd (cc)
null_is (patch.object fs) e = absurd (cc)

-- ---- depths

pub depth_of : (p : Datum) (fs : Fields) → fields_in p ≡ Some fs → suc (fields_depth fs) ≡ datum_depth p
depth_of patch.null fs e = absurd (cc)
depth_of (patch.boolean b) fs e = absurd (cc)
depth_of (patch.number n) fs e = absurd (cc)
depth_of (patch.text x) fs e = absurd (cc)
depth_of (patch.array xs) fs e = absurd (cc)
depth_of (patch.object gs) fs e = let same : fs ≡ gs = cc in ap (λ z. suc (fields_depth z)) same

pub depth_within : (fs : List (String Global × Value)) (i : ℕ) (f : String Global × Value) → i < length fs → f ≡ get_or fs i f → datum_depth (value_of f.1) ≤ fields_depth (fields_view fs)
depth_within [] i f h is = absurd (omega (arith, h))
depth_within (g ∷ fs) zero f h is = let same : datum_depth (value_of f.1) ≡ datum_depth (value_of g.1) = ap (λ (z : String Global × Value). datum_depth (value_of z.1)) is in omega (arith, same)
depth_within (g ∷ fs) (suc i) f h is = let inside = depth_within fs i f (omega (arith, h)) is in omega (arith, inside)

-- ---- a change at the root

pub change_whole : (Change : Tree → Tree → Type 0) (t u : Tree) → ChangesAt Change [] t u → Change t u
change_whole Change t u c =
    let led = c.led in
    let none : c.positions ≡ [] = cc in
    let found : Some t ≡ Some c.old = ap (λ z. part z t) (sym none) ∙ c.there in
    let old : c.old ≡ t = cc in
    let new : c.new ≡ u = sym (c.now ∙ ap (λ z. put z t c.new) none) in
    subst (λ z. Change z u) old (subst (Change c.old) new c.changed)

pub merged_whole : (patch : Value) (bytes made : List ℕ) (steps : List Step) → steps ≡ [] → ChangesBy (MergesInto patch steps) bytes made → ChangesBy (Merges (value_of patch)) bytes made
merged_whole patch bytes made steps is (t, u, d, e, c) = (t, u, d, e, change_whole (Merges (value_of patch)) t u (subst (λ z. ChangesAt (Merges (value_of patch)) z t u) is c))

-- where the steps lead
same_there : (Such : Tree → Type 0) (Change : Tree → Tree → Type 0) (bytes : List ℕ) (steps : List Step) (t u : Tree) → Doc max_depth (chars bytes) t → Reaches Such bytes steps → (c : ChangesAt Change steps t u) → Such c.old
same_there Such Change bytes steps t u d r c =
    subst Such (one_there steps r.tree t r.value c.old r.positions c.positions (one_document (chars bytes) r.tree t r.document d) r.led r.there c.led c.there) r.such

pub leads_to : (b : Bool) (bytes : List ℕ) (steps : List Step) → LeadsToObject b bytes steps → LeadsSo true bytes steps
leads_to b bytes steps r = record { tree = r.tree; document = r.document; positions = r.positions; led = r.led; value = r.value; there = r.there; such = tt }

some_mapped : {A B : Type 0} (f : A → B) (r : Option A) → is_some (option_map f r) ≡ is_some r
some_mapped f None = refl
some_mapped f (Some a) = refl

pub object_found : {A : Type 0} (f : A → Fields) (bytes spelled : List ℕ) (steps : List Step) → Reaches (Val (chars spelled)) bytes steps → (x : Datum) → (t : Tree) × Doc max_depth (chars spelled) t × (x ≡ datum_of t) → (r : Option A) → option_map f r ≡ fields_in x → (b : Bool) → b ≡ is_some r → LeadsToObject b bytes steps
object_found f bytes spelled steps p x (t, d, is) r in_x b e =
    let same = one_alone (chars spelled) t p.value d p.such in
    let found = ap (λ z. is_some (fields_in (datum_of z))) (sym same) ∙ ap (λ z. is_some (fields_in z)) (sym is) ∙ ap is_some (sym in_x) ∙ some_mapped f r ∙ sym e in
    record { tree = p.tree; document = p.document; positions = p.positions; led = p.led; value = p.value; there = p.there; such = found }

pub leads_so : (bytes : List ℕ) (steps : List Step) (span : Option ValueSpan) (b : Bool) → LeadsTo bytes steps span → b ≡ is_some span → LeadsSo b bytes steps
leads_so bytes steps span b (None, l, is) e = subst (λ z. LeadsSo z bytes steps) (sym (e ∙ ap is_some is)) (l.tree, l.document, l.placed)
leads_so bytes steps span b (Some p, l, is) e =
    let q = l.placed in
    subst (λ z. LeadsSo z bytes steps) (sym (e ∙ ap is_some is)) (record { tree = l.tree; document = l.document; positions = q.positions; led = q.led; value = q.tree; there = q.there; such = tt })

-- ---- the patch merged into what is there

module _ (bytes made : List ℕ) (steps : List Step) where
  pub set_plain : (p : Value) → fields_in (value_of p) ≡ None → ChangesBy (λ t u. (v : Tree) × IsOf p v × ChangesAt (Becomes v) steps t u) bytes made → ChangesBy (MergesInto p steps) bytes made
  set_plain p none (t, u, d, e, (v, b, c)) =
      (t, u, d, e, record { positions = c.positions; led = c.led; old = c.old; new = c.new; there = c.there; now = c.now; changed = merges_plain (value_of p) c.old c.new none (ap unmarked c.changed ∙ b) })

  pub merged_in : (p : Value) (fs : List (String Global × Value)) → fields_in (value_of p) ≡ Some (fields_view fs) → LeadsToObject true bytes steps → ChangesBy (MergesFieldsInto fs steps) bytes made → ChangesBy (MergesInto p steps) bytes made
  merged_in p fs is r (t, u, d, e, c) =
      let old = object_itself c.old (same_there (λ z. is_some (fields_in (datum_of z)) ≡ true) (MergesEach (fields_view fs)) bytes steps t u d r c) in
      let each = subst (λ z. MergesEach (fields_view fs) z c.new) (sym old) c.changed in
      (t, u, d, e, record { positions = c.positions; led = c.led; old = c.old; new = c.new; there = c.there; now = c.now; changed = merges_object (value_of p) (fields_view fs) c.old c.new c.new is each refl })

  pub set_merged : (p : Value) (fs : List (String Global × Value)) (k : Value) → fields_in (value_of p) ≡ Some (fields_view fs) → LeadsToObject false bytes steps → IsMergedOf fs k
      → ChangesBy (λ t u. (v : Tree) × IsOf k v × ChangesAt (Becomes v) steps t u) bytes made
      → ChangesBy (MergesInto p steps) bytes made
  set_merged p fs k is r (w, m, o) (t, u, d, e, (v, b, c)) =
      let old = other_emptied c.old (same_there (λ z. is_some (fields_in (datum_of z)) ≡ false) (Becomes v) bytes steps t u d r c) in
      let each = subst (λ z. MergesEach (fields_view fs) z w) (sym old) m in
      (t, u, d, e, record { positions = c.positions; led = c.led; old = c.old; new = c.new; there = c.there; now = c.now; changed = merges_object (value_of p) (fields_view fs) c.old w c.new is each (ap unmarked c.changed ∙ b ∙ sym o) })

  -- ---- as a member more

  pub join_plain : (p : Value) (key : List ℕ) → fields_in (value_of p) ≡ None → ChangesBy (λ t u. (v : Tree) × IsOf p v × ChangesAt (Joins key v) steps t u) bytes made → ChangesBy (JoinsMerged key p steps) bytes made
  join_plain p key none (t, u, d, e, (v, b, c)) = (t, u, d, e, (v, merges_plain (value_of p) null v none b, c))

  pub join_merged : (p : Value) (fs : List (String Global × Value)) (k : Value) (key : List ℕ) → fields_in (value_of p) ≡ Some (fields_view fs) → IsMergedOf fs k → ChangesBy (λ t u. (v : Tree) × IsOf k v × ChangesAt (Joins key v) steps t u) bytes made
      → ChangesBy (JoinsMerged key p steps) bytes made
  join_merged p fs k key is (w, m, o) (t, u, d, e, (v, b, c)) = (t, u, d, e, (v, merges_object (value_of p) (fields_view fs) null w v is m (b ∙ sym o), c))

-- ---- a member

last_step : (xs ys : List Step) (a b : Step) → xs ++ (a ∷ []) ≡ ys ++ (b ∷ []) → (xs ≡ ys) × (a ≡ b)
last_step [] [] a b e = let same : a ≡ b = cc in (refl, same)
last_step [] (y ∷ []) a b e = let no : [] ≡ b ∷ [] = cc in absurd (cc)
last_step [] (y ∷ z ∷ ys) a b e = let no : [] ≡ z ∷ (ys ++ (b ∷ [])) = cc in absurd (cc)
last_step (x ∷ []) [] a b e = let no : a ∷ [] ≡ [] = cc in absurd (cc)
last_step (x ∷ w ∷ xs) [] a b e = let no : w ∷ (xs ++ (a ∷ [])) ≡ [] = cc in absurd (cc)
last_step (x ∷ xs) (y ∷ ys) a b e =
    let first : x ≡ y = cc in
    let rest : xs ++ (a ∷ []) ≡ ys ++ (b ∷ []) = cc in
    let (more, same) = last_step xs ys a b rest in
    (ap (λ z. z ∷ xs) first ∙ ap (λ z. y ∷ z) more, same)

module _ (value : Value) (bytes made : List ℕ) (steps path : List Step) (k : Bor (List ℕ)) (further : path ≡ steps ++ (step.Key k ∷ [])) where
  goes : is_null (value_of value) ≡ true → IsRemoved bytes path made → ChangesBy (MergesFieldInto k.now value steps) bytes made
  goes is (outer, s, ends, c, cuts) =
      let (front, last) = last_step outer steps s (step.Key k) (sym ends ∙ further) in
      let led = subst (λ z. positions_of z c.tree ≡ Some c.positions) front c.led in
      let gone = subst (λ z. IsWithout z c.old_tree c.new_tree) last c.changed in
      (c.tree, put c.positions c.tree c.new_tree, c.document, c.still, record { positions = c.positions; led = led; old = c.old_tree; new = c.new_tree; there = c.there; now = refl; changed = goes_out k refl (null_is (value_of value) is) gone })

  stays : is_null (value_of value) ≡ true → LeadsSo true bytes steps → LeadsNowhere bytes path → made ≡ bytes → ChangesBy (MergesFieldInto k.now value steps) bytes made
  stays is r (t, d, none) same =
      let one = one_document (chars bytes) r.tree t r.document d in
      let led = subst (λ z. positions_of steps z ≡ Some r.positions) one r.led in
      let there = subst (λ z. part r.positions z ≡ Some r.value) one r.there in
      let lacks = lacks_key steps k t r.value r.positions led there (subst (λ z. positions_of z t ≡ None) further none) in
      let at = subst (λ z. Doc max_depth (chars z) t) (sym same) d in
      (t, t, d, at, stays_at (MergesMember (Merges (value_of value)) k.now (value_of value)) steps t r.value r.positions led there (stays_out (null_is (value_of value) is) lacks refl))

  pub field_taken : is_null (value_of value) ≡ true → LeadsSo true bytes steps → IsTakenOut bytes path made → ChangesBy (MergesFieldInto k.now value steps) bytes made
  field_taken is r (inl gone) = goes is gone
  field_taken is r (inr (none, same)) = stays is r none same

  pub field_merged : is_null (value_of value) ≡ false → LeadsSo true bytes steps → ChangesBy (MergesInto value path) bytes made → ChangesBy (MergesFieldInto k.now value steps) bytes made
  field_merged is r (t, u, d, e, c) =
      let one = one_document (chars bytes) r.tree t r.document d in
      let led = subst (λ z. positions_of steps z ≡ Some r.positions) one r.led in
      let there = subst (λ z. part r.positions z ≡ Some r.value) one r.there in
      let at = changes_within (Merges (value_of value)) steps (step.Key k ∷ []) t u r.value r.positions led there (subst (λ z. ChangesAt (Merges (value_of value)) z t u) further c) in
      (t, u, d, e, record { positions = at.positions; led = at.led; old = at.old; new = at.new; there = at.there; now = at.now; changed = merges k refl (is_no_null (value_of value) is) at.changed })

pub field_joined : (value : Value) (bytes made key : List ℕ) (steps : List Step) → is_null (value_of value) ≡ false → ChangesBy (JoinsMerged key value steps) bytes made → ChangesBy (MergesFieldInto key value steps) bytes made
field_joined value bytes made key steps is (t, u, d, e, (v, m, c)) =
    (t, u, d, e, record { positions = c.positions; led = c.led; old = c.old; new = c.new; there = c.there; now = c.now; changed = joins v (is_no_null (value_of value) is) m c.changed })

-- ---- one member after the other

pub fields_begun : (bytes made : List ℕ) (steps : List Step) → LeadsSo true bytes steps → made ≡ bytes → ChangesBy (MergesFieldsInto [] steps) bytes made
fields_begun bytes made steps r same = (r.tree, r.tree, r.document, subst (λ z. Doc max_depth (chars z) r.tree) (sym same) r.document, stays_at (MergesEach patch.no_field) steps r.tree r.value r.positions r.led r.there refl)

pub leads_still : (Change : Tree → Tree → Type 0) (bytes made : List ℕ) (steps : List Step) → ChangesBy (ChangesAt Change steps) bytes made → LeadsSo true made steps
leads_still Change bytes made steps (t, u, d, e, c) =
    let (led, there) = leads_after Change steps t u c in
    record { tree = u; document = e; positions = c.positions; led = led; value = c.new; there = there; such = tt }

each_more : (i : ℕ) (fs : List (String Global × Value)) (f : String Global × Value) (key : List ℕ) (t m u : Tree) → i < length fs → f ≡ get_or fs i f → key ≡ encode_utf8_all (chars (string_bytes f.0)) → MergesEach (fields_view (take i fs)) t m
    → MergesMember (Merges (value_of f.1)) key (value_of f.1) m u → MergesEach (fields_view (take (suc i) fs)) t u
each_more zero [] f key t m u h is named e c = absurd (omega (arith, h))
each_more zero (g ∷ fs) f key t m u h is named e c =
    (u, subst (λ z. MergesMember (Merges (value_of g.1)) (encode_utf8_all (chars (string_bytes g.0))) (value_of g.1) z u) e (subst (λ (z : String Global × Value). MergesMember (Merges (value_of z.1)) (encode_utf8_all (chars (string_bytes z.0))) (value_of z.1) m u) is (subst (λ z. MergesMember (Merges (value_of f.1)) z (value_of f.1) m u) named c)), refl)
each_more (suc i) [] f key t m u h is named e c = absurd (omega (arith, h))
each_more (suc i) (g ∷ fs) f key t m u h is named (b, first, rest) c = (b, first, each_more i fs f key b m u (omega (arith, h)) is named rest c)

pub fields_more : (i : ℕ) (fs : List (String Global × Value)) (f : String Global × Value) (key bytes mid made : List ℕ) (steps : List Step) → i < length fs → f ≡ get_or fs i f → key ≡ string_bytes f.0 → IsUtf8 key
    → ChangesBy (MergesFieldsInto (take i fs) steps) bytes mid → ChangesBy (MergesFieldInto key f.1 steps) mid made → ChangesBy (MergesFieldsInto (take (i + 1) fs) steps) bytes made
fields_more i fs f key bytes mid made steps h is named utf8 (t, m, d, e, a) (w, u, x, y, b) =
    let same : w ≡ m = one_document (chars mid) w m x e in
    let next : i + 1 ≡ suc i = omega arith in
    let spelled : key ≡ encode_utf8_all (chars (string_bytes f.0)) = sym (encodes-chars key utf8) ∙ ap (λ z. encode_utf8_all (chars z)) named in
    let second = subst (λ z. ChangesAt (MergesMember (Merges (value_of f.1)) key (value_of f.1)) steps z u) same b in
    let both = changes_twice (MergesEach (fields_view (take i fs))) (MergesMember (Merges (value_of f.1)) key (value_of f.1)) (MergesEach (fields_view (take (suc i) fs))) steps t m u (λ p q r j c. each_more i fs f key p q r h is spelled j c) a second in
    rw next (t, u, d, y, both)

-- ---- what members make of nothing

pub leads_empty : (bytes : List ℕ) (steps : List Step) → bytes ≡ codes "{}" → steps ≡ [] → LeadsSo true bytes steps
leads_empty bytes steps is none = record {
  tree = object no_member;
  document = subst (λ z. Doc max_depth (chars z) (object no_member)) (sym is) empty_document;
  positions = [];
  led = ap (λ z. positions_of z (object no_member)) none;
  value = object no_member;
  there = refl;
  such = tt;
}

pub merged_of : (fs : List (String Global × Value)) (bytes made : List ℕ) (steps : List Step) (v : Value) → bytes ≡ codes "{}" → steps ≡ [] → ChangesBy (MergesFieldsInto fs steps) bytes made → (x : Tree) × Doc max_depth (chars made) x × (value_of v ≡ datum_of x) → IsMergedOf fs v
merged_of fs bytes made steps v is none (t, u, d, e, c) (x, f, reads) =
    let old = one_document (chars (codes "{}")) t (object no_member) (subst (λ z. Doc max_depth (chars z) t) is d) empty_document in
    let each = change_whole (MergesEach (fields_view fs)) t u (subst (λ z. ChangesAt (MergesEach (fields_view fs)) z t u) none c) in
    let same = one_document (chars made) x u f e in
    (u, subst (λ z. MergesEach (fields_view fs) z u) old each, ap unmarked (sym same) ∙ sym (written_tree x (value_of v) reads))
