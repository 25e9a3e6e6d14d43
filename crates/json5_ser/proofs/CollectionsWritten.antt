-- Collections that are written one element or member after another: what an impl of `Serialize` cites. Each law takes what remained before the call.
pub use Rattle.json5_write.proofs.ValuesInside.{item_first}
use Rattle.std.proofs.Common.{◌≡◌, ◌<◌, ◌≤◌, ℕ, ◌+◌, length, get_or, drop, drop_of_length-le, List, [], ◌∷◌, Bool, true, false, Result, Ok, Err, refl, sym, ap, ◌∙◌, subst}
use Rattle.std.specs.Prelude.{⊤}
use Rattle.std.specs.Result.{IsErrAnd}
use Rattle.std.specs.Borrow.{GName, MutBor}
use Rattle.json5_types.specs.declared.error.Error.{Error}
use Rattle.json5_grammar.specs.Language.Characters.{comma_sign, colon_sign, space, left_bracket, right_bracket, left_brace, right_brace}
use Rattle.json5_write.specs.WrittenTrees.{Written, array, object, tuple_variant, struct_variant, Elements, no_element, element, elements_of, Fields, no_field, field, fields_of, WrittenKey, named}
use Rattle.json5_write.specs.Out.{Out, piece, ◌then◌, opened_by, closed_by, out, elements_out, fields_out, element_out, key_part, value_part, entry_out, variant_opening}
use Rattle.json5_write.specs.Writes.{SerializerState, RefusesWrite, Writes, WritesTree}
use Rattle.json5_ser.specs.WrittenCollections.{inner, serializer_of, reference_of, state_of, has_member, in_variant, list_opening, object_opening, ListBegun, ObjectBegun, VariantListBegun, VariantObjectBegun, Steps, outside, ending}
use Rattle.json5_ser.specs.declared.collection.SerializeCollection.{SerializeCollection}
use Rattle.json5_write.proofs.OutputsJoined.{Refuses-before, Writes-handed}
use Rattle.json5_ser.proofs.RemainingOutput.{Rest, Remains, elements, fields, value, BeginsWith, then_assoc, remains_on, remains_refused, remains_all, ends_whole, closes_list, closes_object}

-- ---- what a call writes is what remains first

first_element : (t : Written) (ts : Elements) (d e l n : ℕ) (started : Bool) → e ≡ d + 1 → n ≡ l → BeginsWith l (element_out e (out n t e)) (elements ts) (elements (element t ts)) d started
first_element t ts d e l n started same is = ap (λ k. element_out k (out l t k) then elements_out l ts d true) (sym same) ∙ ap (λ m. element_out e (out m t e) then elements_out l ts d true) (sym is)

first_key : (k : WrittenKey) (t : Written) (fs : Fields) (d e l : ℕ) (started : Bool) → e ≡ d + 1 → BeginsWith l (key_part e k) (value t fs) (fields (field k t fs)) d started
first_key k t fs d e l started same = ap (λ j. key_part j k then (value_part (out l t (d + 1)) then fields_out l fs d true)) (sym same)

first_value : (t : Written) (fs : Fields) (d e l n : ℕ) (started : Bool) → e ≡ d + 1 → n ≡ l → BeginsWith l (value_part (out n t e)) (fields fs) (value t fs) d started
first_value t fs d e l n started same is = ap (λ k. value_part (out l t k) then fields_out l fs d true) (sym same) ∙ ap (λ m. value_part (out m t e) then fields_out l fs d true) (sym is)

first_entry : (k : WrittenKey) (t : Written) (fs : Fields) (d e l n : ℕ) (started : Bool) → e ≡ d + 1 → n ≡ l → BeginsWith l (entry_out n e k t) (fields fs) (fields (field k t fs)) d started
first_entry k t fs d e l n started same is =
    sym (then_assoc (key_part (d + 1) k) (value_part (out l t (d + 1))) (fields_out l fs d true)) ∙ ap (λ j. entry_out l j k t then fields_out l fs d true) (sym same)
    ∙ ap (λ m. entry_out m e k t then fields_out l fs d true) (sym is)

-- the parts of a variant's object
variant_parts : (a b c d e f g : Out) → a then (b then ((c then ((d then e) then f)) then g)) ≡ (a then (b then (c then d))) then (e then (f then g))
variant_parts a b c d e f g =
    let x = e then (f then g) in
    let inside = then_assoc c ((d then e) then f) g ∙ ap (λ o. c then o) (then_assoc (d then e) f g ∙ then_assoc d e (f then g)) in
    ap (λ o. a then (b then o)) inside ∙ sym (then_assoc a (b then (c then d)) x ∙ ap (λ o. a then o) (then_assoc b (c then d) x ∙ ap (λ o. b then o) (then_assoc c d x)))

variant_list : (l : ℕ) (u : List ℕ) (ts : Elements) (d : ℕ) → out l (tuple_variant u ts) d ≡ variant_opening l u left_bracket d then (elements_out l ts (d + 1) false then (piece (comma_sign ∷ []) then closed_by d true right_brace))
variant_list l u ts d =
    variant_parts (opened_by l d left_brace) (key_part (d + 1) (named u)) (piece (colon_sign ∷ space ∷ [])) (opened_by l (d + 1) left_bracket) (elements_out l ts (d + 1) false) (piece (comma_sign ∷ [])) (closed_by d true right_brace)

variant_object : (l : ℕ) (u : List ℕ) (fs : Fields) (d : ℕ) → out l (struct_variant u fs) d ≡ variant_opening l u left_brace d then (fields_out l fs (d + 1) false then (piece (comma_sign ∷ []) then closed_by d true right_brace))
variant_object l u fs d =
    variant_parts (opened_by l d left_brace) (key_part (d + 1) (named u)) (piece (colon_sign ∷ space ∷ [])) (opened_by l (d + 1) left_brace) (fields_out l fs (d + 1) false) (piece (comma_sign ∷ [])) (closed_by d true right_brace)

-- ---- no collection was begun

refused_first : {A : Type 0} (all o rest : Out) (at last : SerializerState) (e : Error) (result : Result A Error) → all ≡ o then rest → RefusesWrite o at e last → IsErrAnd result (λ y. y ≡ e) → Writes all at result last
refused_first all o rest at last e result same p is = Writes-handed all at last e result is (subst (λ x. RefusesWrite x at e last) (sym same) (Refuses-before o rest at last e p))

pub object_refused : {A : Type 0} (fs : Fields) (at last : SerializerState) (e : Error) (result : Result A Error) → RefusesWrite (opened_by at.limit at.depth left_brace) at e last → IsErrAnd result (λ y. y ≡ e) → WritesTree (object fs) at result last
object_refused fs at last e result p is = refused_first _ (opened_by at.limit at.depth left_brace) (fields_out at.limit fs at.depth false) at last e result refl p is

pub variant_list_refused : {A : Type 0} (u : List ℕ) (ts : Elements) (at last : SerializerState) (e : Error) (result : Result A Error) → RefusesWrite (variant_opening at.limit u left_bracket at.depth) at e last → IsErrAnd result (λ y. y ≡ e) → WritesTree (tuple_variant u ts) at result last
variant_list_refused u ts at last e result p is = refused_first _ (variant_opening at.limit u left_bracket at.depth) _ at last e result (variant_list at.limit u ts at.depth) p is

pub variant_object_refused : {A : Type 0} (u : List ℕ) (fs : Fields) (at last : SerializerState) (e : Error) (result : Result A Error) → RefusesWrite (variant_opening at.limit u left_brace at.depth) at e last → IsErrAnd result (λ y. y ≡ e) → WritesTree (struct_variant u fs) at result last
variant_object_refused u fs at last e result p is = refused_first _ (variant_opening at.limit u left_brace at.depth) _ at last e result (variant_object at.limit u fs at.depth) p is

module _ {W : Type 0} where
  -- ---- a collection was begun, and all its members remain

  pub list_begun : (ts : Elements) {ser : MutBor SerializerState} {c : SerializeCollection W} → ListBegun ser c → Remains (array ts) ser.ghost_name ser.now c (elements ts)
  list_begun ts {ser} {c} o = remains_all (array ts) ser c (elements ts) (list_opening ser) false refl o refl

  pub object_begun : (fs : Fields) {ser : MutBor SerializerState} {c : SerializeCollection W} → ObjectBegun ser c → Remains (object fs) ser.ghost_name ser.now c (fields fs)
  object_begun fs {ser} {c} o = remains_all (object fs) ser c (fields fs) (object_opening ser) false refl o refl

  pub variant_list_begun : (u : List ℕ) (ts : Elements) {ser : MutBor SerializerState} {c : SerializeCollection W} → VariantListBegun u ser c → Remains (tuple_variant u ts) ser.ghost_name ser.now c (elements ts)
  variant_list_begun u ts {ser} {c} o = remains_all _ ser c (elements ts) (variant_opening ser.now.limit u left_bracket ser.now.depth) true (variant_list ser.now.limit u ts ser.now.depth) o refl

  pub variant_object_begun : (u : List ℕ) (fs : Fields) {ser : MutBor SerializerState} {c : SerializeCollection W} → VariantObjectBegun u ser c → Remains (struct_variant u fs) ser.ghost_name ser.now c (fields fs)
  variant_object_begun u fs {ser} {c} o = remains_all _ ser c (fields fs) (variant_opening ser.now.limit u left_brace ser.now.depth) true (variant_object ser.now.limit u fs ser.now.depth) o refl

  -- ---- elements

  pub element_on : {t u : Written} {name : GName} {at : SerializerState} {c n : SerializeCollection W} {ts : Elements} {x : ⊤} → Remains t name at c (elements (element u ts)) → Steps (element_out (state_of c).depth (out (state_of c).limit u (state_of c).depth)) false c (Ok x) n → Remains t name at n (elements ts)
  element_on {t} {u} {name} {at} {c} {n} {ts} {x} h s =
      remains_on t name at c n (elements (element u ts)) (elements ts) (element_out (state_of c).depth (out (state_of c).limit u (state_of c).depth)) x (first_element u ts (inner (in_variant c) at.depth) (state_of c).depth at.limit (state_of c).limit (has_member c) h.depth h.limit) refl h s

  pub element_refused : {A : Type 0} {t u : Written} {name : GName} {at : SerializerState} {c n : SerializeCollection W} {ts : Elements} {e : Error} (result : Result A Error) → Remains t name at c (elements (element u ts))
      → Steps (element_out (state_of c).depth (out (state_of c).limit u (state_of c).depth)) false c (Err e) n → IsErrAnd result (λ y. y ≡ e) → {last lent : SerializerState} → lent ≡ serializer_of n → (name ≡ reference_of n → last ≡ lent) → WritesTree t at result last
  element_refused {A} {t} {u} {name} {at} {c} {n} {ts} {e} result h s is {last} {lent} dropped follows =
      remains_refused t name at last lent c n (elements (element u ts)) (elements ts) (element_out (state_of c).depth (out (state_of c).limit u (state_of c).depth)) false e result (first_element u ts (inner (in_variant c) at.depth) (state_of c).depth at.limit (state_of c).limit (has_member c) h.depth h.limit) h s is dropped follows

  pub list_ended : {A : Type 0} {t : Written} {name : GName} {at : SerializerState} {c : SerializeCollection W} (n : SerializerState) (r : Result A Error) → Remains t name at c (elements no_element) → Writes (ending c) (outside c) r n → {last : SerializerState} → (name ≡ reference_of c → last ≡ n) → WritesTree t at r last
  list_ended {A} {t} {name} {at} {c} n r h w {last} follows =
      let whole_tree = ends_whole (in_variant c) (has_member c) c.brackets right_bracket (out at.limit t at.depth) at (state_of c) n r h.depth (closes_list c.brackets h.list) h.reaches w in
      subst (Writes (out at.limit t at.depth) at r) (sym (follows (sym h.same_reference))) whole_tree

  pub next_item : {A : Type 0} (tree : A → Written) (xs : List A) (i : ℕ) (x : A) {t : Written} {name : GName} {at : SerializerState} {c : SerializeCollection W} → i < length xs → x ≡ get_or xs i x → Remains t name at c (elements (elements_of tree (drop i xs)))
      → Remains t name at c (elements (element (tree x) (elements_of tree (drop (i + 1) xs))))
  next_item tree xs i x {t} {name} {at} {c} l e h = subst (λ ys. Remains t name at c (elements (elements_of tree ys))) (item_first xs i x l e) h

  pub no_item : {A : Type 0} (tree : A → Written) (xs : List A) (i : ℕ) {t : Written} {name : GName} {at : SerializerState} {c : SerializeCollection W} → length xs ≤ i → Remains t name at c (elements (elements_of tree (drop i xs))) → Remains t name at c (elements no_element)
  no_item tree xs i {t} {name} {at} {c} l h = subst (λ ys. Remains t name at c (elements (elements_of tree ys))) (drop_of_length-le xs l) h

  -- ---- keys and values

  pub key_refused : {A : Type 0} {t u : Written} {k : WrittenKey} {name : GName} {at : SerializerState} {c n : SerializeCollection W} {fs : Fields} {e : Error} (result : Result A Error) → Remains t name at c (fields (field k u fs))
      → Steps (key_part (state_of c).depth k) true c (Err e) n → IsErrAnd result (λ y. y ≡ e) → {last lent : SerializerState} → lent ≡ serializer_of n → (name ≡ reference_of n → last ≡ lent) → WritesTree t at result last
  key_refused {A} {t} {u} {k} {name} {at} {c} {n} {fs} {e} result h s is {last} {lent} dropped follows =
      remains_refused t name at last lent c n (fields (field k u fs)) (value u fs) (key_part (state_of c).depth k) true e result (first_key k u fs (inner (in_variant c) at.depth) (state_of c).depth at.limit (has_member c) h.depth) h s is dropped follows

  pub value_on : {t u : Written} {name : GName} {at : SerializerState} {c n : SerializeCollection W} {fs : Fields} {x : ⊤} → Remains t name at c (value u fs) → Steps (value_part (out (state_of c).limit u (state_of c).depth)) false c (Ok x) n → Remains t name at n (fields fs)
  value_on {t} {u} {name} {at} {c} {n} {fs} {x} h s =
      remains_on t name at c n (value u fs) (fields fs) (value_part (out (state_of c).limit u (state_of c).depth)) x (first_value u fs (inner (in_variant c) at.depth) (state_of c).depth at.limit (state_of c).limit (has_member c) h.depth h.limit) refl h s

  pub value_refused : {A : Type 0} {t u : Written} {name : GName} {at : SerializerState} {c n : SerializeCollection W} {fs : Fields} {e : Error} (result : Result A Error) → Remains t name at c (value u fs)
      → Steps (value_part (out (state_of c).limit u (state_of c).depth)) false c (Err e) n → IsErrAnd result (λ y. y ≡ e) → {last lent : SerializerState} → lent ≡ serializer_of n → (name ≡ reference_of n → last ≡ lent) → WritesTree t at result last
  value_refused {A} {t} {u} {name} {at} {c} {n} {fs} {e} result h s is {last} {lent} dropped follows =
      remains_refused t name at last lent c n (value u fs) (fields fs) (value_part (out (state_of c).limit u (state_of c).depth)) false e result (first_value u fs (inner (in_variant c) at.depth) (state_of c).depth at.limit (state_of c).limit (has_member c) h.depth h.limit) h s is dropped follows

  pub field_on : {t u : Written} {k : WrittenKey} {name : GName} {at : SerializerState} {c n : SerializeCollection W} {fs : Fields} {x : ⊤} → Remains t name at c (fields (field k u fs)) → Steps (entry_out (state_of c).limit (state_of c).depth k u) false c (Ok x) n → Remains t name at n (fields fs)
  field_on {t} {u} {k} {name} {at} {c} {n} {fs} {x} h s =
      remains_on t name at c n (fields (field k u fs)) (fields fs) (entry_out (state_of c).limit (state_of c).depth k u) x (first_entry k u fs (inner (in_variant c) at.depth) (state_of c).depth at.limit (state_of c).limit (has_member c) h.depth h.limit) refl h s

  pub field_refused : {A : Type 0} {t u : Written} {k : WrittenKey} {name : GName} {at : SerializerState} {c n : SerializeCollection W} {fs : Fields} {e : Error} (result : Result A Error) → Remains t name at c (fields (field k u fs))
      → Steps (entry_out (state_of c).limit (state_of c).depth k u) false c (Err e) n → IsErrAnd result (λ y. y ≡ e) → {last lent : SerializerState} → lent ≡ serializer_of n → (name ≡ reference_of n → last ≡ lent) → WritesTree t at result last
  field_refused {A} {t} {u} {k} {name} {at} {c} {n} {fs} {e} result h s is {last} {lent} dropped follows =
      remains_refused t name at last lent c n (fields (field k u fs)) (fields fs) (entry_out (state_of c).limit (state_of c).depth k u) false e result (first_entry k u fs (inner (in_variant c) at.depth) (state_of c).depth at.limit (state_of c).limit (has_member c) h.depth h.limit) h s is dropped follows

  -- fields that may be left out: what remains if it is known which are left out
  pub same_fields : {t : Written} {name : GName} {at : SerializerState} {c : SerializeCollection W} {fs gs : Fields} → fs ≡ gs → Remains t name at c (fields fs) → Remains t name at c (fields gs)
  same_fields {t} {name} {at} {c} e h = subst (λ l. Remains t name at c (fields l)) e h

  pub same_entries : {K V : Type 0} (key : K → WrittenKey) (tree : V → Written) (es rest : List (K × V)) {t : Written} {name : GName} {at : SerializerState} {c : SerializeCollection W} → es ≡ rest → Remains t name at c (fields (fields_of key tree es)) → Remains t name at c (fields (fields_of key tree rest))
  same_entries key tree es rest {t} {name} {at} {c} e h = subst (λ l. Remains t name at c (fields (fields_of key tree l))) e h

  pub object_ended : {A : Type 0} {t : Written} {name : GName} {at : SerializerState} {c : SerializeCollection W} (n : SerializerState) (r : Result A Error) → Remains t name at c (fields no_field) → Writes (ending c) (outside c) r n → {last : SerializerState} → (name ≡ reference_of c → last ≡ n) → WritesTree t at r last
  object_ended {A} {t} {name} {at} {c} n r h w {last} follows =
      let whole_tree = ends_whole (in_variant c) (has_member c) c.brackets right_brace (out at.limit t at.depth) at (state_of c) n r h.depth (closes_object c.brackets h.list) h.reaches w in
      subst (Writes (out at.limit t at.depth) at r) (sym (follows (sym h.same_reference))) whole_tree

  -- ---- loops

  -- by the name of the reference that a loop begins with
  pub in_loop : {t : Written} {name : GName} {at : SerializerState} {c : SerializeCollection W} {r : Rest} → Remains t name at c r → Remains t (reference_of c) at c r
  in_loop {t} {name} {at} {c} {r} h = subst (λ x. Remains t x at c r) (sym h.same_reference) h
