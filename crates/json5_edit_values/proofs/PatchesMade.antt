-- What the edits of a patch make of a tree.
use denote.Ref.{Bor}
use Rattle.std.proofs.Common.{◌≡◌, ◌⊎◌, ◌≤◌, ◌<◌, ◌+◌, ℕ, zero, suc, List, [], ◌∷◌, ◌++◌, append-nil, length, take, get_or, refl, sym, ap, ◌∙◌, subst, arith, inl, inr}
use Rattle.std.specs.declared.alloc.Global.{Global}
use Rattle.std.specs.Prelude.{Bool, true, false, IfErr, IfOk, IfNone, IfSome, Option, Some, None, Result, Ok, Err, String, string_bytes}
use Rattle.std.specs.Str.{chars, IsUtf8, all_scalars}
use Rattle.std.proofs.lemmas.Str.{chars-encodes, scalars-chars}
use lib.Chars.{codes}
use Rattle.json5_grammar.specs.Language.Blanks.{empty}
use Rattle.json5_grammar.specs.Language.Documents.{Doc, max_depth}
use Rattle.json5_grammar.specs.Language.Trees.{Tree, Trees, Members, null, boolean, number, text, array, object, no_more, more, no_member, member, depth}
use Rattle.json5_grammar.specs.Language.Values.{Val, is_empty_object}
use Rattle.json5_grammar.proofs.OneTree.{one_tree}
use Rattle.json5_grammar.proofs.ScalarsWritten.{alone}
use Rattle.json5_types.specs.ValueKinds.{items_len, fields_len, len_of}
use Rattle.json5_types.specs.ValueMeanings.{Datum, value_of}
use Rattle.json5_types.specs.declared.value.Value.{Value}
use Rattle.json5_numbers.specs.Sameness.{same_datum}
use Rattle.json5_read.specs.TreeMeanings.{datum_of, items_of, fields_of}
use Rattle.json5_read.specs.declared.brackets.BracketKind.TheVariants as kind
use Rattle.json5_write.specs.EscapeFreeMarks.{unmarked}
use Rattle.json5_write.specs.ValueTrees.{value_tree}
use Rattle.json5_edit.proofs.Placed.{ok_then, scalars_left, scalars_right}
use Rattle.json5_edit.specs.Places.{IsPartAt}
use Rattle.json5_edit.specs.declared.faults.EditError.{EditError}
use Rattle.json5_edit.specs.Changes.{ChangesBy, IsChanged, IsInserted, IsPushed, IsPutIn, IsRemoved}
use Rattle.json5_edit.specs.Comparing.{IsWithAt, IsWithLast}
use Rattle.json5_edit.specs.Entries.{elements, entries, members}
use Rattle.json5_edit.specs.Parts.{part, positions_of, put}
use Rattle.json5_edit.specs.Refusals.{IsNo, Reaches, RefusesPath}
use Rattle.json5_edit.specs.Sets.{IsSet}
use Rattle.json5_edit.specs.declared.paths.Step.{Step}
use Rattle.json5_edit.specs.declared.paths.Step.TheVariants as step
use Rattle.json5_edit_values.specs.Locations.{AreSteps, Becomes, ChangesAt, IsStep}
use Rattle.json5_edit_values.specs.News.{AddsKeyed, keyed_joined, keyed_last, keyed_set, AddsNew, Brings, BringsAt, HasCount, ReplacesWith, edited}
use Rattle.json5_edit_values.specs.declared.patch.faults.Trouble.{Trouble}
use Rattle.json5_edit_values.specs.declared.patch.faults.Trouble.TheVariants as trouble
use Rattle.json5_edit_values.specs.Spelled.{Spells}
use Rattle.json5_edit_values.specs.Patches.{as_whole, to_member, as_member, as_element, as_last, AddsTo, Compares, ComparesIn, Copies, Fails, FailsAt, FailsIn, IsAt, IsOf, IsUnread, Joins, Moves, Patches, Performs, RefusesMove, RefusesTest, RemovesFrom, ReplacesAt, TakesTo, Tests, is_within}
use Rattle.json5_edit_values.specs.declared.patch.new_values.New.{New}
use Rattle.json5_edit_values.specs.declared.patch.new_values.New.TheVariants as new
use Rattle.json5_edit_values.specs.declared.patch.operations.Operation.{Operation}
use Rattle.json5_edit_values.specs.declared.patch.operations.Operation.TheVariants as operation
use Rattle.json5_edit_values.specs.declared.patch.pointers.Pointer.{Pointer}

itself : (n : ℕ) → n ≤ n
itself n = omega arith

-- a text has one value
pub one_value : (x : List ℕ) (t u : Tree) → Val x t → Val x u → t ≡ u
one_value x t u v w = one_tree (depth t) (depth u) x t u (alone (depth t) x t v (itself (depth t))) (alone (depth u) x u w (itself (depth u)))

-- which is that of a document alone
pub one_alone : (x : List ℕ) (t u : Tree) → Doc max_depth x t → Val x u → t ≡ u
one_alone x t u d v = one_tree max_depth (depth u) x t u d (alone (depth u) x u v (itself (depth u)))

pub one_document : (x : List ℕ) (t u : Tree) → Doc max_depth x t → Doc max_depth x u → t ≡ u
one_document x t u = one_tree max_depth max_depth x t u

braces_spelled : chars (codes "{}") ≡ codes "{}"
unfolding chars
braces_spelled = refl

pub empty_document : Doc max_depth (chars (codes "{}")) (object no_member)
empty_document = subst (λ z. Doc max_depth z (object no_member)) (sym braces_spelled) (alone max_depth (codes "{}") (object no_member) (is_empty_object empty) (omega arith))

-- ---- tokens

pub steps_grow : (i : ℕ) (ws : List (String Global)) (d : String Global) (ss : List Step) (s : Step) → i < length ws → AreSteps (take i ws) ss → IsStep (string_bytes (get_or ws i d)) s
    → AreSteps (take (suc i) ws) (ss ++ (s ∷ []))
steps_grow zero [] d ss s h a b = absurd (omega (arith, h))
steps_grow zero (w ∷ ws) d [] s h a b = (b, tt)
steps_grow zero (w ∷ ws) d (y ∷ ss) s h a b = absurd a
steps_grow (suc i) [] d ss s h a b = absurd (omega (arith, h))
steps_grow (suc i) (w ∷ ws) d [] s h a b = absurd a
steps_grow (suc i) (w ∷ ws) d (y ∷ ss) s h a b = (a.0, steps_grow i ws d ss s (omega (arith, h)) a.1 b)

pub steps_more : (i : ℕ) (ws : List (String Global)) (d w : String Global) (ss all : List Step) (s : Step) → i < length ws → AreSteps (take i ws) ss → w ≡ get_or ws i d → all ≡ ss ++ (s ∷ [])
    → IsStep (string_bytes w) s → AreSteps (take (i + 1) ws) all
steps_more i ws d w ss all s h a is e b =
    let next : i + 1 ≡ suc i = omega arith in
    rw (next, e) (steps_grow i ws d ss s h a (subst (λ z. IsStep (string_bytes z) s) is b))

-- ---- what is put in

-- a value of the patch's own
pub brings_value : (n : New) (value : Bor Value) → n ≡ new.Value value → (bytes : List ℕ) (r : Result (String Global) EditError) → IfOk r (λ x. Spells (value_tree value.now) bytes (chars (string_bytes x)))
    → IfOk r (λ made. (v : Tree) → Val (chars (string_bytes made)) v → Brings n v)
brings_value n value is bytes (Ok x) (u, w, k) = λ v z. subst (λ m. Brings m v) (sym is) (ap unmarked (one_value (chars (string_bytes x)) v u z w) ∙ k.0)
brings_value n value is bytes (Err e) k = tt

-- one that is spelled in the text
pub brings_text : (n : New) (spelled : Bor (List ℕ)) → n ≡ new.Text spelled → (r : Result (String Global) EditError) → IfOk r (λ made. (v : Tree) → Val (chars (string_bytes made)) v → Val (chars spelled.now) v)
    → IfOk r (λ made. (v : Tree) → Val (chars (string_bytes made)) v → Brings n v)
brings_text n spelled is r k = ok_then r (λ made z v y. subst (λ m. Brings m v) (sym is) (z v y)) k

-- the text of the value to which the steps lead
pub part_reached : (bytes spelled : List ℕ) (steps : List Step) → IsUtf8 bytes → IsPartAt bytes steps spelled → Reaches (Val (chars spelled)) bytes steps
part_reached bytes spelled steps u p =
    let q = p.there in
    let scalars : all_scalars (q.before ++ (q.old ++ q.after)) ≡ true = ap all_scalars (sym q.cut.whole) ∙ scalars-chars bytes u in
    let old_scalars : all_scalars q.old ≡ true = scalars_left q.old q.after (scalars_right q.before (q.old ++ q.after) scalars) in
    let same : chars spelled ≡ q.old = ap chars p.same ∙ chars-encodes q.old old_scalars in
    record { tree = p.tree; document = p.document; positions = q.positions; led = q.led; value = q.tree; there = q.there; such = subst (λ z. Val z q.tree) (sym same) q.value }

-- ---- edits

pub set_by : (n : New) (bytes x made : List ℕ) (steps : List Step) → ((v : Tree) → Val (chars x) v → Brings n v) → IsSet bytes steps x made → ChangesBy (BringsAt n Becomes steps) bytes made
set_by n bytes x made steps brings i =
    (i.tree, put i.positions i.tree i.new_tree, i.document, i.still, (i.new_tree, brings i.new_tree i.new_value, record { positions = i.positions; led = i.led; old = i.old_tree; new = i.new_tree; there = i.there; now = refl; changed = refl }))

changed_by : (n : New) (Change : Tree → Tree → Type 0) (How : Tree → Tree → Tree → Type 0) (bytes made : List ℕ) (steps : List Step) (c : IsChanged Change bytes steps made) (v : Tree) → Brings n v → How v c.old_tree c.new_tree
    → ChangesBy (BringsAt n How steps) bytes made
changed_by n Change How bytes made steps c v b h =
    (c.tree, put c.positions c.tree c.new_tree, c.document, c.still, (v, b, record { positions = c.positions; led = c.led; old = c.old_tree; new = c.new_tree; there = c.there; now = refl; changed = h }))

pub pushed_by : (n : New) (bytes x made : List ℕ) (steps : List Step) → ((v : Tree) → Val (chars x) v → Brings n v) → IsPushed bytes steps x made → ChangesBy (BringsAt n (IsWithLast kind.Array []) steps) bytes made
pushed_by n bytes x made steps brings p =
    let g = p.0.changed in
    changed_by n _ (IsWithLast kind.Array []) bytes made steps p.0 g.0 (brings g.0 g.1) g.2

pub put_in_by : (n : New) (bytes x made : List ℕ) (steps : List Step) (i : ℕ) → ((v : Tree) → Val (chars x) v → Brings n v) → IsPutIn bytes steps i x made → ChangesBy (BringsAt n (IsWithAt i) steps) bytes made
put_in_by n bytes x made steps i brings p =
    let g = p.0.changed in
    changed_by n _ (IsWithAt i) bytes made steps p.0 g.0 (brings g.0 g.1) g.2

pub inserted_by : (n : New) (bytes x made key : List ℕ) (steps : List Step) → ((v : Tree) → Val (chars x) v → Brings n v) → IsInserted bytes steps key x made → ChangesBy (BringsAt n (Joins key) steps) bytes made
inserted_by n bytes x made key steps brings p =
    let g = p.0.changed in
    changed_by n _ (Joins key) bytes made steps p.0 g.0 (brings g.0 g.1) (p.2 p.0.old_tree p.0.old_value, g.2)

pub removed_by : (bytes made : List ℕ) (tokens : List (String Global)) (steps : List Step) → AreSteps tokens steps → IsRemoved bytes steps made → ChangesBy (RemovesFrom tokens) bytes made
removed_by bytes made tokens steps a (outer, s, is, c, cuts) =
    (c.tree, put c.positions c.tree c.new_tree, c.document, c.still, (outer, s, subst (AreSteps tokens) is a, record { positions = c.positions; led = c.led; old = c.old_tree; new = c.new_tree; there = c.there; now = refl; changed = c.changed }))

-- ---- the count of entries

len_elements : (ts : Trees) → length (elements ts) ≡ items_len (items_of ts)
len_elements no_more = refl
len_elements (more t ts) = ap suc (len_elements ts)

len_members : (ps : Members) → length (members ps) ≡ fields_len (fields_of ps)
len_members no_member = refl
len_members (member u b t ps) = ap suc (len_members ps)

entries_len : (t : Tree) (n : ℕ) → len_of (datum_of t) ≡ Some n → length (entries t) ≡ n
entries_len null n e = absurd (cc)
entries_len (boolean b) n e = absurd (cc)
entries_len (number m) n e = absurd (cc)
entries_len (text u b) n e = absurd (cc)
entries_len (array ts) n e = let same : items_len (items_of ts) ≡ n = cc in len_elements ts ∙ same
entries_len (object ps) n e = let same : fields_len (fields_of ps) ≡ n = cc in len_members ps ∙ same

pub count_found : (bytes spelled : List ℕ) (steps : List Step) → Reaches (Val (chars spelled)) bytes steps → (t : Tree) → Doc max_depth (chars spelled) t → (x : Datum) → x ≡ datum_of t → (n : Option ℕ) → n ≡ len_of x → IfSome n (HasCount bytes steps)
count_found bytes spelled steps p t d x is None e = tt
count_found bytes spelled steps p t d x is (Some k) e =
    let same : t ≡ p.value = one_tree max_depth (depth p.value) (chars spelled) t p.value d (alone (depth p.value) (chars spelled) p.value p.such (itself (depth p.value))) in
    record { tree = p.tree; document = p.document; positions = p.positions; led = p.led; value = p.value; there = p.there; such = entries_len p.value k (sym (e ∙ ap len_of (is ∙ ap datum_of same))) }

no_array : (t : Tree) → len_of (datum_of t) ≡ None → IsNo kind.Array t
no_array null e k = absurd (cc)
no_array (boolean b) e k = absurd (cc)
no_array (number n) e k = absurd (cc)
no_array (text u b) e k = absurd (cc)
no_array (array ts) e k = absurd (cc)
no_array (object ps) e k = absurd (cc)

pub none_found : (bytes spelled : List ℕ) (steps : List Step) → Reaches (Val (chars spelled)) bytes steps → (t : Tree) → Doc max_depth (chars spelled) t → (x : Datum) → x ≡ datum_of t → (n : Option ℕ) → n ≡ len_of x → IfNone n (Reaches (IsNo kind.Array) bytes steps)
none_found bytes spelled steps p t d x is (Some k) e = tt
none_found bytes spelled steps p t d x is None e =
    let same = one_alone (chars spelled) t p.value d p.such in
    record { tree = p.tree; document = p.document; positions = p.positions; led = p.led; value = p.value; there = p.there; such = no_array p.value (sym (e ∙ ap len_of (is ∙ ap datum_of same))) }

last_at : (i : ℕ) (v t u : Tree) → length (entries t) ≡ i → IsWithLast kind.Array [] v t u → IsWithAt i v t u
last_at i v t u e w = record { was_kind = w.was_kind; kind = w.kind; before = entries t; after = []; was = sym (append-nil (entries t)); now = w.one_more; there = e }

-- where the steps lead there is one value
pub one_there : (steps : List Step) (t u x y : Tree) (is js : List ℕ) → t ≡ u → positions_of steps t ≡ Some is → part is t ≡ Some x → positions_of steps u ≡ Some js → part js u ≡ Some y → x ≡ y
one_there steps t u x y is js same a b c d =
    let here : Some is ≡ Some js = sym a ∙ ap (positions_of steps) same ∙ c in
    let at : is ≡ js = cc in
    let found : Some x ≡ Some y = sym b ∙ ap (part is) same ∙ ap (λ z. part z u) at ∙ d in
    cc

pub at_end : (n : New) (bytes made : List ℕ) (steps : List Step) (i : ℕ) → HasCount bytes steps i → ChangesBy (BringsAt n (IsWithLast kind.Array []) steps) bytes made → ChangesBy (BringsAt n (IsWithAt i) steps) bytes made
at_end n bytes made steps i h (t, u, d, e, (v, b, c)) =
    let same : h.value ≡ c.old = one_there steps h.tree t h.value c.old h.positions c.positions (one_document (chars bytes) h.tree t h.document d) h.led h.there c.led c.there in
    (t, u, d, e, (v, b, record { positions = c.positions; led = c.led; old = c.old; new = c.new; there = c.there; now = c.now; changed = last_at i v c.old c.new (ap (λ z. length (entries z)) (sym same) ∙ h.such) c.changed }))

-- ---- add

module _ (n : New) (tokens : List (String Global)) (bytes made : List ℕ) (steps : List Step) (are : AreSteps tokens steps) where
  pub replaces_with : ChangesBy (BringsAt n Becomes steps) bytes made → ChangesBy (ReplacesWith n tokens) bytes made
  replaces_with (t, u, d, e, (v, b, c)) = (t, u, d, e, (v, b, (steps, are, c)))

  pub adds_whole : steps ≡ [] → ChangesBy (BringsAt n Becomes []) bytes made → ChangesBy (AddsNew n tokens) bytes made
  adds_whole is (t, u, d, e, (v, b, c)) = (t, u, d, e, (v, b, ([], subst (AreSteps tokens) is are, as_whole c)))

  pub adds_set : (outer : List Step) (k : Bor (List ℕ)) → steps ≡ outer ++ (step.Key k ∷ []) → ChangesBy (BringsAt n Becomes steps) bytes made → ChangesBy (AddsNew n tokens) bytes made
  adds_set outer k is (t, u, d, e, (v, b, c)) =
      (t, u, d, e, (v, b, (outer ++ (step.Key k ∷ []), subst (AreSteps tokens) is are, to_member outer k (subst (λ z. ChangesAt (Becomes v) z t u) is c))))

  pub adds_joined : (outer : List Step) (k : Bor (List ℕ)) → steps ≡ outer ++ (step.Key k ∷ []) → ChangesBy (BringsAt n (Joins k.now) outer) bytes made → ChangesBy (AddsNew n tokens) bytes made
  adds_joined outer k is (t, u, d, e, (v, b, c)) = (t, u, d, e, (v, b, (outer ++ (step.Key k ∷ []), subst (AreSteps tokens) is are, as_member outer k c)))

  pub adds_at : (outer : List Step) (i : ℕ) → steps ≡ outer ++ (step.Index i ∷ []) → ChangesBy (BringsAt n (IsWithAt i) outer) bytes made → ChangesBy (AddsNew n tokens) bytes made
  adds_at outer i is (t, u, d, e, (v, b, c)) = (t, u, d, e, (v, b, (outer ++ (step.Index i ∷ []), subst (AreSteps tokens) is are, as_element outer i c)))

  pub adds_last : (outer : List Step) (k : Bor (List ℕ)) → steps ≡ outer ++ (step.Key k ∷ []) → k.now ≡ codes "-" → ChangesBy (BringsAt n (IsWithLast kind.Array []) outer) bytes made → ChangesBy (AddsNew n tokens) bytes made
  adds_last outer k is dash (t, u, d, e, (v, b, c)) = (t, u, d, e, (v, b, (outer ++ (step.Key k ∷ []), subst (AreSteps tokens) is are, as_last outer k dash c)))

-- by a key
module _ (n : New) (steps outer : List Step) (key bytes made : List ℕ) where
  pub by_set : ChangesBy (BringsAt n Becomes steps) bytes made → ChangesBy (AddsKeyed n steps outer key) bytes made
  by_set (t, u, d, e, b) = (t, u, d, e, keyed_set b)

  pub by_joined : ChangesBy (BringsAt n (Joins key) outer) bytes made → ChangesBy (AddsKeyed n steps outer key) bytes made
  by_joined (t, u, d, e, b) = (t, u, d, e, keyed_joined b)

  pub by_last : key ≡ codes "-" → ChangesBy (BringsAt n (IsWithLast kind.Array []) outer) bytes made → ChangesBy (AddsKeyed n steps outer key) bytes made
  by_last dash (t, u, d, e, b) = (t, u, d, e, keyed_last dash b)

pub adds_keyed : (n : New) (tokens : List (String Global)) (bytes made : List ℕ) (steps outer : List Step) (k : Bor (List ℕ)) → AreSteps tokens steps → steps ≡ outer ++ (step.Key k ∷ [])
    → ChangesBy (AddsKeyed n steps outer k.now) bytes made → ChangesBy (AddsNew n tokens) bytes made
adds_keyed n tokens bytes made steps outer k are is (t, u, d, e, keyed_set b) = adds_set n tokens bytes made steps are outer k is (t, u, d, e, b)
adds_keyed n tokens bytes made steps outer k are is (t, u, d, e, keyed_joined b) = adds_joined n tokens bytes made steps are outer k is (t, u, d, e, b)
adds_keyed n tokens bytes made steps outer k are is (t, u, d, e, keyed_last dash b) = adds_last n tokens bytes made steps are outer k is dash (t, u, d, e, b)

-- ---- move, copy and test

module _ (bytes spelled : List ℕ) (from : List (String Global)) (steps : List Step) (are : AreSteps from steps) (r : Reaches (Val (chars spelled)) bytes steps) where
  there : (t : Tree) → Doc max_depth (chars bytes) t → IsAt from t r.value
  there t d =
      let same : r.tree ≡ t = one_document (chars bytes) r.tree t r.document d in
      (steps, are, (r.positions, subst (λ z. positions_of steps z ≡ Some r.positions) same r.led, subst (λ z. part r.positions z ≡ Some r.value) same r.there))

  pub copied_to : (k : Bor (List ℕ)) → k.now ≡ spelled → (path : List (String Global)) (made : List ℕ) → ChangesBy (AddsNew (new.Text k) path) bytes made → ChangesBy (Copies from path) bytes made
  copied_to k is path made (t, u, d, e, (v, b, adds)) =
      let same : v ≡ r.value = one_value (chars spelled) v r.value (subst (λ z. Val (chars z) v) is b) r.such in
      (t, u, d, e, (r.value, there t d, subst (λ z. AddsTo path z t u) same adds))

  pub taken_to : (k : Bor (List ℕ)) → k.now ≡ spelled → (path : List (String Global)) (mid made : List ℕ) → IsRemoved bytes steps mid → ChangesBy (AddsNew (new.Text k) path) mid made → ChangesBy (TakesTo from path) bytes made
  taken_to k is path mid made rem (m, u, d, e, (v, b, adds)) =
      let (t, w, f, g, gone) = removed_by bytes mid from steps are rem in
      let same : v ≡ r.value = one_value (chars spelled) v r.value (subst (λ z. Val (chars z) v) is b) r.such in
      let mids : m ≡ w = one_document (chars mid) m w d g in
      (t, u, f, e, (r.value, w, there t f, gone, subst (λ z. AddsTo path r.value z u) mids (subst (λ z. AddsTo path z m u) same adds)))

  pub compares_there : (value there : Value) → ((t : Tree) × Doc max_depth (chars spelled) t × (value_of there ≡ datum_of t)) → (s : Result Bool EditError) → IfOk s (λ b. b ≡ same_datum (value_of there) (value_of value))
      → IfOk s (λ b. ComparesIn b from value bytes)
  compares_there value there (t, d, is) (Ok b) e =
      let same : t ≡ r.value = one_alone (chars spelled) t r.value d r.such in
      (r.tree, r.document, (r.value, (steps, are, (r.positions, r.led, r.there)), sym (e ∙ ap (λ x. same_datum x (value_of value)) (is ∙ ap datum_of same))))
  compares_there value there k (Err x) e = tt

-- a test that holds changes nothing
pub holds_test : (tokens : List (String Global)) (value : Value) (bytes : List ℕ) → ComparesIn true tokens value bytes → ChangesBy (Tests tokens value) bytes bytes
holds_test tokens value bytes (t, d, k) = (t, t, d, d, (k, refl))

pub moves_apart : (from path : List (String Global)) (bytes made : List ℕ) → is_within from path ≡ false → ChangesBy (TakesTo from path) bytes made → ChangesBy (Moves from path) bytes made
moves_apart from path bytes made apart (t, u, d, e, k) = (t, u, d, e, (apart, k))

-- ---- patches

-- what an edit returned, as an operation's own
pub edited_ok : {P Q : String Global → Type 0} (r : Result (String Global) EditError) (e : Result (String Global) Trouble) → e ≡ edited r → ((made : String Global) → P made → Q made) → IfOk r P → IfOk e Q
edited_ok (Ok made) e is k p = rw is (k made p)
edited_ok (Err x) e is k p = rw is tt

-- or why there is none
pub edited_err : (F : Trouble → Type 0) (r : Result (String Global) EditError) (e : Result (String Global) Trouble) → e ≡ edited r → ((x : EditError) → F (trouble.Edit x)) → IfErr e F
edited_err F (Ok made) e is f = rw is tt
edited_err F (Err x) e is f = rw is (f x)

module _ (o : Operation) (bytes : List ℕ) where
  pub performs_add : (p : Pointer) (value : Value) (tokens : List (String Global)) (made : List ℕ) → o ≡ operation.Add p value → tokens ≡ p.tokens.items → ChangesBy (λ t u. (v : Tree) × IsOf value v × AddsTo tokens v t u) bytes made → ChangesBy (Performs o) bytes made
  performs_add p value tokens made is same k = subst (λ z. ChangesBy (Performs z) bytes made) (sym is) (subst (λ z. ChangesBy (λ t u. (v : Tree) × IsOf value v × AddsTo z v t u) bytes made) same k)

  pub performs_replace : (p : Pointer) (value : Value) (tokens : List (String Global)) (made : List ℕ) → o ≡ operation.Replace p value → tokens ≡ p.tokens.items → ChangesBy (λ t u. (v : Tree) × IsOf value v × ReplacesAt tokens v t u) bytes made → ChangesBy (Performs o) bytes made
  performs_replace p value tokens made is same k = subst (λ z. ChangesBy (Performs z) bytes made) (sym is) (subst (λ z. ChangesBy (λ t u. (v : Tree) × IsOf value v × ReplacesAt z v t u) bytes made) same k)

  pub performs_remove : (p : Pointer) (tokens : List (String Global)) (made : List ℕ) → o ≡ operation.Remove p → tokens ≡ p.tokens.items → ChangesBy (RemovesFrom tokens) bytes made → ChangesBy (Performs o) bytes made
  performs_remove p tokens made is same k = subst (λ z. ChangesBy (Performs z) bytes made) (sym is) (subst (λ z. ChangesBy (RemovesFrom z) bytes made) same k)

  pub performs_move : (f p : Pointer) (from tokens : List (String Global)) (made : List ℕ) → o ≡ operation.Move f p → from ≡ f.tokens.items → tokens ≡ p.tokens.items → ChangesBy (Moves from tokens) bytes made → ChangesBy (Performs o) bytes made
  performs_move f p from tokens made is a b k = subst (λ z. ChangesBy (Performs z) bytes made) (sym is) (subst (λ z. ChangesBy (Moves z p.tokens.items) bytes made) a (subst (λ z. ChangesBy (Moves from z) bytes made) b k))

  pub performs_copy : (f p : Pointer) (from tokens : List (String Global)) (made : List ℕ) → o ≡ operation.Copy f p → from ≡ f.tokens.items → tokens ≡ p.tokens.items → ChangesBy (Copies from tokens) bytes made → ChangesBy (Performs o) bytes made
  performs_copy f p from tokens made is a b k = subst (λ z. ChangesBy (Performs z) bytes made) (sym is) (subst (λ z. ChangesBy (Copies z p.tokens.items) bytes made) a (subst (λ z. ChangesBy (Copies from z) bytes made) b k))

  pub performs_test : (p : Pointer) (value : Value) (tokens : List (String Global)) (made : List ℕ) → o ≡ operation.Test p value → tokens ≡ p.tokens.items → ChangesBy (Tests tokens value) bytes made → ChangesBy (Performs o) bytes made
  performs_test p value tokens made is same k = subst (λ z. ChangesBy (Performs z) bytes made) (sym is) (subst (λ z. ChangesBy (Tests z value) bytes made) same k)

  fails_edit : (x : EditError) → FailsIn o bytes (trouble.Edit x)
  fails_edit x t d = tt

  pub performs_not : (r : Result (String Global) EditError) (e : Result (String Global) Trouble) → e ≡ edited r → IfErr e (FailsIn o bytes)
  performs_not r e is = edited_err (FailsIn o bytes) r e is fails_edit

  pub fails_test : (p : Pointer) (value : Value) (tokens : List (String Global)) (r : Result (String Global) Trouble) → o ≡ operation.Test p value → tokens ≡ p.tokens.items → IfErr r (RefusesTest tokens value bytes) → IfErr r (FailsIn o bytes)
  fails_test p value tokens (Ok made) is same k = tt
  fails_test p value tokens (Err trouble.Differs) is same (u, d, k) = λ t e.
      let one : u ≡ t = one_document (chars bytes) u t d e in
      subst (λ z. Fails trouble.Differs z t) (sym is) (subst (λ z. Compares false z value t) same (subst (Compares false tokens value) one k))
  fails_test p value tokens (Err trouble.IntoItself) is same k = absurd k
  fails_test p value tokens (Err (trouble.Edit x)) is same k = fails_edit x

  pub fails_move : (f p : Pointer) (from tokens : List (String Global)) (r : Result (String Global) Trouble) → o ≡ operation.Move f p → from ≡ f.tokens.items → tokens ≡ p.tokens.items → IfErr r (RefusesMove from tokens) → IfErr r (FailsIn o bytes)
  fails_move f p from tokens (Ok made) is a b k = tt
  fails_move f p from tokens (Err trouble.Differs) is a b k = absurd k
  fails_move f p from tokens (Err trouble.IntoItself) is a b k = λ t e.
      subst (λ z. Fails trouble.IntoItself z t) (sym is) (subst (λ z. is_within z p.tokens.items ≡ true) a (subst (λ z. is_within from z ≡ true) b k))
  fails_move f p from tokens (Err (trouble.Edit x)) is a b k = fails_edit x

patches_more : (i : ℕ) (ops : List Operation) (o : Operation) (t m u : Tree) → i < length ops → Patches (take i ops) t m → Performs (get_or ops i o) m u → Patches (take (suc i) ops) t u
patches_more zero [] o t m u h p q = absurd (omega (arith, h))
patches_more zero (x ∷ ops) o t m u h p q = (u, subst (λ z. Performs x z u) p q, refl)
patches_more (suc i) [] o t m u h p q = absurd (omega (arith, h))
patches_more (suc i) (x ∷ ops) o t m u h (b, first, rest) q = (b, first, patches_more i ops o b m u (omega (arith, h)) rest q)

pub patched_on : (i : ℕ) (ops : List Operation) (d o : Operation) (bytes mid made : List ℕ) → i < length ops → o ≡ get_or ops i d → ChangesBy (Patches (take i ops)) bytes mid → ChangesBy (Performs o) mid made
    → ChangesBy (Patches (take (i + 1) ops)) bytes made
patched_on i ops d o bytes mid made h is (t, m, a, b, p) (w, u, c, e, q) =
    let same : w ≡ m = one_document (chars mid) w m c b in
    let next : i + 1 ≡ suc i = omega arith in
    rw next (t, u, a, e, patches_more i ops d t m u h p (subst (λ z. Performs z m u) is (subst (λ z. Performs o z u) same q)))

pub patched_none : (bytes made : List ℕ) → made ≡ bytes → (t : Tree) × Doc max_depth (chars bytes) t → ChangesBy (Patches []) bytes made
patched_none bytes made is (t, d) = (t, t, d, subst (λ z. Doc max_depth (chars z) t) (sym is) d, refl)

-- the text isn't read
pub unread : (ops : List Operation) (bytes : List ℕ) (n : ℕ) (x : EditError) → RefusesPath bytes [] x → IsUnread bytes (trouble.Edit x) ⊎ ((t : Tree) × Doc max_depth (chars bytes) t × FailsAt n ops (trouble.Edit x) t)
unread ops bytes n x k = inl k

fails_after : (i : ℕ) (ops : List Operation) (o : Operation) (cause : Trouble) (t m : Tree) → i < length ops → Patches (take i ops) t m → Fails cause (get_or ops i o) m → FailsAt i ops cause t
fails_after zero [] o cause t m h p k = absurd (omega (arith, h))
fails_after zero (x ∷ ops) o cause t m h p k = subst (Fails cause x) p k
fails_after (suc i) [] o cause t m h p k = absurd (omega (arith, h))
fails_after (suc i) (x ∷ ops) o cause t m h (b, first, rest) k = (b, first, fails_after i ops o cause b m (omega (arith, h)) rest k)

-- one of the operations isn't made
pub failed_on : (i : ℕ) (ops : List Operation) (d o : Operation) (bytes mid : List ℕ) (cause : Trouble) → i < length ops → o ≡ get_or ops i d → ChangesBy (Patches (take i ops)) bytes mid → FailsIn o mid cause
    → IsUnread bytes cause ⊎ ((t : Tree) × Doc max_depth (chars bytes) t × FailsAt i ops cause t)
failed_on i ops d o bytes mid cause h is (t, m, a, b, p) k = inr (t, a, fails_after i ops d cause t m h p (subst (λ z. Fails cause z m) is (k m b)))
