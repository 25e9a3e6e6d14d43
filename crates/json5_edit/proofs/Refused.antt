-- What is known where an edit is refused.
use denote.Ref.{Bor}
use Rattle.std.proofs.Common.{◌≡◌, ◌⊎◌, inl, inr, ℕ, ◌+◌, ◌-◌, true, false, List, [], ◌∷◌, ◌++◌, length, refl, ap, sym, ◌∙◌, subst, Some, None, nat_eq, arith}
use Rattle.std.specs.Prelude.{slice_get, IfErr, Result, Ok, Err}
use Rattle.std.specs.Str.{chars, IsUtf8, all_scalars, encode_utf8_all}
use Rattle.std.proofs.lemmas.Bool.{eqb-false}
use Rattle.std.proofs.lemmas.Str.{chars-encodes, scalars-chars}
use Rattle.json5_grammar.specs.declared.error_code.ErrorCode.TheVariants as codes
use Rattle.json5_grammar.specs.Language.Blanks.{Blanks}
use Rattle.json5_grammar.specs.Language.Documents.{Doc, max_depth}
use Rattle.json5_grammar.specs.Language.Trees.{Tree, null, boolean, number, text, array, object}
use Rattle.json5_grammar.specs.Language.Values.{Val}
use Rattle.json5_grammar.specs.Model.Reading.{got}
use Rattle.json5_grammar.specs.Model.ReadSteps.{forget}
use Rattle.json5_grammar.specs.Model.ReadValues.{read}
use Rattle.json5_grammar.proofs.OneFault.{no_blame}
use Rattle.json5_grammar.proofs.ValueHeads.{stops_all}
use Rattle.json5_grammar.proofs.ValuesRead.{read_complete}
use Rattle.json5_types.specs.declared.error.Error.{Error}
use Rattle.json5_types.specs.Errors.{kind_of, known_code}
use Rattle.json5_tokens.specs.Cursor.{Cursor, Refused, IsOutOfMemory}
use Rattle.json5_read.specs.declared.brackets.BracketKind.{BracketKind as Kind}
use Rattle.json5_read.specs.declared.brackets.BracketKind.TheVariants as kind
use Rattle.json5_read.specs.Brackets.{brackets_of}
use Rattle.json5_read.specs.ModelSteps.{RefusesRead, Gave, value_at}
use Rattle.json5_read.specs.DocumentReads.{FaultyDocument, unread_text, IsRefusedWithin}
use Rattle.json5_walk.specs.declared.place.Place.{Place}
use Rattle.json5_walk.specs.Walks.{IsDocument}
use Rattle.json5_walk.proofs.Rests.{append_nil}
use Rattle.json5_edit.specs.Entries.{kind_of as kind_of_tree}
use Rattle.json5_edit.specs.Parts.{in_member, positions_of}
use Rattle.json5_edit.specs.Places.{Fits, IsValue, IsPart, Leads, LeadsNowhere}
use Rattle.json5_edit.specs.Refusals.{IsFaulty, Reaches, Misfits, IsNo, HasKey, RefusesText, RefusesPath, RefusesSet, RefusesRemove, RefusesSort, RefusesPush, RefusesPutIn, RefusesInsert, RefusesRename, IsFree, IsOwn, RefusesStep, RefusesKind, RefusesFree, RefusesValue, BeginsNo}
use Rattle.json5_edit.specs.declared.faults.EditError.{EditError}
use Rattle.json5_edit.specs.declared.faults.EditError.TheVariants as error
use Rattle.json5_edit.specs.declared.paths.Step.{Step}
use Rattle.json5_edit.specs.declared.paths.Step.TheVariants as step
use Rattle.json5_edit.proofs.Changed.{tree_of}
use Rattle.json5_edit.proofs.Depths.{fits_there}
use Rattle.json5_edit.proofs.FurtherSteps.{led_nowhere, nowhere_on}
use Rattle.json5_edit.proofs.Placed.{scalars_left, scalars_right, nothing_next}
use Rattle.json5_edit.proofs.Seeks.{array_begins, object_begins}

-- ---- results

pub err_then : {A B : Type 0} {P Q : B → Type 0} (r : Result A B) → ((e : B) → P e → Q e) → IfErr r P → IfErr r Q
err_then (Ok a) k p = tt
err_then (Err e) k p = k e p

-- ---- paths

pub no_steps : (path : List Step) → length path ≡ 0 → path ≡ []
no_steps [] e = refl
no_steps (s ∷ path) e = absurd (omega (arith, e))

-- ---- the fault of a text

-- what a check of the document refuses
pub faulty : (bytes : List ℕ) (e : Error) → IsRefusedWithin max_depth (chars bytes) e → RefusesText bytes e
faulty bytes e r = by_cause r.cause
  where
    by_cause : IsOutOfMemory e ⊎ Refused (FaultyDocument max_depth) (unread_text (chars bytes)) e → RefusesText bytes e
    by_cause (inl m) = inl m
    by_cause (inr f) = inr (record { no_document = λ d. no_blame max_depth (chars bytes) d.0 f.reason f.place d.1 f.fault; fault = f; unprompted = r.unprompted })

pub is_faulty : (bytes : List ℕ) (e : Error) → (known_code (kind_of e) ≡ Some codes.OutOfMemory → ⊥) → RefusesText bytes e → IsFaulty bytes e
is_faulty bytes e memory (inl m) = absurd (memory (ap known_code m))
is_faulty bytes e memory (inr f) = f

-- ---- values alone

reads_alone : (room : ℕ) (x : List ℕ) → IsValue room x → forget (read room x) ≡ got tt []
reads_alone room x (t, v, d) = ap forget (ap (read room) (sym (append_nil x)) ∙ read_complete v [] (stops_all x Blanks.empty) room d)

-- what reading refuses is no value
pub no_value : (room : ℕ) (x : List ℕ) (s : Cursor) (e : Error) → s.unread ≡ x → RefusesRead s.input (value_at room s) e → IsValue room x → ⊥
no_value room x s e u b v =
    let k = sym (reads_alone room x v) ∙ ap (λ z. forget (read room z)) (sym u) ∙ b.is_bad in
    absurd (cc)

-- a value that more follows isn't alone
pub not_alone : (room : ℕ) (x : List ℕ) (old new : Cursor) (c : ℕ) → old.unread ≡ x → Gave (value_at room old) tt old new → slice_get new.unread 0 ≡ Some c → IsValue room x → ⊥
not_alone room x old new c u g more v =
    let k = sym (reads_alone room x v) ∙ ap (λ z. forget (read room z)) (sym u) ∙ g.reads in
    let none : [] ≡ new.unread = cc in
    let h : slice_get [] 0 ≡ Some c = ap (λ z. slice_get z 0) none ∙ more in
    absurd (cc)

-- ---- the first character of a collection

pub begins_with : (k : Kind) (x : List ℕ) (t : Tree) → Val x t → kind_of_tree t ≡ Some k → (m : List ℕ) × (x ≡ (brackets_of k).opening ∷ m)
begins_with kind.Array x (array ts) v e = array_begins v
begins_with kind.Object x (object ps) v e = object_begins v
begins_with kind.Array x (object ps) v e = absurd (cc)
begins_with kind.Object x (array ts) v e = absurd (cc)
begins_with k x null v e = absurd (cc)
begins_with k x (boolean b) v e = absurd (cc)
begins_with k x (number q) v e = absurd (cc)
begins_with k x (text u b) v e = absurd (cc)

pub begins_no : (k : Kind) (x : List ℕ) (c opening : ℕ) → slice_get x 0 ≡ Some c → opening ≡ (brackets_of k).opening → nat_eq c opening ≡ false → BeginsNo k x
begins_no k x c opening first is other = λ t v e.
    let (m, begins) = begins_with k x t v e in
    let h : Some (brackets_of k).opening ≡ Some c = sym (ap (λ z. slice_get z 0) begins) ∙ first in
    let same : (brackets_of k).opening ≡ c = cc in
    eqb-false c opening other (sym same ∙ sym is)

pub nothing_begins : (k : Kind) (x : List ℕ) → slice_get x 0 ≡ None → BeginsNo k x
nothing_begins k x none = λ t v e.
    let (m, begins) = begins_with k x t v e in
    let h : [] ≡ (brackets_of k).opening ∷ m = sym (nothing_next x none) ∙ begins in
    absurd (cc)

-- ---- by the refusals of the calls within

pub own : (P : EditError → Type 0) (e : EditError) → P error.NoMemory → P error.Failed → IsOwn e → P e
own P (error.Text x) m f k = absurd k
own P error.Nowhere m f k = absurd k
own P (error.Value x) m f k = absurd k
own P error.Taken m f k = absurd k
own P error.NotObject m f k = absurd k
own P error.NotArray m f k = absurd k
own P error.NoKey m f k = absurd k
own P error.NoMemory m f k = m
own P error.Failed m f k = f

at_path : (P : EditError → Type 0) (bytes : List ℕ) (path : List Step) (e : EditError) → ((x : Error) → IsFaulty bytes x → P (error.Text x)) → (LeadsNowhere bytes path → P error.Nowhere) → P error.NoMemory → RefusesPath bytes path e → P e
at_path P bytes path (error.Text x) t n m k = t x k
at_path P bytes path error.Nowhere t n m k = n k
at_path P bytes path (error.Value x) t n m k = absurd k
at_path P bytes path error.Taken t n m k = absurd k
at_path P bytes path error.NotObject t n m k = absurd k
at_path P bytes path error.NotArray t n m k = absurd k
at_path P bytes path error.NoKey t n m k = absurd k
at_path P bytes path error.NoMemory t n m k = m
at_path P bytes path error.Failed t n m k = absurd k

at_step : (P : EditError → Type 0) (old : List ℕ) (s : Step) (e : EditError) → (LeadsNowhere old (s ∷ []) → P error.Nowhere) → P error.NoMemory → RefusesStep old s e → P e
at_step P old s (error.Text x) n m k = absurd k
at_step P old s error.Nowhere n m k = n k
at_step P old s (error.Value x) n m k = absurd k
at_step P old s error.Taken n m k = absurd k
at_step P old s error.NotObject n m k = absurd k
at_step P old s error.NotArray n m k = absurd k
at_step P old s error.NoKey n m k = absurd k
at_step P old s error.NoMemory n m k = m
at_step P old s error.Failed n m k = absurd k

at_array : (P : EditError → Type 0) (old : List ℕ) (e : EditError) → (BeginsNo kind.Array (chars old) → P error.NotArray) → P error.NoMemory → RefusesKind kind.Array old e → P e
at_array P old (error.Text x) n m k = absurd k
at_array P old error.Nowhere n m k = absurd k
at_array P old (error.Value x) n m k = absurd k
at_array P old error.Taken n m k = absurd k
at_array P old error.NotObject n m k = absurd k
at_array P old error.NotArray n m k = n k
at_array P old error.NoKey n m k = absurd k
at_array P old error.NoMemory n m k = m
at_array P old error.Failed n m k = absurd k

at_free : (P : EditError → Type 0) (old key : List ℕ) (e : EditError) → ((t : Tree) → Doc max_depth (chars old) t → HasKey key t → P error.Taken) → (BeginsNo kind.Object (chars old) → P error.NotObject) → P error.NoMemory → RefusesFree old key e → P e
at_free P old key (error.Text x) t n m k = absurd k
at_free P old key error.Nowhere t n m k = absurd k
at_free P old key (error.Value x) t n m k = absurd k
at_free P old key error.Taken t n m k = t k.0 k.1 k.2
at_free P old key error.NotObject t n m k = n k
at_free P old key error.NotArray t n m k = absurd k
at_free P old key error.NoKey t n m k = absurd k
at_free P old key error.NoMemory t n m k = m
at_free P old key error.Failed t n m k = absurd k

-- where only memory runs out
pub lacking : {A : Type 0} (P : EditError → Type 0) (r : Result A EditError) → P error.NoMemory → IfErr r (λ e. e ≡ error.NoMemory) → IfErr r P
lacking P r m k = err_then r (λ e h. subst P (sym h) m) k

at_new : (P : EditError → Type 0) (room : ℕ) (new : List ℕ) (e : EditError) → ((x : Error) → (IsValue room (chars new) → ⊥) → P (error.Value x)) → P error.NoMemory → RefusesValue room new e → P e
at_new P room new (error.Text x) n m k = absurd k
at_new P room new error.Nowhere n m k = absurd k
at_new P room new (error.Value x) n m k = n x k
at_new P room new error.Taken n m k = absurd k
at_new P room new error.NotObject n m k = absurd k
at_new P room new error.NotArray n m k = absurd k
at_new P room new error.NoKey n m k = absurd k
at_new P room new error.NoMemory n m k = m
at_new P room new error.Failed n m k = absurd k

-- ---- a path that is refused

-- the outer path leads nowhere
pub outer_nowhere : (bytes : List ℕ) (path outer : List Step) (s : Step) → path ≡ outer ++ (s ∷ []) → LeadsNowhere bytes outer → LeadsNowhere bytes path
outer_nowhere bytes path outer s is (t, d, n) = (t, d, ap (λ z. positions_of z t) is ∙ nowhere_on outer (s ∷ []) t n)

pub path_set : (bytes new : List ℕ) (path : List Step) (e : EditError) → RefusesPath bytes path e → RefusesSet bytes path new e
path_set bytes new path e k = at_path (RefusesSet bytes path new) bytes path e (λ x f. f) (λ n. n) tt k

pub path_sort : (bytes : List ℕ) (path : List Step) (e : EditError) → RefusesPath bytes path e → RefusesSort bytes path e
path_sort bytes path e k = at_path (RefusesSort bytes path) bytes path e (λ x f. f) (λ n. n) tt k

pub path_push : (bytes value : List ℕ) (path : List Step) (e : EditError) → RefusesPath bytes path e → RefusesPush bytes path value e
path_push bytes value path e k = at_path (RefusesPush bytes path value) bytes path e (λ x f. f) (λ n. n) tt k

pub path_put_in : (bytes value : List ℕ) (path : List Step) (i : ℕ) (e : EditError) → RefusesPath bytes path e → RefusesPutIn bytes path i value e
path_put_in bytes value path i e k = at_path (RefusesPutIn bytes path i value) bytes path e (λ x f. f) (λ n. outer_nowhere bytes (path ++ (step.Index i ∷ [])) path (step.Index i) refl n) tt k

pub path_insert : (bytes key value : List ℕ) (path : List Step) (e : EditError) → RefusesPath bytes path e → RefusesInsert bytes path key value e
path_insert bytes key value path e k = at_path (RefusesInsert bytes path key value) bytes path e (λ x f. f) (λ n. n) tt k

pub path_remove : (bytes : List ℕ) (path outer : List Step) (s : Step) (e : EditError) → path ≡ outer ++ (s ∷ []) → RefusesPath bytes outer e → RefusesRemove bytes path e
path_remove bytes path outer s e is k = at_path (RefusesRemove bytes path) bytes outer e (λ x f. f) (λ n. inl (outer_nowhere bytes path outer s is n)) tt k

pub path_rename : (bytes key : List ℕ) (path outer : List Step) (s : Step) (e : EditError) → path ≡ outer ++ (s ∷ []) → RefusesPath bytes outer e → RefusesRename bytes path key e
path_rename bytes key path outer s e is k = at_path (RefusesRename bytes path key) bytes outer e (λ x f. f) (λ n. outer_nowhere bytes path outer s is n) tt k

-- ---- a place that was found

module _ (bytes : List ℕ) (path : List Step) (p : Place) (leads : Leads bytes path (Some p)) where
  pub document : IsDocument bytes
  document = (leads.tree, leads.document)

  pub reaches : (Such : Tree → Type 0) → Such leads.placed.tree → Reaches Such bytes path
  reaches Such such = let q = leads.placed in record { tree = leads.tree; document = leads.document; positions = q.positions; led = q.led; value = q.tree; there = q.there; such = such }

  misfits : (further room : ℕ) (new : List ℕ) → room ≡ p.room - further → (IsValue room (chars new) → ⊥) → Misfits further bytes path new
  misfits further room new e n =
      let q = leads.placed in
      let r = q.room in
      let same : room ≡ max_depth - (length q.positions + further) = omega (arith, e, r) in
      record { tree = leads.tree; document = leads.document; positions = q.positions; led = q.led; misfit = subst (λ z. IsValue z (chars new) → ⊥) same n }

  pub new_set : (new : List ℕ) (e : EditError) → RefusesValue p.room new e → RefusesSet bytes path new e
  new_set new e k = at_new (RefusesSet bytes path new) p.room new e (λ x n. misfits 0 p.room new (omega arith) n) tt k

  pub new_push : (value : List ℕ) (e : EditError) → RefusesValue (p.room - 1) value e → RefusesPush bytes path value e
  new_push value e k = at_new (RefusesPush bytes path value) (p.room - 1) value e (λ x n. misfits 1 (p.room - 1) value refl n) tt k

  pub new_put_in : (i : ℕ) (value : List ℕ) (e : EditError) → RefusesValue (p.room - 1) value e → RefusesPutIn bytes path i value e
  new_put_in i value e k = at_new (RefusesPutIn bytes path i value) (p.room - 1) value e (λ x n. misfits 1 (p.room - 1) value refl n) tt k

  pub new_insert : (key value : List ℕ) (e : EditError) → RefusesValue (p.room - 1) value e → RefusesInsert bytes path key value e
  new_insert key value e k = at_new (RefusesInsert bytes path key value) (p.room - 1) value e (λ x n. misfits 1 (p.room - 1) value refl n) tt k

-- the same with the text in the place
module _ (bytes old : List ℕ) (path : List Step) (p : Place) (u : IsUtf8 bytes) (leads : Leads bytes path (Some p)) (is_part : (before o after : List ℕ) → IsPart bytes p before o after → old ≡ encode_utf8_all o) where
  pub value_there : Val (chars old) leads.placed.tree
  value_there =
      let q = leads.placed in
      let scalars : all_scalars (q.before ++ (q.old ++ q.after)) ≡ true = ap all_scalars (sym q.cut.whole) ∙ scalars-chars bytes u in
      let old_scalars : all_scalars q.old ≡ true = scalars_left q.old q.after (scalars_right q.before (q.old ++ q.after) scalars) in
      let same : chars old ≡ q.old = ap chars (is_part q.before q.old q.after q.cut) ∙ chars-encodes q.old old_scalars in
      subst (λ z. Val z q.tree) (sym same) q.value

  tree_there : (t : Tree) → Doc max_depth (chars old) t → t ≡ leads.placed.tree
  tree_there t d = tree_of (chars old) t leads.placed.tree d value_there

  -- another value than a collection of this kind
  pub reaches_no : (k : Kind) → BeginsNo k (chars old) → Reaches (IsNo k) bytes path
  reaches_no k n = reaches bytes path p leads (IsNo k) (n leads.placed.tree value_there)

  reaches_key : (key : List ℕ) (t : Tree) → Doc max_depth (chars old) t → HasKey key t → Reaches (HasKey key) bytes path
  reaches_key key t d k = reaches bytes path p leads (HasKey key) (subst (HasKey key) (tree_there t d) k)

  -- the step goes to no entry
  pub nowhere_in : (whole : List Step) (s : Step) → whole ≡ path ++ (s ∷ []) → LeadsNowhere old (s ∷ []) → LeadsNowhere bytes whole
  nowhere_in whole s is (t, d, n) =
      let q = leads.placed in (
        leads.tree,
        leads.document,
        ap (λ z. positions_of z leads.tree) is ∙ led_nowhere path (s ∷ []) leads.tree q.tree q.positions q.led q.there (ap (positions_of (s ∷ [])) (sym (tree_there t d)) ∙ n),
      )

  pub step_remove : (whole : List Step) (s : Step) (e : EditError) → whole ≡ path ++ (s ∷ []) → RefusesStep old s e → RefusesRemove bytes whole e
  step_remove whole s e is k = at_step (RefusesRemove bytes whole) old s e (λ n. inl (nowhere_in whole s is n)) tt k

  pub step_rename : (whole : List Step) (key : List ℕ) (s : Step) (e : EditError) → whole ≡ path ++ (s ∷ []) → RefusesStep old s e → RefusesRename bytes whole key e
  step_rename whole key s e is k = at_step (RefusesRename bytes whole key) old s e (λ n. nowhere_in whole s is n) tt k

  pub step_put_in : (value : List ℕ) (i : ℕ) (e : EditError) → RefusesStep old (step.Index i) e → RefusesPutIn bytes path i value e
  step_put_in value i e k = at_step (RefusesPutIn bytes path i value) old (step.Index i) e (λ n. nowhere_in (path ++ (step.Index i ∷ [])) (step.Index i) refl n) tt k

  -- of a text that is an object
  pub free_rename : (whole : List Step) (key : List ℕ) (s : Step) (e : EditError) → whole ≡ path ++ (s ∷ []) → (BeginsNo kind.Object (chars old) → ⊥) → RefusesFree old key e → RefusesRename bytes whole key e
  free_rename whole key s e is of_kind k = at_free (RefusesRename bytes whole key) old key e (λ t d h. (path, s, is, reaches_key key t d h)) (λ n. absurd (of_kind n)) tt k

  pub free_insert : (key value : List ℕ) (e : EditError) → RefusesFree old key e → RefusesInsert bytes path key value e
  free_insert key value e k = at_free (RefusesInsert bytes path key value) old key e (λ t d h. reaches_key key t d h) (λ n. reaches_no kind.Object n) tt k

  pub array_push : (value : List ℕ) (e : EditError) → RefusesKind kind.Array old e → RefusesPush bytes path value e
  array_push value e k = at_array (RefusesPush bytes path value) old e (λ n. reaches_no kind.Array n) tt k

  -- the value in the place, which fits there
  pub value_fits : Fits p.room old
  value_fits = let r = leads.placed.room in (omega (arith, r), (leads.placed.tree, value_there, fits_there leads))

-- ---- a step to a key of the collection

-- where it leads nowhere no member has the key
no_key : (k : Bor (List ℕ)) (t : Tree) → positions_of (step.Key k ∷ []) t ≡ None → HasKey k.now t → ⊥
no_key k (object ps) none ((i, s), is) = nothing (i ∷ []) (sym (ap (in_member (positions_of [])) is) ∙ none)
  where
    nothing : (js : List ℕ) → Some js ≡ None → ⊥
    nothing js e = cc
no_key k (array ts) none h = h
no_key k null none h = h
no_key k (boolean b) none h = h
no_key k (number n) none h = h
no_key k (text u b) none h = h

pub key_free : (old : List ℕ) (k : Bor (List ℕ)) → LeadsNowhere old (step.Key k ∷ []) → IsFree k.now old
key_free old k (t, d, none) u v h = no_key k u (subst (λ z. positions_of (step.Key k ∷ []) z ≡ None) (tree_of (chars old) t u d v) none) h
