-- Why a value isn't put.
use denote.Ref.{Bor}
use Rattle.std.proofs.Common.{◌≡◌, ◌⊎◌, inl, inr, ℕ, ◌+◌, ◌≤◌, ◌<◌, suc, List, [], ◌∷◌, ◌++◌, length, length-append, refl, sym, ap, ◌∙◌, subst, arith, Some, None}
use Rattle.std.specs.Prelude.{⊤, option_map}
use Rattle.std.specs.Str.{chars}
use Rattle.json5_grammar.specs.Language.Documents.{Doc, max_depth}
use Rattle.json5_grammar.specs.Language.Trees.{Tree, depth}
use Rattle.json5_grammar.specs.Language.Values.{Val}
use Rattle.json5_edit.specs.Entries.{entries}
use Rattle.json5_edit.specs.Parts.{part, positions_of}
use Rattle.json5_edit.specs.Places.{LeadsNowhere}
use Rattle.json5_edit.specs.Refusals.{HasKey, IsFaulty, Misfits, Reaches, RefusesInsert, RefusesPush}
use Rattle.json5_edit.specs.declared.faults.EditError.{EditError}
use Rattle.json5_edit.specs.declared.faults.EditError.TheVariants as error
use Rattle.json5_edit.specs.declared.paths.Step.{Step}
use Rattle.json5_edit.specs.declared.paths.Step.TheVariants as step
use Rattle.json5_edit_values.specs.Puts.{Gets, IsNoValueWithin, RefusesAlong, RefusesEntry, RefusesPut, RefusesStep, RefusesSteps, begun, first_in}
use Rattle.json5_edit_values.proofs.PatchesMade.{one_document, one_there}
use Rattle.json5_edit_values.proofs.PathsJoined.{leads_after, led_by_key, led_on, no_more_steps, part_on}
use Rattle.json5_edit_values.proofs.PutsMade.{begun_spelled, begun_value, first_led, gained, last_at}

-- ---- a value that is too deep

as_many : (steps : List Step) (t : Tree) (js : List ℕ) → positions_of steps t ≡ Some js → length js ≡ length steps
as_many [] t js e = let none : js ≡ [] = cc in ap length none
as_many (s ∷ rest) t js e = let f = first_led s rest t t js e in ap length f.at ∙ ap suc (as_many rest f.value f.further f.on)

within_or_past : (n limit : ℕ) → (n ≤ limit) ⊎ (limit < n)
within_or_past n limit = grind arith

pub too_deep : (further : ℕ) (bytes new : List ℕ) (path : List Step) → Misfits further bytes path new → (v : Tree) → Val (chars new) v → max_depth < (length path + further) + depth v
too_deep further bytes new path m v spelled = past (within_or_past ((length m.positions + further) + depth v) max_depth)
  where
    same : length m.positions ≡ length path
    same = as_many path m.tree m.positions m.led

    past : ((length m.positions + further) + depth v ≤ max_depth) ⊎ (max_depth < (length m.positions + further) + depth v) → max_depth < (length path + further) + depth v
    past (inl l) = absurd (m.misfit (v, spelled, omega (arith, l)))
    past (inr l) = omega (arith, l, same)

-- the entry for a step is too deep, and so is the value in it
deep_entry : (ss : List Step) (bytes value : List ℕ) (outer : List Step) → Misfits 1 bytes outer (first_in ss value) → (n : ℕ) → n ≡ length outer + suc (length ss) → IsNoValueWithin n value
deep_entry [] bytes value outer m n is = λ v spelled. let deep = too_deep 1 bytes value outer m v spelled in omega (arith, deep, is)
deep_entry (s ∷ ss) bytes value outer m n is = λ v spelled. let deep = too_deep 1 bytes (first_in (s ∷ ss) value) outer m (begun (s ∷ ss)) (begun_value s ss value) in let shallow = begun_depth s ss in omega (arith, deep, shallow, is)
  where
    begun_depth : (s : Step) (ss : List Step) → depth (begun (s ∷ ss)) ≡ 1
    begun_depth (step.Key k) ss = refl
    begun_depth (step.Index i) ss = refl

-- ---- where one more step leads nowhere

-- the outer steps lead to a value, from which the next one leads nowhere
pub record Ends (bytes : List ℕ) (outer : List Step) (s : Step) : Type 0 where
  pub tree : Tree
  pub document : Doc max_depth (chars bytes) tree
  pub positions : List ℕ
  pub led : positions_of outer tree ≡ Some positions
  pub value : Tree
  pub there : part positions tree ≡ Some value
  pub none : positions_of (s ∷ []) value ≡ None

pub ends_at : (bytes : List ℕ) (outer : List Step) (s : Step) → Reaches (λ t. ⊤) bytes outer → LeadsNowhere bytes (outer ++ (s ∷ [])) → Ends bytes outer s
ends_at bytes outer s r (t, d, none) =
    let same = one_document (chars bytes) t r.tree d r.document in
    let nowhere : positions_of (outer ++ (s ∷ [])) r.tree ≡ None = ap (positions_of (outer ++ (s ∷ []))) (sym same) ∙ none in
    record {
      tree = r.tree;
      document = r.document;
      positions = r.positions;
      led = r.led;
      value = r.value;
      there = r.there;
      none = no_more_steps r.positions (positions_of (s ∷ []) r.value) (sym (led_on outer (s ∷ []) r.tree r.value r.positions r.led r.there) ∙ nowhere);
    }

begun_none : (s : Step) (ss : List Step) → positions_of (s ∷ []) (begun (s ∷ ss)) ≡ None
begun_none (step.Key k) ss = refl
begun_none (step.Index i) ss = refl

-- ---- an entry

-- as said of the tree at the outer steps
abbrev pub RefusesFrom : List ℕ → (outer rest : List Step) → (value : List ℕ) → EditError → Type 0
RefusesFrom bytes outer rest value (error.Text e) = IsFaulty bytes e
RefusesFrom bytes outer rest value (error.Value e) = IsNoValueWithin (length outer + length rest) value
RefusesFrom bytes outer rest value error.NoMemory = ⊤
RefusesFrom bytes outer rest value e = Reaches (λ t. RefusesSteps rest t e) bytes outer

module _ (s : Step) (ss : List Step) (bytes value : List ℕ) (outer : List Step) (n : Ends bytes outer s) where
  same_value : (t v : Tree) (js : List ℕ) → Doc max_depth (chars bytes) t → positions_of outer t ≡ Some js → part js t ≡ Some v → n.value ≡ v
  same_value t v js d led there = one_there outer n.tree t n.value v n.positions js (one_document (chars bytes) n.tree t n.document d) n.led n.there led there

  reached : (e : EditError) (Such : Tree → Type 0) → (r : Reaches Such bytes outer) → ((v : Tree) → Such v → RefusesStep s v e) → Reaches (λ t. RefusesSteps (s ∷ ss) t e) bytes outer
  reached e Such r k =
      let none = subst (λ v. positions_of (s ∷ []) v ≡ None) (same_value r.tree r.value r.positions r.document r.led r.there) n.none in
      record { tree = r.tree; document = r.document; positions = r.positions; led = r.led; value = r.value; there = r.there; such = inr (none, inl (k r.value r.such)) }

  never_nowhere : LeadsNowhere bytes outer → ⊥
  never_nowhere (t, d, none) =
      let same = one_document (chars bytes) n.tree t n.document d in
      let no : Some n.positions ≡ None = sym n.led ∙ ap (positions_of outer) same ∙ none in
      absurd (cc)

  has_none : (k : Bor (List ℕ)) → s ≡ step.Key k → Reaches (HasKey k.now) bytes outer → ⊥
  has_none k is r =
      let none = subst (λ v. positions_of (s ∷ []) v ≡ None) (same_value r.tree r.value r.positions r.document r.led r.there) n.none in
      led_by_key k r.value (subst (λ z. positions_of (z ∷ []) r.value ≡ None) is none) r.such

entry_by_key : (k : Bor (List ℕ)) (ss : List Step) (bytes value : List ℕ) (outer : List Step) → Ends bytes outer (step.Key k) → (e : EditError) → RefusesInsert bytes outer k.now (first_in ss value) e → RefusesFrom bytes outer (step.Key k ∷ ss) value e
entry_by_key k ss bytes value outer n (error.Text x) r = r
entry_by_key k ss bytes value outer n error.Nowhere r = absurd (never_nowhere (step.Key k) ss bytes value outer n r)
entry_by_key k ss bytes value outer n (error.Value x) r = deep_entry ss bytes value outer r (length outer + suc (length ss)) refl
entry_by_key k ss bytes value outer n error.Taken r = absurd (has_none (step.Key k) ss bytes value outer n k refl r)
entry_by_key k ss bytes value outer n error.NotObject r = reached (step.Key k) ss bytes value outer n error.NotObject _ r (λ v is. is)
entry_by_key k ss bytes value outer n error.NotArray r = absurd r
entry_by_key k ss bytes value outer n error.NoKey r = absurd r
entry_by_key k ss bytes value outer n error.NoMemory r = tt
entry_by_key k ss bytes value outer n error.Failed r = absurd r

entry_by_push : (i : ℕ) (ss : List Step) (bytes value : List ℕ) (outer : List Step) → Ends bytes outer (step.Index i) → (e : EditError) → RefusesPush bytes outer (first_in ss value) e → RefusesFrom bytes outer (step.Index i ∷ ss) value e
entry_by_push i ss bytes value outer n (error.Text x) r = r
entry_by_push i ss bytes value outer n error.Nowhere r = absurd (never_nowhere (step.Index i) ss bytes value outer n r)
entry_by_push i ss bytes value outer n (error.Value x) r = deep_entry ss bytes value outer r (length outer + suc (length ss)) refl
entry_by_push i ss bytes value outer n error.Taken r = absurd r
entry_by_push i ss bytes value outer n error.NotObject r = absurd r
entry_by_push i ss bytes value outer n error.NotArray r = reached (step.Index i) ss bytes value outer n error.NotArray _ r (λ v is. is)
entry_by_push i ss bytes value outer n error.NoKey r = absurd r
entry_by_push i ss bytes value outer n error.NoMemory r = tt
entry_by_push i ss bytes value outer n error.Failed r = absurd r

entry_refused : (s : Step) (ss : List Step) (bytes value : List ℕ) (outer : List Step) → Ends bytes outer s → (e : EditError) → RefusesEntry s bytes outer (first_in ss value) e → RefusesFrom bytes outer (s ∷ ss) value e
entry_refused (step.Key k) ss bytes value outer n e r = entry_by_key k ss bytes value outer n e r
entry_refused (step.Index i) ss bytes value outer n e (inl r) = entry_by_push i ss bytes value outer n e r
entry_refused (step.Index i) ss bytes value outer n e (inr (r, is)) =
    subst (RefusesFrom bytes outer (step.Index i ∷ ss) value) (sym is) (reached (step.Index i) ss bytes value outer n error.Nowhere _ r (λ v other. other))

-- ---- one of the entries

module _ (s next : Step) (ss : List Step) (bytes between value : List ℕ) (outer : List Step) (n : Ends bytes outer s) (m : Ends between (outer ++ (s ∷ [])) next) (is : m.value ≡ begun (next ∷ ss)) where
  further : (e : EditError) → Reaches (λ t. RefusesSteps (next ∷ ss) t e) between (outer ++ (s ∷ [])) → Reaches (λ t. RefusesSteps (s ∷ next ∷ ss) t e) bytes outer
  further e r =
      let same = same_value next ss between value (outer ++ (s ∷ [])) m r.tree r.value r.positions r.document r.led r.there in
      let inside = subst (λ v. RefusesSteps (next ∷ ss) v e) (sym same ∙ is) r.such in
      record { tree = n.tree; document = n.document; positions = n.positions; led = n.led; value = n.value; there = n.there; such = inr (n.none, inr inside) }

  from_inner : (e : EditError) → RefusesFrom between (outer ++ (s ∷ [])) (next ∷ ss) value e → RefusesFrom bytes outer (s ∷ next ∷ ss) value e
  from_inner (error.Text x) r = absurd (r.no_document (m.tree, m.document))
  from_inner error.Nowhere r = further error.Nowhere r
  from_inner (error.Value x) r = λ v spelled. let deep = r v spelled in let one = length-append outer (s ∷ []) in omega (arith, deep, one)
  from_inner error.Taken r = further error.Taken r
  from_inner error.NotObject r = further error.NotObject r
  from_inner error.NotArray r = further error.NotArray r
  from_inner error.NoKey r = further error.NoKey r
  from_inner error.NoMemory r = tt
  from_inner error.Failed r = further error.Failed r

pub refused_from : (s : Step) (ss : List Step) (bytes value : List ℕ) (outer : List Step) (e : EditError) → Ends bytes outer s → RefusesAlong bytes outer (s ∷ ss) value e → RefusesFrom bytes outer (s ∷ ss) value e
refused_from s ss bytes value outer e n (inl r) = entry_refused s ss bytes value outer n e r
refused_from s [] bytes value outer e n (inr (between, gets, is)) = subst (RefusesFrom bytes outer (s ∷ []) value) (sym is) tt
refused_from s (next ∷ ss) bytes value outer e n (inr (between, gets, rest)) =
    let (t, m, d, f, (b, begins, c)) = gained s bytes (first_in (next ∷ ss) value) between outer gets in
    let (led, there) = leads_after (Gets s b) outer t m c in
    let l = last_at s b c.old c.new c.changed in
    let is = begun_spelled next ss value b begins in
    let ends : Ends between (outer ++ (s ∷ [])) next = record {
      tree = m;
      document = f;
      positions = c.positions ++ (length (entries c.old) ∷ []);
      led = led_on outer (s ∷ []) m c.new c.positions led there ∙ ap (option_map (λ ks. c.positions ++ ks)) l.led;
      value = b;
      there = part_on c.positions (length (entries c.old) ∷ []) m c.new there ∙ l.there;
      none = subst (λ v. positions_of (next ∷ []) v ≡ None) (sym is) (begun_none next ss);
    } in
    from_inner s next ss bytes between value outer n ends is e (refused_from next ss between value (outer ++ (s ∷ [])) e ends rest)

-- ---- from the outermost value on

steps_on : (outer rest : List Step) (t x : Tree) (js : List ℕ) (e : EditError) → positions_of outer t ≡ Some js → part js t ≡ Some x → RefusesSteps rest x e → RefusesSteps (outer ++ rest) t e
steps_on [] rest t x js e led there r =
    let none : js ≡ [] = cc in
    let found : Some t ≡ Some x = ap (λ z. part z t) (sym none) ∙ there in
    let same : x ≡ t = cc in
    subst (λ z. RefusesSteps rest z e) same r
steps_on (s ∷ outer) rest t x js e led there r =
    let f = first_led s outer t x js led in
    let inside : part f.further f.value ≡ Some x = sym (part_on (f.position ∷ []) f.further t f.value f.there) ∙ ap (λ z. part z t) (sym f.at) ∙ there in
    inl (f.value, (f.position ∷ [], f.led, f.there), steps_on outer rest f.value x f.further e f.on inside r)

pub refused_whole : (bytes value : List ℕ) (path outer rest : List Step) (e : EditError) → path ≡ outer ++ rest → RefusesFrom bytes outer rest value e → RefusesPut bytes path value e
refused_whole bytes value path outer rest (error.Text x) is r = r
refused_whole bytes value path outer rest (error.Value x) is r = λ v spelled. let deep = r v spelled in let all = ap length is ∙ length-append outer rest in omega (arith, deep, all)
refused_whole bytes value path outer rest error.Nowhere is r = (r.tree, r.document, subst (λ z. RefusesSteps z r.tree error.Nowhere) (sym is) (steps_on outer rest r.tree r.value r.positions error.Nowhere r.led r.there r.such))
refused_whole bytes value path outer rest error.Taken is r = (r.tree, r.document, subst (λ z. RefusesSteps z r.tree error.Taken) (sym is) (steps_on outer rest r.tree r.value r.positions error.Taken r.led r.there r.such))
refused_whole bytes value path outer rest error.NotObject is r = (r.tree, r.document, subst (λ z. RefusesSteps z r.tree error.NotObject) (sym is) (steps_on outer rest r.tree r.value r.positions error.NotObject r.led r.there r.such))
refused_whole bytes value path outer rest error.NotArray is r = (r.tree, r.document, subst (λ z. RefusesSteps z r.tree error.NotArray) (sym is) (steps_on outer rest r.tree r.value r.positions error.NotArray r.led r.there r.such))
refused_whole bytes value path outer rest error.NoKey is r = (r.tree, r.document, subst (λ z. RefusesSteps z r.tree error.NoKey) (sym is) (steps_on outer rest r.tree r.value r.positions error.NoKey r.led r.there r.such))
refused_whole bytes value path outer rest error.NoMemory is r = tt
refused_whole bytes value path outer rest error.Failed is r = (r.tree, r.document, subst (λ z. RefusesSteps z r.tree error.Failed) (sym is) (steps_on outer rest r.tree r.value r.positions error.Failed r.led r.there r.such))
