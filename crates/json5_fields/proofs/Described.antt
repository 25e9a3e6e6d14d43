-- What is read of one field, or of some, is read of all.
use Rattle.std.proofs.Common.{◌≡◌, ◌⊎◌, ℕ, Bool, true, false, List, [], ◌∷◌, refl, sym, ap, ◌∙◌, subst, inl, inr, Option, Some, None, Ok, Err}
use Rattle.std.proofs.Math.Path.{fun_ext}
use Rattle.std.proofs.lemmas.Bool.{and_parts, false≢true}
use Rattle.std.proofs.lemmas.Option.{same_Some}
use Rattle.std.proofs.lemmas.Slice.Eq.{bytes_eq-Decides}
use Rattle.std.specs.Prelude.{Result, IfOk, IfErr, IsErrAnd, OnOk, is_some, not}
use Rattle.std.specs.Str.{bytes_eq}
use Rattle.json5_grammar.specs.Language.Trees.{Tree, Members, member}
use Rattle.json5_grammar.specs.Model.Collections.{joint, snoc_member}
use Rattle.json5_types.specs.declared.error.Error.{Error}
use Rattle.json5_tokens.specs.Cursor.{IsOutOfMemory}
use Rattle.json5_de.specs.State.{State}
use Rattle.json5_de.specs.AnyTree.{RefusesTree, every_value}
use Rattle.json5_de.specs.TokenKinds.{every_tree}
use Rattle.json5_de.specs.ConvertLists.{if_some}
use Rattle.json5_de.specs.Refinement.{if_more}
use Rattle.json5_de.specs.Objects.{MapAccessState, MembersRead, MembersLeft, ReadsValueFree}
use Rattle.json5_de.specs.Fields.{IsOwnAtBracket, FieldFault, in_field, twice, FieldRead, FieldRequired, RefusesHere}
use Rattle.json5_de.specs.Plans.{Step, at_name, run, TakesMember, TakesFree, LeavesTaken, PassesMember}
use Rattle.json5_de.specs.StructFaults.{ValueFaults, or_of, of_any, may_stand, RefusesMember}
use Rattle.json5_de.specs.Lending.{map_state_of, at_its_key, KeepsMap, KeyIsNamed, NoKeyPending, TakesPendingKey}
use Rattle.json5_de.specs.declared.map.MapAccess.{MapAccess}
use Rattle.json5_de.proofs.ElementLoops.{handed_on}
use Rattle.json5_de.proofs.Structs.{here, takes_field}
use Rattle.json5_fields.specs.Layouts.{Layout, has_name, first_or, and_layout, one_field, required_field, to_first, to_others, named_first, named_second, named_neither, hold, held_step, held_takes, held_passes}
use Rattle.json5_fields.specs.Only.{only_step, only_takes, only_none, of_unknown}
use Rattle.json5_de.specs.DeserializeLaw.{IsUnprompted}
use Rattle.json5_fields.specs.Spares.{Spares, spared, free_if_read, spares_both, FinishesFree}
use Rattle.json5_fields.specs.FieldCalls.{of_type, first_value, second_value, TakesNamed, TakesHere, Tries, Finished, Missed, Finishes}

-- the refusal of a member that passes the test, which can't be
abbrev NotFree : {S : Type 0} → (Tree → Bool) → Step S → S → List ℕ → MapAccessState → Type 0
NotFree {S} free step s name old = (u : List ℕ) (escape_free : Bool) (t : Tree) (ps : Members) (r : List ℕ) (m : S) → step s name t ≡ Some m → MembersLeft (member u escape_free t ps) r old → free t ≡ true → false ≡ true

-- and that of what was read, where no default takes memory
abbrev NotMade : {S D : Type 0} → Bool → Layout S D → S → MapAccessState → Type 0
NotMade {D = D} defaults l s old = (d : D) → defaults ≡ true → old.at.reader.failed ≡ false → l.build s ≡ Some d → false ≡ true

-- ---- a step that another one makes

some_made : {A B : Type 0} (g : A → B) (o : Option A) → is_some (if_some g o) ≡ is_some o
some_made g None = refl
some_made g (Some a) = refl

pub made_of : {S U : Type 0} (g : S → U) (m : U) (o : Option S) → if_some g o ≡ Some m → (c : S) × (o ≡ Some c) × (m ≡ g c)
made_of g m None is = absurd (cc)
made_of g m (Some c) is = (c, refl, cc is)

module _ {S U : Type 0} (a : Step S) (b : Step U) (g : S → U) (s : S) (there name : List ℕ) (same : (t : Tree) → b (g s) name t ≡ if_some g (a s there t)) where
  pub takes_through : {n : S} {old new : MapAccessState} {result : Result (Unit {0}) Error} → TakesMember a s n there old new result → TakesMember b (g s) (g n) name old new result
  takes_through {n = n} {old = old} {new = new} {result = result} is = record {
    read = reads result is.read;
    left = λ u escape_free t ps r m takes left. let (c, at, made) = made_of g m (a s there t) (sym (same t) ∙ takes) in leaves result c m ps r made (is.left u escape_free t ps r c at left);
    live = is.live;
    shorter = is.shorter;
    failed = is.failed;
    unprompted = is.unprompted;
  }
    where
      reads : (result : Result (Unit {0}) Error)
          → OnOk result ((t : Tree) × (a s there t ≡ Some n) × ((from : State) (ps : Members) (u : List ℕ) (escape_free : Bool) → MembersRead from ps (Some (u, escape_free)) old → MembersRead from (snoc_member ps u escape_free t) None new))
          → OnOk result ((t : Tree) × (b (g s) name t ≡ Some (g n)) × ((from : State) (ps : Members) (u : List ℕ) (escape_free : Bool) → MembersRead from ps (Some (u, escape_free)) old → MembersRead from (snoc_member ps u escape_free t) None new))
      reads (Ok done) (t, is, on) = (t, same t ∙ ap (if_some g) is, on)
      reads (Err e) read = tt

      leaves : (result : Result (Unit {0}) Error) (c : S) (m : U) (ps : Members) (r : List ℕ) → m ≡ g c → LeavesTaken n c ps r new result → LeavesTaken (g n) m ps r new result
      leaves (Ok done) c m ps r made (one, others) = (made ∙ ap g one, others)
      leaves (Err e) c m ps r made memory = memory

  same_may : may_stand b (g s) name ≡ may_stand a s there
  same_may = fun_ext (λ t. ap is_some (same t) ∙ some_made g (a s there t))

  pub refused_through : (fa fb : ValueFaults) (old : MapAccessState) (result : Result (Unit {0}) Error) → ((may : Tree → Bool) (e : Error) → fa there may old e → fb name may old e) → RefusesMember fa a s there old result → RefusesMember fb b (g s) name old result
  refused_through fa fb old result one is = by result is
    where
      by : (result : Result (Unit {0}) Error) → RefusesMember fa a s there old result → RefusesMember fb b (g s) name old result
      by (Ok done) is = tt
      by (Err e) is = λ live. one (may_stand b (g s) name) e (subst (λ may. fa there may old e) (sym same_may) (is live))

  -- what one reads without memory, so does the other
  free_through : (test other : Tree → Bool) (old : MapAccessState) → ((t : Tree) → other t ≡ true → test t ≡ true) → NotFree test a s there old → NotFree other b (g s) name old
  free_through test other old only free u escape_free t ps r m takes left spare = let (c, is, made) = made_of g m (a s there t) (sym (same t) ∙ takes) in free u escape_free t ps r c is left (only t spare)

-- ---- a field, and others

module _ {I S T A B : Type 0} (a : Layout S A) (b : Layout T B) (fa fb : ValueFaults) {name : List ℕ} {old new : MapAccess I} where
  pub first_here : {s n : S} {t : T} {result : Result (Unit {0}) Error} → TakesHere a fa s n name old new result → TakesHere (and_layout a b) (or_of fa fb) (s, t) (n, t) name old new result
  first_here {s = s} {t = t} {result = result} is = record {
    named = named_first a.names b.names name is.named;
    takes = takes_through a.step (first_or a.names a.step b.step) (λ x. (x, t)) s name name (λ v. to_first a b (s, t) name v is.named) is.takes;
    refused = refused_through a.step (first_or a.names a.step b.step) (λ x. (x, t)) s name name (λ v. to_first a b (s, t) name v is.named) fa (or_of fa fb) (map_state_of old) result (λ may e fault. inl fault) is.refused;
    access = is.access;
    pending = is.pending;
  }

  others_here : {s : S} {t m : T} → has_name a.names name ≡ false → {result : Result (Unit {0}) Error} → TakesHere b fb t m name old new result → TakesHere (and_layout a b) (or_of fa fb) (s, t) (s, m) name old new result
  others_here {s = s} {t = t} not {result = result} is = record {
    named = named_second a.names b.names name is.named;
    takes = takes_through b.step (first_or a.names a.step b.step) (λ x. (s, x)) t name name (λ v. to_others a b (s, t) name v not) is.takes;
    refused = refused_through b.step (first_or a.names a.step b.step) (λ x. (s, x)) t name name (λ v. to_others a b (s, t) name v not) fb (or_of fa fb) (map_state_of old) result (λ may e fault. inr fault) is.refused;
    access = is.access;
    pending = is.pending;
  }

module _ {S T A B : Type 0} (a : Layout S A) (b : Layout T B) (sa sb : Spares) (s : S) (t : T) (name : List ℕ) (old : MapAccessState) where
  pub first_free : has_name a.names name ≡ true → NotFree sa.values a.step s name old → NotFree (spares_both sa sb).values (and_layout a b).step (s, t) name old
  first_free named free = free_through a.step (first_or a.names a.step b.step) (λ x. (x, t)) s name name (λ v. to_first a b (s, t) name v named) sa.values (spares_both sa sb).values old (λ v spare. (and_parts (sa.values v) (sb.values v) spare).0) free

  others_free : has_name a.names name ≡ false → NotFree sb.values b.step t name old → NotFree (spares_both sa sb).values (and_layout a b).step (s, t) name old
  others_free other free = free_through b.step (first_or a.names a.step b.step) (λ x. (s, x)) t name name (λ v. to_others a b (s, t) name v other) sb.values (spares_both sa sb).values old (λ v spare. (and_parts (sa.values v) (sb.values v) spare).1) free

-- the others were tried after the first
pub others_try_free : {I S T A B : Type 0} (a : Layout S A) (b : Layout T B) (fa : ValueFaults) (sa sb : Spares) {s n : S} (t : T) {name : List ℕ} {old mid : MapAccess I} (result : Result Bool Error) → Tries a fa s n name old mid (Ok false)
    → TakesFree sb.values b.step t name (map_state_of mid) result → TakesFree (spares_both sa sb).values (and_layout a b).step (s, t) name (map_state_of old) result
others_try_free a b fa sa sb t (Ok v) passes free = λ u escape_free w ps r m takes left spare. refl
others_try_free {I = I} a b fa sa sb {s = s} t {name = name} {old = old} (Err e) passes free =
    others_free a b sa sb s t name (map_state_of old) passes.other (subst (λ (m : MapAccess I). NotFree sb.values b.step t name (map_state_of m)) passes.access free)

others_from : {I S T A B : Type 0} (a : Layout S A) (b : Layout T B) (fa fb : ValueFaults) (name : List ℕ) (old new : MapAccess I) (s : S) (t m : T) → has_name a.names name ≡ false → (result : Result Bool Error) → Tries b fb t m name old new result → Tries (and_layout a b) (or_of fa fb) (s, t) (s, m) name old new result
others_from a b fa fb name old new s t m not (Ok true) is = others_here a b fa fb not is
others_from a b fa fb name old new s t m not (Ok false) is = record { other = named_neither a.names b.names name not is.other; fields = ap (λ x. (s, x)) is.fields; access = is.access }
others_from a b fa fb name old new s t m not (Err e) is = others_here a b fa fb not is

-- the first has no such name, and the others were tried
pub others_try : {I S T A B : Type 0} (a : Layout S A) (b : Layout T B) (fa fb : ValueFaults) {s n : S} (t m : T) {name : List ℕ} {old mid : MapAccess I} (new : MapAccess I) (result : Result Bool Error) → Tries a fa s n name old mid (Ok false) → Tries b fb t m name mid new result
    → Tries (and_layout a b) (or_of fa fb) (s, t) (n, m) name old new result
others_try a b fa fb {s = s} {n = n} t m {name = name} {old = old} {mid = mid} new result passes is =
    subst (λ x. Tries (and_layout a b) (or_of fa fb) (s, t) (x, m) name old new result) (sym passes.fields)
    (others_from a b fa fb name old new s t m passes.other result (subst (λ x. Tries b fb t m name x new result) passes.access is))

-- ---- the values

joint_none : {A B : Type 0} (o : Option A) → joint {V = B} o None ≡ None
joint_none None = refl
joint_none (Some a) = refl

module _ {I S T A B : Type 0} (a : Layout S A) (b : Layout T B) {s : S} {t : T} {old new : MapAccess I} where
  pub both_finish : {mid : MapAccess I} {c : A} {d : B} → Finished a s c old mid → Finished b t d mid new → Finished (and_layout a b) (s, t) (c, d) old new
  both_finish first others = record { built = rw (first.built, others.built) refl; same = others.same ∙ first.same; same_reference = others.same_reference ∙ first.same_reference }

  pub first_missed : {e : Error} → Missed a s old new e → Missed (and_layout a b) (s, t) old new e
  first_missed {e = e} is = record {
    missing = λ live. let (none, own) = is.missing live in (by none, own);
    unprompted = is.unprompted;
    same_text = is.same_text;
    same_reference = is.same_reference;
  }
    where
      by : (a.build s ≡ None) ⊎ IsOutOfMemory e → (joint (a.build s) (b.build t) ≡ None) ⊎ IsOutOfMemory e
      by (inl none) = inl (rw none refl)
      by (inr memory) = inr memory

  pub others_missed : {mid : MapAccess I} {c : A} {e : Error} → Finished a s c old mid → Missed b t mid new e → Missed (and_layout a b) (s, t) old new e
  others_missed {e = e} first is = record {
    missing = λ live. let (none, own) = is.missing (ap (λ (m : MapAccessState). m.at.reader.failed) first.same ∙ live) in (by none, subst (λ m. IsOwnAtBracket m.at e) first.same own);
    unprompted = λ live. is.unprompted (ap (λ (m : MapAccessState). m.at.reader.failed) first.same ∙ live);
    same_text = is.same_text ∙ ap (λ (m : MapAccessState). m.at.reader.input) first.same;
    same_reference = is.same_reference ∙ first.same_reference;
  }
    where
      by : (b.build t ≡ None) ⊎ IsOutOfMemory e → (joint (a.build s) (b.build t) ≡ None) ⊎ IsOutOfMemory e
      by (inl none) = inl (ap (joint (a.build s)) none ∙ joint_none (a.build s))
      by (inr memory) = inr memory

-- a field is missing
pub missed : {I S D V : Type 0} (l : Layout S D) (content : V → D) {s : S} {old new : MapAccess I} (e : Error) (result : Result V Error) → IsErrAnd result (λ y. y ≡ e) → Missed l s old new e → Finishes l content s old new result
missed l content {s = s} {old = old} {new = new} e result is_err is = handed_on (λ r. Finishes l content s old new r) e result is_err is

-- ---- one field

-- a test that they differ failed
pub same_name : (u n : List ℕ) (r : Bool) → r ≡ not (bytes_eq u n) → r ≡ false → u ≡ n
same_name u n r is fails = by (bytes_eq u n) refl (sym is ∙ fails)
  where
    by : (b : Bool) → bytes_eq u n ≡ b → not b ≡ false → u ≡ n
    by true equal f = (bytes_eq-Decides u n).0 equal
    by false equal f = absurd (cc)

has_it : {name field : List ℕ} → name ≡ field → has_name (field ∷ []) name ≡ true
has_it {name = name} {field = field} same = let equal : bytes_eq name field ≡ true = (bytes_eq-Decides name field).1 same in rw equal refl

-- a value of this name may stand where its field has none yet
may_first : {C : Type 0} (f : Tree → Option C) (name : List ℕ) (t : Tree) → at_name f name None name t ≡ if_some Some (f t)
unfolding at_name
may_first f name t = let equal : bytes_eq name name ≡ true = (bytes_eq-Decides name name).1 refl in rw equal refl

-- and not where it has one
pub may_not : {C : Type 0} (f : Tree → Option C) (name : List ℕ) (c : C) (t : Tree) → at_name f name (Some c) name t ≡ None
unfolding at_name
may_not f name c t = let equal : bytes_eq name name ≡ true = (bytes_eq-Decides name name).1 refl in rw equal refl

module _ {I V C : Type 0} {content : V → C} {f : Tree → Option C} {refuses : State → Error → State → Type 0} {name : List ℕ} {old new : MapAccess I} where
  -- the first value was read, or refused
  pub takes_first : {o n : Option V} {result : Result (Unit {0}) Error} → o ≡ None → FieldRead content f refuses (map_state_of old) (map_state_of new) o n result → KeepsMap old new → TakesPendingKey old new result → TakesNamed content f refuses name old new o n result
  takes_first {o = o} {n = n} {result = result} none is keeps pending = record {
    takes = takes_field None (here {name = name}) is;
    refused = refused result is.cause;
    access = keeps;
    pending = taken result pending.given;
  }
    where
      taken : (result : Result (Unit {0}) Error) → IfOk result (λ v. (map_state_of new).pending ≡ false) → OnOk result (NoKeyPending new)
      taken (Ok done) none = none
      taken (Err e) none = tt

      fault : (p : Option V) (e : Error) → p ≡ None → FieldFault refuses (map_state_of old) p e → of_type f refuses name (may_stand (at_name f name) (if_some content p) name) (map_state_of old) e
      fault None e none (in_field same refused) = first_value (λ t. ap is_some (may_first f name t) ∙ some_made Some (f t)) refused
      fault None e none (twice some own) = absurd (cc)
      fault (Some v) e none is = absurd (cc)

      refused : (result : Result (Unit {0}) Error) → IfErr result (λ e. (map_state_of old).at.reader.failed ≡ false → FieldFault refuses (map_state_of old) o e) → RefusesMember (of_type f refuses) (at_name f name) (if_some content o) name (map_state_of old) result
      refused (Ok done) cause = tt
      refused (Err e) cause = λ live. fault o e none (cause live)

  -- a second value was refused at its key
  pub refuses_second : (o : Option V) (e : Error) → is_some o ≡ true → KeyIsNamed name old → KeepsMap old new → (map_state_of new).at.reader.failed ≡ true → ((map_state_of old).at.reader.failed ≡ false → IsOwnAtBracket (at_its_key old) e) → ((map_state_of old).at.reader.failed ≡ false → IsUnprompted e)
      → TakesNamed content f refuses name old new o o (Err e)
  refuses_second None e some named keeps failed own unprompted = absurd (cc)
  refuses_second (Some v) e some named keeps failed own unprompted = record {
    takes = record {
      read = tt;
      left = λ u escape_free t ps r m is left. let none = may_not f name (content v) t in absurd (cc (none, is));
      live = tt;
      shorter = tt;
      failed = failed;
      unprompted = unprompted;
    };
    refused = λ live. second_value (λ t. ap is_some (may_not f name (content v) t)) (record { start = old.key_start; begins = named; fault = own live });
    access = keeps;
    pending = tt;
  }

-- the first value takes no memory that its type doesn't take
pub named_free : {V C : Type 0} (content : V → C) (f : Tree → Option C) (allocation_free : Tree → Bool) (name : List ℕ) (old : MapAccessState) {o : Option V} (result : Result (Unit {0}) Error) → o ≡ None → (o ≡ None → ReadsValueFree f allocation_free old result)
    → TakesFree (spared f allocation_free) (at_name f name) (if_some content o) name old result
named_free content f allocation_free name old {o = Some v} result none free = absurd (cc none)
named_free content f allocation_free name old {o = None} result none free = λ u escape_free t ps r m takes left spare.
    let (c, is, made) = made_of Some m (f t) (sym (may_first f name t) ∙ takes) in
    free none u escape_free t ps r c left is (subst (λ x. free_if_read x (allocation_free t) ≡ true) is spare)

-- no second value may stand there
pub second_free : {V C : Type 0} (content : V → C) (f : Tree → Option C) (test : Tree → Bool) (name : List ℕ) (old : MapAccessState) (o : Option V) → is_some o ≡ true → NotFree test (at_name f name) (if_some content o) name old
second_free content f test name old None some = absurd (false≢true some)
second_free content f test name old (Some v) some = λ u escape_free t ps r m takes left spare. let none = may_not f name (content v) t in absurd (cc (none, takes))

-- the same of the field that has the name
pub it_free : {C : Type 0} (f : Tree → Option C) (s : Option C) {test : Tree → Bool} {field name : List ℕ} {old : MapAccessState} → name ≡ field → NotFree test (at_name f name) s name old → NotFree test (at_name f field) s name old
it_free f s {test = test} {name = name} {old = old} same free = subst (λ w. NotFree test (at_name f w) s name old) same free

-- the value of a field was read, or refused
pub takes_it : {I V C D : Type 0} {content : V → C} {f : Tree → Option C} {refuses : State → Error → State → Type 0} {field name : List ℕ} {o n : Option V} {old new : MapAccess I} {build : Option C → Option D} {convert : Members → Option D} {says : (ps : Members) → convert ps ≡ if_more build (run (at_name f field) None ps)}
    {result : Result (Unit {0}) Error} → name ≡ field → TakesNamed content f refuses name old new o n result → TakesHere (one_field field f build convert says) (of_type f refuses) (if_some content o) (if_some content n) name old new result
takes_it {content = content} {f = f} {refuses = refuses} {name = name} {o = o} {n = n} {old = old} {new = new} {result = result} same is = record {
  named = has_it same;
  takes = subst (λ w. TakesMember (at_name f w) (if_some content o) (if_some content n) name (map_state_of old) (map_state_of new) result) same is.takes;
  refused = subst (λ w. RefusesMember (of_type f refuses) (at_name f w) (if_some content o) name (map_state_of old) result) same is.refused;
  access = is.access;
  pending = is.pending;
}

-- a field that has to be there is returned, or it is missing
pub required_finishes : {I V C : Type 0} (content : V → C) (f : Tree → Option C) (field : List ℕ) {old new : MapAccess I} {o : Option V} (result : Result V Error) → KeepsMap old new → IfOk result (λ v. o ≡ Some v) → FieldRequired (map_state_of old) (map_state_of new) o result
    → Finishes (required_field field f) content (if_some content o) old new result
required_finishes content f field (Ok v) keeps found is = record { built = ap (if_some content) found; same = is.same; same_reference = keeps.same_reference }
required_finishes content f field (Err e) keeps found is = record {
  missing = λ live. let (none, own) = is.missing live in (inl (ap (if_some content) none), own);
  unprompted = is.unprompted;
  same_text = keeps.same_text;
  same_reference = keeps.same_reference;
}

-- ---- all fields, and what no field is

pub all_free_here : {S D : Type 0} (l : Layout S D) (spares : Spares) (s : S) (name : List ℕ) (old : MapAccessState) → NotFree spares.values l.step s name old → NotFree spares.values held_step (l, s) name old
all_free_here l spares s name old free = free_through l.step held_step (hold l) s name name (λ t. held_takes l s name t) spares.values spares.values old (λ t spare. spare) free

module _ {I S D : Type 0} (l : Layout S D) (faults : ValueFaults) {s n : S} {name : List ℕ} {old : MapAccess I} where
  pub all_take : {new : MapAccess I} {result : Result (Unit {0}) Error} → TakesHere l faults s n name old new result → TakesMember held_step (l, s) (l, n) name (map_state_of old) (map_state_of new) result
  all_take is = takes_through l.step held_step (hold l) s name name (λ t. held_takes l s name t) is.takes

  pub all_refuse : {new : MapAccess I} {result : Result (Unit {0}) Error} → TakesHere l faults s n name old new result → RefusesMember (or_of faults of_any) held_step (l, s) name (map_state_of old) result
  all_refuse {result = result} is = refused_through l.step held_step (hold l) s name name (λ t. held_takes l s name t) faults (or_of faults of_any) (map_state_of old) result (λ may e fault. inl fault) is.refused

  -- no field has its name, and it is passed over
  pub passes_all : {mid : MapAccess I} {new : MapAccessState} (result : Result (Unit {0}) Error) → Tries l faults s n name old mid (Ok false) → PassesMember (map_state_of mid) new result → TakesMember held_step (l, s) (l, n) name (map_state_of old) new result
  passes_all {mid = mid} {new = new} result passes is =
      let over : TakesMember held_step (l, s) (l, s) name (map_state_of mid) new result = takes_through (λ (x : Unit {0}) u t. Some x) held_step (λ x. (l, s)) tt [] name (λ t. held_passes l s name t passes.other) is in
      let there : TakesMember held_step (l, s) (l, s) name (map_state_of old) new result = subst (λ m. TakesMember held_step (l, s) (l, s) name (map_state_of m) new result) passes.access over in
      subst (λ x. TakesMember held_step (l, s) (l, x) name (map_state_of old) new result) (sym passes.fields) there

  pub passed_refused : {mid : MapAccess I} (result : Result (Unit {0}) Error) → Tries l faults s n name old mid (Ok false) → RefusesHere (λ s own after. RefusesTree s own) (map_state_of mid) result → RefusesMember (or_of faults of_any) held_step (l, s) name (map_state_of old) result
  passed_refused {mid = mid} result passes is = subst (λ m. RefusesMember (or_of faults of_any) held_step (l, s) name (map_state_of m) result) passes.access (by result is)
    where
      by : (result : Result (Unit {0}) Error) → RefusesHere (λ s own after. RefusesTree s own) (map_state_of mid) result → RefusesMember (or_of faults of_any) held_step (l, s) name (map_state_of mid) result
      by (Ok done) is = tt
      by (Err e) is = λ live. inr (record { every = λ t. ap is_some (held_passes l s name t passes.other); fault = is live })

  pub passed_free : (test : Tree → Bool) {mid : MapAccess I} (result : Result (Unit {0}) Error) → Tries l faults s n name old mid (Ok false) → ReadsValueFree every_value every_tree (map_state_of mid) result → TakesFree test held_step (l, s) name (map_state_of old) result
  passed_free test result passes free u escape_free t ps r m takes left spare = free u escape_free t ps r tt (subst (λ (k : MapAccess I). MembersLeft (member u escape_free t ps) r (map_state_of k)) (sym passes.access) left) refl refl

-- ---- no other fields

pub only_free_here : {S D : Type 0} (l : Layout S D) (spares : Spares) (s : S) (name : List ℕ) (old : MapAccessState) → has_name l.names name ≡ true → NotFree spares.values l.step s name old → NotFree spares.values only_step (l, s) name old
only_free_here l spares s name old named free = free_through l.step only_step (hold l) s name name (λ t. only_takes l s name t named) spares.values spares.values old (λ t spare. spare) free

module _ {I S D : Type 0} (l : Layout S D) (faults : ValueFaults) {s n : S} {name : List ℕ} {old : MapAccess I} where
  pub only_take : {new : MapAccess I} {result : Result (Unit {0}) Error} → TakesHere l faults s n name old new result → TakesMember only_step (l, s) (l, n) name (map_state_of old) (map_state_of new) result
  only_take is = takes_through l.step only_step (hold l) s name name (λ t. only_takes l s name t is.named) is.takes

  pub only_refuse : {new : MapAccess I} {result : Result (Unit {0}) Error} → TakesHere l faults s n name old new result → RefusesMember (or_of faults of_unknown) only_step (l, s) name (map_state_of old) result
  only_refuse {result = result} is = refused_through l.step only_step (hold l) s name name (λ t. only_takes l s name t is.named) faults (or_of faults of_unknown) (map_state_of old) result (λ may e fault. inl fault) is.refused

-- a name of none of the fields is refused
module _ {I S D : Type 0} (l : Layout S D) (faults : ValueFaults) (s n : S) (name : List ℕ) (old mid : MapAccess I) (passes : Tries l faults s n name old mid (Ok false)) (e : Error) where
  pub unknown_taken : (new : MapAccess I) → (map_state_of new).at.reader.failed ≡ true → ((map_state_of mid).at.reader.failed ≡ false → IsUnprompted e) → TakesMember only_step (l, s) (l, n) name (map_state_of old) (map_state_of new) (Err e)
  unknown_taken new failed unprompted = record {
    read = tt;
    left = λ u escape_free t ps r k is left. let none = only_none l s name t passes.other in absurd (cc (none, is));
    live = tt;
    shorter = tt;
    failed = failed;
    unprompted = subst (λ (m : MapAccess I). (map_state_of m).at.reader.failed ≡ false → IsUnprompted e) passes.access unprompted;
  }

  pub unknown_refused : KeyIsNamed name old → ((map_state_of mid).at.reader.failed ≡ false → IsOwnAtBracket (at_its_key mid) e) → RefusesMember (or_of faults of_unknown) only_step (l, s) name (map_state_of old) (Err e)
  unknown_refused named own = λ live. inr (record {
    none = λ t. ap is_some (only_none l s name t passes.other);
    fault = record { start = old.key_start; begins = named; fault = subst (λ (m : MapAccess I). (map_state_of m).at.reader.failed ≡ false → IsOwnAtBracket (at_its_key m) e) passes.access own live };
  })

  pub unknown_free : (test : Tree → Bool) → TakesFree {V = Unit {0}} test only_step (l, s) name (map_state_of old) (Err e)
  unknown_free test u escape_free t ps r k is left spare = let none = only_none l s name t passes.other in absurd (cc (none, is))

-- ---- what was read is made into the values

both_built : {A B : Type 0} (x : Option A) (y : Option B) (d : A × B) → joint x y ≡ Some d → (x ≡ Some d.0) × (y ≡ Some d.1)
both_built None y d is = absurd (cc)
both_built (Some p) None d is = absurd (cc)
both_built (Some p) (Some q) d is = let same = same_Some (p, q) d is in (ap (λ z. Some z.0) same, ap (λ z. Some z.1) same)

module _ {S T A B : Type 0} (a : Layout S A) (b : Layout T B) (sa sb : Spares) (s : S) (t : T) (old : MapAccessState) where
  pub first_unmade : NotMade sa.defaults a s old → NotMade (spares_both sa sb).defaults (and_layout a b) (s, t) old
  first_unmade free d spare live built = free d.0 (and_parts sa.defaults sb.defaults spare).0 live (both_built (a.build s) (b.build t) d built).0

  pub others_unmade : (mid : MapAccessState) → mid ≡ old → NotMade sb.defaults b t mid → NotMade (spares_both sa sb).defaults (and_layout a b) (s, t) old
  others_unmade mid same free d spare live built = free d.1 (and_parts sa.defaults sb.defaults spare).1 (ap (λ (m : MapAccessState). m.at.reader.failed) same ∙ live) (both_built (a.build s) (b.build t) d built).1

pub required_made : {V C : Type 0} (content : V → C) (f : Tree → Option C) (field : List ℕ) (old new : MapAccessState) {o : Option V} (result : Result V Error) → FieldRequired old new o result → FinishesFree true (required_field field f) (if_some content o) old result
required_made content f field old new (Ok v) is = λ d spare live built. refl
required_made content f field old new {o = None} (Err e) is = λ d spare live built. absurd (cc built)
required_made content f field old new {o = Some v} (Err e) is = λ d spare live built. absurd (cc (is.missing live).0)
