-- A field that has several names.
use Rattle.std.proofs.Common.{◌≡◌, ◌∙◌, ℕ, Bool, true, false, List, Option, Some, None, Ok, Err, ap, refl, subst, sym}
use Rattle.std.proofs.Math.Path.{fun_ext}
use Rattle.std.proofs.lemmas.Slice.Eq.{bytes_eq-Decides}
use Rattle.std.specs.Prelude.{Result, IfOk, is_some}
use Rattle.std.specs.Str.{bytes_eq}
use Rattle.json5_grammar.specs.Language.Trees.{Tree, Members}
use Rattle.json5_types.specs.declared.error.Error.{Error}
use Rattle.json5_de.specs.ConvertLists.{if_some}
use Rattle.json5_de.specs.Fields.{FieldRequired}
use Rattle.json5_de.specs.Lending.{map_state_of, KeepsMap}
use Rattle.json5_de.specs.Objects.{MapAccessState}
use Rattle.json5_de.specs.Plans.{TakesFree, at_name, run}
use Rattle.json5_de.specs.Refinement.{if_more}
use Rattle.json5_de.specs.State.{State}
use Rattle.json5_de.specs.StructFaults.{RefusesMember, ValueFaults, may_stand}
use Rattle.json5_de.specs.declared.map.MapAccess.{MapAccess}
use Rattle.json5_fields.specs.FieldCalls.{Finishes, TakesHere, TakesNamed, Tries, of_type}
use Rattle.json5_fields.specs.Layouts.{has_name, required_field}
use Rattle.json5_fields.proofs.Described.{required_finishes, takes_through}
use Rattle.json5_settings_types.specs.OldNames.{at_names, named_field, required_by_either}

the_same : {A : Type 0} (o : Option A) → o ≡ if_some (λ a. a) o
the_same None = refl
the_same (Some a) = refl

module _ {C : Type 0} (names : List (List ℕ)) (f : Tree → Option C) (s : Option C) (u : List ℕ) (named : has_name names u ≡ true) where
  -- a member that has one of the names is taken as if its name were the only one
  alike : (t : Tree) → at_names names f s u t ≡ at_name f u s u t
  unfolding at_names at_name
  alike t = let equal : bytes_eq u u ≡ true = (bytes_eq-Decides u u).1 refl in rw (named, equal) refl

  pub may_alike : may_stand (at_name f u) s u ≡ may_stand (at_names names f) s u
  may_alike = fun_ext (λ t. ap is_some (sym (alike t)))

  pub free_alike : (test : Tree → Bool) (old : MapAccessState) (e : Error) → TakesFree {V = Unit {0}} test (at_name f u) s u old (Err e) → TakesFree {V = Bool} test (at_names names f) s u old (Err e)
  free_alike test old e free = λ w escape_free t ps r m takes left spare. free w escape_free t ps r m (sym (alike t) ∙ takes) left spare

  pub refused_alike : (faults : ValueFaults) (old : MapAccessState) (result : Result (Unit {0}) Error) → RefusesMember faults (at_name f u) s u old result → RefusesMember faults (at_names names f) s u old result
  refused_alike faults old (Ok done) is = tt
  refused_alike faults old (Err e) is = λ live. subst (λ may. faults u may old e) may_alike (is live)

  pub same_step : (t : Tree) → at_names names f s u t ≡ if_some (λ a. a) (at_name f u s u t)
  same_step t = alike t ∙ the_same (at_name f u s u t)

module _ {C D : Type 0} (names : List (List ℕ)) (f : Tree → Option C) (build : Option C → Option D) (convert : Members → Option D) (says : (ps : Members) → convert ps ≡ if_more build (run (at_names names f) None ps)) where
  -- the value of one of its names was read, or refused
  pub takes_by_name : {I V : Type 0} (content : V → C) (refuses : State → Error → State → Type 0) (u : List ℕ) (old new : MapAccess I) (o n : Option V) (result : Result (Unit {0}) Error) → has_name names u ≡ true → TakesNamed content f refuses u old new o n result
      → TakesHere (named_field names f build convert says) (of_type f refuses) (if_some content o) (if_some content n) u old new result
  takes_by_name content refuses u old new o n result named is = record {
    named = named;
    takes = takes_through (at_name f u) (at_names names f) (λ a. a) (if_some content o) u u (same_step names f (if_some content o) u named) is.takes;
    refused = refused_alike names f (if_some content o) u named (of_type f refuses) (map_state_of old) result is.refused;
    access = is.access;
    pending = is.pending;
  }

-- a field that has to be there is returned, or it is missing
pub finishes_by_either : {I V C : Type 0} (content : V → C) (f : Tree → Option C) (name old_name : List ℕ) (old new : MapAccess I) (o : Option V) (result : Result V Error) → KeepsMap old new → IfOk result (λ v. o ≡ Some v) → FieldRequired (map_state_of old) (map_state_of new) o result
    → Finishes (required_by_either name old_name f) content (if_some content o) old new result
finishes_by_either content f name old_name old new o result keeps found is = by result (required_finishes content f name result keeps found is)
  where
    by : (result : Result _ Error) → Finishes (required_field name f) content (if_some content o) old new result → Finishes (required_by_either name old_name f) content (if_some content o) old new result
    by (Ok v) is = record { built = is.built; same = is.same; same_reference = is.same_reference }
    by (Err e) is = record { missing = is.missing; unprompted = is.unprompted; same_text = is.same_text; same_reference = is.same_reference }

module _ {C D F : Type 0} (names : List (List ℕ)) (f : Tree → Option C) (build : Option C → Option D) (convert : Members → Option D) (says : (ps : Members) → convert ps ≡ if_more build (run (at_names names f) None ps))
    (other : Option C → Option F) (made : Members → Option F) (says_other : (ps : Members) → made ps ≡ if_more other (run (at_names names f) None ps)) where
  takes_so : {I : Type 0} (faults : ValueFaults) (s n : Option C) (u : List ℕ) (old new : MapAccess I) (result : Result (Unit {0}) Error) → TakesHere (named_field names f build convert says) faults s n u old new result → TakesHere (named_field names f other made says_other) faults s n u old new result
  takes_so faults s n u old new result is = record { named = is.named; takes = is.takes; refused = is.refused; access = is.access; pending = is.pending }

  -- a field with the same names that makes something else is tried in the same way
  pub tries_by_names : {I : Type 0} (faults : ValueFaults) (s n : Option C) (u : List ℕ) (old new : MapAccess I) (result : Result Bool Error) → Tries (named_field names f build convert says) faults s n u old new result → Tries (named_field names f other made says_other) faults s n u old new result
  tries_by_names faults s n u old new (Ok true) is = takes_so faults s n u old new (Ok tt) is
  tries_by_names faults s n u old new (Ok false) is = record { other = is.other; fields = is.fields; access = is.access }
  tries_by_names faults s n u old new (Err e) is = takes_so faults s n u old new (Err e) is
