-- Members that go to a field, or to the others.
use Rattle.std.proofs.Common.{◌≡◌, ◌∙◌, ◌⊎◌, ℕ, Bool, true, false, List, [], Option, Some, None, Ok, Err, ap, inl, inr, refl, subst, sym}
use Rattle.std.proofs.Math.Path.{fun_ext}
use Rattle.std.specs.Prelude.{Result, if◌then◌else◌, is_some}
use Rattle.std.specs.Str.{encode_utf8_all}
use Rattle.json5_grammar.specs.Language.Trees.{Tree, Members, no_member, member}
use Rattle.json5_grammar.specs.Model.Collections.{joint}
use Rattle.json5_types.specs.declared.error.Error.{Error}
use Rattle.json5_tokens.specs.Cursor.{IsOutOfMemory}
use Rattle.json5_de.specs.ConvertLists.{if_some}
use Rattle.json5_de.specs.Lending.{map_state_of}
use Rattle.json5_de.specs.Objects.{MapAccessState}
use Rattle.json5_de.specs.Plans.{Plan, Step, TakesMember, run}
use Rattle.json5_de.specs.Refinement.{if_more}
use Rattle.json5_de.specs.StructFaults.{RefusesMember, ValueFaults, may_stand, or_of}
use Rattle.json5_de.specs.declared.map.MapAccess.{MapAccess}
use Rattle.json5_fields.specs.FieldCalls.{PassesHere, TakesHere}
use Rattle.json5_fields.specs.Layouts.{Held, Layout, all_differ, has_name, held_takes, hold}
use Rattle.json5_fields.proofs.Described.{takes_through}
use Rattle.json5_settings_types.specs.Keys.{key_step}
use Rattle.json5_settings_types.specs.Rest.{Kept, others_of, rest_build, rest_step, with_rest}
use Rattle.json5_settings_types.proofs.KeysOnce.{some_made, taken}

joint_none : {A B : Type 0} (o : Option A) → joint {V = B} o None ≡ None
joint_none None = refl
joint_none (Some a) = refl

both_made : {A B C : Type 0} (f : A → B) (g : B → C) (o : Option A) → if_some g (if_some f o) ≡ if_some (λ a. g (f a)) o
both_made f g None = refl
both_made f g (Some a) = refl

-- a refusal by a step that another one makes
pub refused_so : {S U : Type 0} (a : Step S) (b : Step U) (g : S → U) (s : S) (name : List ℕ) → ((t : Tree) → b (g s) name t ≡ if_some g (a s name t)) → (fa fb : ValueFaults) (old : MapAccessState) (result : Result (Unit {0}) Error) → ((may : Tree → Bool) (e : Error) → fa name may old e → fb name may old e)
    → RefusesMember fa a s name old result → RefusesMember fb b (g s) name old result
refused_so a b g s name same fa fb old (Ok done) one is = tt
refused_so a b g s name same fa fb old (Err e) one is = λ live. one (may_stand b (g s) name) e (subst (λ may. fa name may old e) (sym (fun_ext (λ t. ap is_some (same t) ∙ some_made g (a s name t)))) (is live))

module _ {S D C : Type 0} (l : Layout S D) (values : Tree → Option C) where
  pub to_field : (s : S) (qs : Kept C) (u : List ℕ) (t : Tree) → has_name l.names u ≡ true → rest_step values ((l, s), qs) u t ≡ if_some (λ x. ((l, x), qs)) (l.step s u t)
  unfolding rest_step
  to_field s qs u t named = rw named (ap (if_some (λ h. (h, qs))) (held_takes l s u t) ∙ both_made (hold l) (λ h. (h, qs)) (l.step s u t))

  pub to_others : (s : S) (qs : Kept C) (u : List ℕ) (t : Tree) → has_name l.names u ≡ false → rest_step values ((l, s), qs) u t ≡ if_some (λ q. ((l, s), q)) (key_step values qs u t)
  unfolding rest_step
  to_others s qs u t other = rw other refl

  -- all members
  rest_run : (s : S) (qs : Kept C) (ps : Members) → run (rest_step values) ((l, s), qs) ps ≡ joint (if_some (hold l) (run l.step s ps)) (run (key_step values) qs (others_of l.names ps))
  rest_run s qs no_member = refl
  rest_run s qs (member u escape_free t ps) = by (has_name l.names (encode_utf8_all u)) refl (λ n ms. rest_run n ms ps)
    where
      name : List ℕ
      name = encode_utf8_all u

      Later : Type 0
      Later = (n : S) (ms : Kept C) → run (rest_step values) ((l, n), ms) ps ≡ joint (if_some (hold l) (run l.step n ps)) (run (key_step values) ms (others_of l.names ps))

      first : (o : Option S) → Later → if_more (λ n. run (rest_step values) n ps) (if_some (λ x. ((l, x), qs)) o) ≡ joint (if_some (hold l) (if_more (λ n. run l.step n ps) o)) (run (key_step values) qs (others_of l.names ps))
      first None later = refl
      first (Some n) later = later n qs

      other : (o : Option (Kept C)) → Later → if_more (λ n. run (rest_step values) n ps) (if_some (λ q. ((l, s), q)) o) ≡ joint (if_some (hold l) (run l.step s ps)) (if_more (λ ms. run (key_step values) ms (others_of l.names ps)) o)
      other None later = sym (joint_none (if_some (hold l) (run l.step s ps)))
      other (Some ms) later = later s ms

      by : (b : Bool) → has_name l.names name ≡ b → Later
          → if_more (λ n. run (rest_step values) n ps) (rest_step values ((l, s), qs) name t)
          ≡ joint (if_some (hold l) (if_more (λ n. run l.step n ps) (l.step s name t))) (run (key_step values) qs (if b then others_of l.names ps else member u escape_free t (others_of l.names ps)))
      by true named later = ap (if_more (λ n. run (rest_step values) n ps)) (to_field s qs name t named) ∙ first (l.step s name t) later
      by false not later =
          ap (if_more (λ n. run (rest_step values) n ps)) (to_others s qs name t not) ∙ other (key_step values qs name t) later
          ∙ ap (λ o. joint (if_some (hold l) (if_more (λ n. run l.step n ps) o)) (if_more (λ ms. run (key_step values) ms (others_of l.names ps)) (key_step values qs name t))) (sym (l.passes s name t not))

  built : (a : Option S) (b : Option (Kept C)) → joint (if_more l.build a) b ≡ if_more rest_build (joint (if_some (hold l) a) b)
  built None b = refl
  built (Some s) None = joint_none (l.build s)
  built (Some s) (Some qs) = refl

  pub rest_says : all_differ l.names ≡ true → (ps : Members) → with_rest l values ps ≡ if_more rest_build (run (rest_step values) ((l, l.start), []) ps)
  rest_says differ ps =
      rw (l.says differ ps, taken values [] (others_of l.names ps) refl) (built (run l.step l.start ps) (run (key_step values) [] (others_of l.names ps)))
      ∙ sym (ap (if_more rest_build) (rest_run l.start [] ps))

  -- the plan, if no two names are equal
  abbrev pub whole_rest : all_differ l.names ≡ true → Plan (Held S D × Kept C) (D × Kept C)
  whole_rest differ = record { step = rest_step values; start = ((l, l.start), []); build = rest_build; convert = with_rest l values; says = rest_says differ }

  module _ {I : Type 0} (faults others : ValueFaults) (s n : S) (qs : Kept C) (name : List ℕ) (old : MapAccess I) where
    -- the value of a field was read, or refused
    pub field_takes : (new : MapAccess I) (result : Result (Unit {0}) Error) → TakesHere l faults s n name old new result → TakesMember (rest_step values) ((l, s), qs) ((l, n), qs) name (map_state_of old) (map_state_of new) result
    field_takes new result is = takes_through l.step (rest_step values) (λ x. ((l, x), qs)) s name name (λ t. to_field s qs name t is.named) is.takes

    pub field_refused : (new : MapAccess I) (result : Result (Unit {0}) Error) → TakesHere l faults s n name old new result → RefusesMember (or_of faults others) (rest_step values) ((l, s), qs) name (map_state_of old) result
    field_refused new result is = refused_so l.step (rest_step values) (λ x. ((l, x), qs)) s name (λ t. to_field s qs name t is.named) faults (or_of faults others) (map_state_of old) result (λ may e fault. inl fault) is.refused

    -- that of another member
    pub other_takes : (mid : MapAccess I) (new : MapAccessState) (ms : Kept C) (result : Result (Unit {0}) Error) → PassesHere l s n name old mid → TakesMember (key_step values) qs ms name (map_state_of mid) new result
        → TakesMember (rest_step values) ((l, s), qs) ((l, n), ms) name (map_state_of old) new result
    other_takes mid new ms result passes is =
        let through = takes_through (key_step values) (rest_step values) (λ q. ((l, s), q)) qs name name (λ t. to_others s qs name t passes.other) is in
        subst (λ x. TakesMember (rest_step values) ((l, s), qs) ((l, x), ms) name (map_state_of old) new result) (sym passes.fields)
        (subst (λ m. TakesMember (rest_step values) ((l, s), qs) ((l, s), ms) name (map_state_of m) new result) passes.access through)

    pub other_refused : (mid : MapAccess I) (result : Result (Unit {0}) Error) → PassesHere l s n name old mid → RefusesMember others (key_step values) qs name (map_state_of mid) result → RefusesMember (or_of faults others) (rest_step values) ((l, s), qs) name (map_state_of old) result
    other_refused mid result passes is =
        subst (λ m. RefusesMember (or_of faults others) (rest_step values) ((l, s), qs) name (map_state_of m) result) passes.access
        (refused_so (key_step values) (rest_step values) (λ q. ((l, s), q)) qs name (λ t. to_others s qs name t passes.other) others (or_of faults others) (map_state_of mid) result (λ may e fault. inr fault) is)

-- a field is missing, or memory ran out for its default
pub unfinished : {S D C : Type 0} (l : Layout S D) (s : S) (qs : Kept C) (e : Error) → (l.build s ≡ None) ⊎ IsOutOfMemory e → (rest_build ((l, s), qs) ≡ None) ⊎ IsOutOfMemory e
unfinished l s qs e (inl none) = inl (rw none refl)
unfinished l s qs e (inr memory) = inr memory
