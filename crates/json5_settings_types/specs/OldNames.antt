-- Fields that have an old name.
-- A promise rests on this.
use Rattle.std.proofs.Common.{◌≡◌, ◌∙◌, ap, refl, sym}
use Rattle.std.specs.Prelude.{ℕ, Bool, true, false, if◌then◌else◌, List, [], ◌∷◌, Option, Some, None}
use Rattle.std.specs.Str.{encode_utf8_all}
use Rattle.json5_grammar.specs.Language.Trees.{Tree, Trees, Members, no_more, more, no_member, member}
use Rattle.json5_de.specs.ConvertLists.{if_some}
use Rattle.json5_de.specs.Fields.{at_most_one, or_value}
use Rattle.json5_de.specs.Plans.{Step, made, put, run}
use Rattle.json5_de.specs.Refinement.{if_more}
use Rattle.json5_fields.specs.Layouts.{Layout, has_name}

-- the values of the members that have one of these names, in their order
abbrev pub values_of : List (List ℕ) → Members → Trees
values_of names no_member = no_more
values_of names (member u escape_free t ps) = if has_name names (encode_utf8_all u) then more t (values_of names ps) else values_of names ps

module _ {C : Type 0} (names : List (List ℕ)) (f : Tree → Option C) where
  -- a member that has one of the names fills the field, which had no value
  unfoldable pub at_names : Step (Option C)
  at_names o u t = if has_name names u then put f o t else Some o

  pub others_pass : (s : Option C) (u : List ℕ) (t : Tree) → has_name names u ≡ false → at_names s u t ≡ Some s
  unfolding at_names
  others_pass s u t not = rw not refl

  abbrev none_more : C → Trees → Option (Option C)
  none_more c no_more = Some (Some c)
  none_more c (more t ts) = None

  filled : (c : C) (ps : Members) → run at_names (Some c) ps ≡ none_more c (values_of names ps)
  unfolding at_names
  filled c no_member = refl
  filled c (member u escape_free t ps) = by (has_name names (encode_utf8_all u)) (filled c ps)
    where
      by : (b : Bool) → run at_names (Some c) ps ≡ none_more c (values_of names ps)
          → if_more (λ n. run at_names n ps) (if b then None else Some (Some c)) ≡ none_more c (if b then more t (values_of names ps) else values_of names ps)
      by true rest = refl
      by false rest = rest

  first : (t : Tree) (ts : Trees) (g : Option C → Option (Option C)) → ((c : C) → g (Some c) ≡ none_more c ts) → at_most_one f (more t ts) ≡ if_more g (if_some Some (f t))
  first t no_more g is = by (f t)
    where
      by : (o : Option C) → if_some Some o ≡ if_more g (if_some Some o)
      by None = refl
      by (Some c) = sym (is c)
  first t (more v vs) g is = by (f t)
    where
      by : (o : Option C) → None ≡ if_more g (if_some Some o)
      by None = refl
      by (Some c) = sym (is c)

  -- at most one of all members fills it
  pub at_most_one_of : (ps : Members) → at_most_one f (values_of names ps) ≡ run at_names None ps
  unfolding at_names
  at_most_one_of no_member = refl
  at_most_one_of (member u escape_free t ps) = by (has_name names (encode_utf8_all u)) (at_most_one_of ps)
    where
      by : (b : Bool) → at_most_one f (values_of names ps) ≡ run at_names None ps
          → at_most_one f (if b then more t (values_of names ps) else values_of names ps) ≡ if_more (λ n. run at_names n ps) (if b then if_some Some (f t) else Some None)
      by true rest = first t (values_of names ps) (λ n. run at_names n ps) (λ c. filled c ps)
      by false rest = rest

-- a field with these names: what it makes, and what all members make of it
abbrev pub named_field : {C D : Type 0} (names : List (List ℕ)) (f : Tree → Option C) (build : Option C → Option D) (convert : Members → Option D) → ((ps : Members) → convert ps ≡ if_more build (run (at_names names f) None ps)) → Layout (Option C) D
named_field names f build convert says = record { names = names; step = at_names names f; start = None; build = build; convert = convert; passes = others_pass names f; says = λ differ ps. says ps }

-- a field that has to be there, by its name or its old one
abbrev pub required_by_either : {C : Type 0} → List ℕ → List ℕ → (Tree → Option C) → Layout (Option C) C
required_by_either name old f =
    let names = name ∷ old ∷ [] in
    named_field names f (λ o. o) (λ ps. if_more (λ o. o) (at_most_one f (values_of names ps))) (λ ps. ap (if_more (λ o. o)) (at_most_one_of names f ps))

-- one whose content is c if it is missing
abbrev pub by_either_or : {C : Type 0} → C → List ℕ → List ℕ → (Tree → Option C) → Layout (Option C) C
by_either_or c name old f =
    let names = name ∷ old ∷ [] in
    named_field names f (λ o. Some (or_value c o)) (λ ps. if_some (or_value c) (at_most_one f (values_of names ps))) (λ ps. ap (if_some (or_value c)) (at_most_one_of names f ps) ∙ made (or_value c) (run (at_names names f) None ps))
