-- A struct that is written by a description of its fields, and read by one, reads back.
use Rattle.std.proofs.Common.{◌≡◌, ℕ, Bool, true, false, List, ◌++◌, refl, sym, ap, ◌∙◌, Option, Some, None}
use Rattle.std.specs.Prelude.{⊤}
use Rattle.std.specs.Char.{is_ascii}
use Rattle.std.specs.List.{list_all}
use Rattle.std.specs.Str.{bytes_eq, chars, encode_utf8_all}
use Rattle.std.proofs.lemmas.Slice.Eq.{bytes_eq-Decides}
use Rattle.json5_grammar.specs.Language.Trees.{Tree, Members, no_member, member}
use Rattle.json5_grammar.specs.Model.Collections.{object_of, joined_members}
use Rattle.json5_de.specs.ConvertLists.{if_some}
use Rattle.json5_de.specs.Refinement.{if_more}
use Rattle.json5_de.specs.Fields.{required, optional, with_default}
use Rattle.json5_de.specs.Plans.{Step, run, at_name, plan_required, plan_optional, plan_with_default}
use Rattle.json5_fields.specs.Layouts.{Layout, has_name, all_differ, one_field, required_field, optional_field, field_or, and_layout, first_or, to_first, to_others, named_first, named_second, differ_first, differ_second, apart}
use Rattle.json5_fields.specs.WrittenFields.{field_named, field_given}
use Rattle.json5_ser.specs.WrittenTrees.{Written, Fields, no_field, object}
use Rattle.json5_ser.specs.EscapeFreeMarks.{marks, field_marks, is_escape_free_key}
use Rattle.json5.specs.ReadsBack.{ReadsBack}
use Rattle.json5.proofs.NamesBack.{name_back}

then_none : (ps : Members) → joined_members ps no_member ≡ ps
then_none no_member = refl
then_none (member u escape_free t ps) = ap (member u escape_free t) (then_none ps)

in_turn : (ps qs rs : Members) → joined_members (joined_members ps qs) rs ≡ joined_members ps (joined_members qs rs)
in_turn no_member qs rs = refl
in_turn (member u escape_free t ps) qs rs = ap (member u escape_free t) (in_turn ps qs rs)

-- each has one of the names
abbrev AreNamed : List (List ℕ) → Members → Type 0
AreNamed names no_member = ⊤
AreNamed names (member u escape_free t ps) = (has_name names (encode_utf8_all u) ≡ true) × AreNamed names ps

both_named : (ns ms : List (List ℕ)) (ps qs : Members) → AreNamed ns ps → AreNamed ms qs → AreNamed (ns ++ ms) (joined_members ps qs)
both_named ns ms no_member no_member a b = tt
both_named ns ms no_member (member u escape_free t qs) a b = (named_second ns ms (encode_utf8_all u) b.0, both_named ns ms no_member qs tt b.1)
both_named ns ms (member u escape_free t ps) qs a b = (named_first ns ms (encode_utf8_all u) a.0, both_named ns ms ps qs a.1 b)

-- what is written as fields before others is read as c
pub record WrittenAs {S D : Type 0} (l : Layout S D) (write : Fields → Fields) (c : D) : Type 0 where
  pub pairs : Members
  pub last : S
  pub marked : (fs : Fields) → field_marks (write fs) ≡ joined_members pairs (field_marks fs)
  pub named : AreNamed l.names pairs
  pub reads : all_differ l.names ≡ true → run l.step l.start pairs ≡ Some last
  pub builds : l.build last ≡ Some c

-- ---- one field

module _ {C D : Type 0} (name : List ℕ) (f : Tree → Option C) (build : Option C → Option D) (convert : Members → Option D) (says : (ps : Members) → convert ps ≡ if_more build (run (at_name f name) None ps)) where
  one_back : list_all is_ascii name ≡ true → (t : Written) (c : C) (d : D) → f (marks t) ≡ Some c → build (Some c) ≡ Some d → WrittenAs (one_field name f build convert says) (field_named name t) d
  unfolding at_name
  one_back ascii t c d is builds =
      let same : encode_utf8_all (chars name) ≡ name = name_back name ascii in
      let equal : bytes_eq name name ≡ true = (bytes_eq-Decides name name).1 refl in
      record {
        pairs = member (chars name) (is_escape_free_key (chars name)) (marks t) no_member;
        last = Some c;
        marked = λ fs. refl;
        named = (rw (same, equal) refl, tt);
        reads = λ differ. rw (same, equal, is) refl;
        builds = builds;
      }

  none_back : (d : D) → build None ≡ Some d → WrittenAs (one_field name f build convert says) (λ fs. fs) d
  none_back d builds = record { pairs = no_member; last = None; marked = λ fs. refl; named = tt; reads = λ differ. refl; builds = builds }

-- a field that has to be there, by its name, what its tree converts to, and the tree that is written; for a name in ASCII the next is `refl`, and
-- then comes the proof that the value reads back
pub required_back : {C : Type 0} (name : List ℕ) (f : Tree → Option C) (t : Written) {c : C} → list_all is_ascii name ≡ true → f (marks t) ≡ Some c → WrittenAs (required_field name f) (field_named name t) c
required_back name f t {c} ascii back = one_back name f (plan_required name f).build (required name f) (plan_required name f).says ascii t c c back refl

-- a field that has a default
pub default_back : {C : Type 0} (name : List ℕ) (d : C) (f : Tree → Option C) (t : Written) {c : C} → list_all is_ascii name ≡ true → f (marks t) ≡ Some c → WrittenAs (field_or d name f) (field_named name t) c
default_back name d f t {c} ascii back = one_back name f (plan_with_default d name f).build (with_default d name f) (plan_with_default d name f).says ascii t c c back refl

-- a field that is left out where there is no value
pub given_back : {V C : Type 0} (name : List ℕ) (f : Tree → Option C) (tree : V → Written) (content : V → C) (o : Option V) → list_all is_ascii name ≡ true → ((v : V) → o ≡ Some v → ReadsBack tree f content v) → WrittenAs (optional_field name f) (field_given tree name o) (if_some content o)
given_back name f tree content None ascii back = none_back name f (plan_optional name f).build (optional name f) (plan_optional name f).says None refl
given_back name f tree content (Some v) ascii back = one_back name f (plan_optional name f).build (optional name f) (plan_optional name f).says ascii (tree v) (content v) (Some (content v)) (back v refl) refl

-- ---- a field, and others

then_run : {S : Type 0} (step : Step S) (s : S) (ps qs : Members) → run step s (joined_members ps qs) ≡ if_more (λ n. run step n qs) (run step s ps)
then_run step s no_member qs = refl
then_run {S} step s (member u escape_free t ps) qs = by (step s (encode_utf8_all u) t) (λ n. then_run step n ps qs)
  where
    by : (o : Option S) → ((n : S) → run step n (joined_members ps qs) ≡ if_more (λ m. run step m qs) (run step n ps)) → if_more (λ n. run step n (joined_members ps qs)) o ≡ if_more (λ m. run step m qs) (if_more (λ n. run step n ps) o)
    by None rest = refl
    by (Some n) rest = rest n

module _ {S T A B : Type 0} (a : Layout S A) (b : Layout T B) where
  run_first : (s : S) (t : T) (ps : Members) → AreNamed a.names ps → run (first_or a.names a.step b.step) (s, t) ps ≡ if_some (λ n. (n, t)) (run a.step s ps)
  run_first s t no_member named = refl
  run_first s t (member u escape_free v ps) named = ap (if_more (λ n. run (first_or a.names a.step b.step) n ps)) (to_first a b (s, t) (encode_utf8_all u) v named.0) ∙ by (a.step s (encode_utf8_all u) v) (λ n. run_first n t ps named.1)
    where
      by : (o : Option S) → ((n : S) → run (first_or a.names a.step b.step) (n, t) ps ≡ if_some (λ m. (m, t)) (run a.step n ps)) → if_more (λ n. run (first_or a.names a.step b.step) n ps) (if_some (λ n. (n, t)) o) ≡ if_some (λ m. (m, t)) (if_more (λ n. run a.step n ps) o)
      by None rest = refl
      by (Some n) rest = rest n

  not_first : all_differ (a.names ++ b.names) ≡ true → (u : List ℕ) → has_name b.names u ≡ true → has_name a.names u ≡ false
  not_first differ u named = by (has_name a.names u) refl
    where
      by : (x : Bool) → has_name a.names u ≡ x → x ≡ false
      by false is = refl
      by true is = let none : has_name b.names u ≡ false = apart a.names b.names u differ is in absurd (cc)

  run_others : all_differ (a.names ++ b.names) ≡ true → (s : S) (t : T) (qs : Members) → AreNamed b.names qs → run (first_or a.names a.step b.step) (s, t) qs ≡ if_some (λ n. (s, n)) (run b.step t qs)
  run_others differ s t no_member named = refl
  run_others differ s t (member u escape_free v qs) named = ap (if_more (λ n. run (first_or a.names a.step b.step) n qs)) (to_others a b (s, t) (encode_utf8_all u) v (not_first differ (encode_utf8_all u) named.0)) ∙ by (b.step t (encode_utf8_all u) v) (λ n. run_others differ s n qs named.1)
    where
      by : (o : Option T) → ((n : T) → run (first_or a.names a.step b.step) (s, n) qs ≡ if_some (λ m. (s, m)) (run b.step n qs)) → if_more (λ n. run (first_or a.names a.step b.step) n qs) (if_some (λ n. (s, n)) o) ≡ if_some (λ m. (s, m)) (if_more (λ n. run b.step n qs) o)
      by None rest = refl
      by (Some n) rest = rest n

-- fields, and then others
pub and_back : {S T A B : Type 0} {a : Layout S A} {b : Layout T B} {write others : Fields → Fields} {c : A} {d : B} → WrittenAs a write c → WrittenAs b others d → WrittenAs (and_layout a b) (λ fs. write (others fs)) (c, d)
and_back {a = a} {b = b} {others = others} x y = record {
  pairs = joined_members x.pairs y.pairs;
  last = (x.last, y.last);
  marked = λ fs. x.marked (others fs) ∙ ap (joined_members x.pairs) (y.marked fs) ∙ sym (in_turn x.pairs y.pairs (field_marks fs));
  named = both_named a.names b.names x.pairs y.pairs x.named y.named;
  reads = λ differ. then_run (first_or a.names a.step b.step) (a.start, b.start) x.pairs y.pairs
      ∙ ap (if_more (λ n. run (first_or a.names a.step b.step) n y.pairs)) (run_first a b a.start b.start x.pairs x.named ∙ ap (if_some (λ n. (n, b.start))) (x.reads (differ_first a.names b.names differ)))
      ∙ run_others a b differ x.last b.start y.pairs y.named ∙ ap (if_some (λ n. (x.last, n))) (y.reads (differ_second a.names b.names differ));
  builds = rw (x.builds, y.builds) refl;
}

-- the struct; the first argument is `refl` for literal names that differ
pub struct_back : {S D : Type 0} {l : Layout S D} {write : Fields → Fields} {c : D} → all_differ l.names ≡ true → WrittenAs l write c → object_of l.convert (marks (object (write no_field))) ≡ Some c
struct_back {l = l} differ x = ap l.convert (x.marked no_field ∙ then_none x.pairs) ∙ l.says differ x.pairs ∙ ap (if_more l.build) (x.reads differ) ∙ x.builds
