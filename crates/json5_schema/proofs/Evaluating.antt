-- What schemas evaluate, and what is left: steps that answers cite.
use Rattle.std.proofs.Common.{if◌then◌else◌, ◌≡◌, ◌∙◌, ◌<◌, ◌-◌, ◌+◌, drop, take, get_or, length, ℕ, suc, Bool, true, false, not, ◌&&◌, ◌||◌, List, ◌∷◌, Option, Some, None, Result, Ok, Err, MatchResult, ap, sym, refl, arith, String, string_bytes}
use Rattle.std.specs.declared.alloc.Global.{Global}
use lib.Chars.{codes}
use Rattle.std.specs.Str.{chars, IsUtf8, encode_utf8_all}
use Rattle.std.proofs.lemmas.Str.{encodes-chars}
use Rattle.json5_types.specs.declared.error.Error.{Error}
use Rattle.json5_types.specs.declared.value.Value.{Value}
use Rattle.json5_types.specs.ValueMeanings.{Datum, null, boolean, number, text, array, object, Fields, Items, value_of, items_view, fields_view}
use Rattle.json5_types.specs.ValueLookups.{fields_in}
use Rattle.json5_schema.specs.declared.asked.Child.{Child}
use Rattle.json5_schema.specs.declared.asked.Child.TheVariants as child
use Rattle.json5_schema.specs.declared.asked.Pair.{Pair}
use Rattle.json5_schema.specs.declared.keyword.Applicator.{Applicator}
use Rattle.json5_schema.specs.declared.keyword.Applicator.TheVariants as applicator
use Rattle.json5_schema.specs.declared.keyword.Keyword.{Keyword}
use Rattle.json5_schema.specs.Keywords.{keyword_named}
use Rattle.json5_schema.specs.Conformance.{Question, conforming, evaluating_index, Answers, answers, schema_evaluates, beside, choice, contains_on, count_conforming, each_item, elements_left_on, is_enough, is_few, is_in_place, members_left_on, part_evaluates, reaches, applies, applicator_evaluates, asked_evaluates, satisfied, evaluates, keyword_evaluates, keywords_evaluate, child_left_holds, elements_left_hold, left_holds, pair_evaluates, some_evaluate, unfolded}
use Rattle.json5_numbers.specs.Sameness.{is_named}
use Rattle.json5_schema.specs.Views.{IsRefusal, question_of, pair_view, pairs_asked, pairs_view}
use Rattle.std.proofs.lemmas.List.{drop_more}
use Rattle.json5_types.proofs.LookedUp.{from_here}
use Rattle.json5_schema.proofs.Conforming.{pair_from, rest_is}
use Rattle.json5_schema.proofs.Parts.{answered}

-- ---- a schema

of_child : (c : Child) (w : Answers) (root s x : Datum) → answers w root (question_of c) s x ≡ schema_evaluates w root s x (question_of c)
of_child (child.Name u) w root s x = refl
of_child (child.Index i) w root s x = refl

object_child : (s : Datum) (w : Answers) (root x : Datum) (fs : Fields) (q : Question) → fields_in s ≡ Some fs → schema_evaluates w root s x q ≡ schema_evaluates w root (object fs) x q
object_child (object gs) w root x fs q e = let k : gs ≡ fs = cc in ap (λ (hs : Fields). schema_evaluates w root (object hs) x q) k
object_child null w root x fs q e = absurd (cc)
object_child (boolean b) w root x fs q e = absurd (cc)
object_child (number m) w root x fs q e = absurd (cc)
object_child (text u) w root x fs q e = absurd (cc)
object_child (array ys) w root x fs q e = absurd (cc)

other_child : (s : Datum) (w : Answers) (root x : Datum) (q : Question) → fields_in s ≡ None → schema_evaluates w root s x q ≡ false
other_child (object gs) w root x q e = absurd (cc)
other_child null w root x q e = refl
other_child (boolean b) w root x q e = refl
other_child (number m) w root x q e = refl
other_child (text u) w root x q e = refl
other_child (array ys) w root x q e = refl

asked_child : (n : ℕ) (v : Answers) (root s x : Datum) (c : Child) → 0 < n → unfolded n v root (question_of c) s x ≡ schema_evaluates (unfolded (n - 1) v root) root s x (question_of c)
asked_child n v root s x c h = answered n v root s x (question_of c) h ∙ of_child c (unfolded (n - 1) v root) root s x

pub object_evaluated : (r : Result Bool Error) (n : ℕ) (root s x : Datum) (c : Child) (fs : Fields) → 0 < n → fields_in s ≡ Some fs
    → MatchResult r (λ b. (v : Answers) → schema_evaluates (unfolded (n - 1) v root) root (object fs) x (question_of c) ≡ b) IsRefusal
    → MatchResult r (λ b. (v : Answers) → unfolded n v root (question_of c) s x ≡ b) IsRefusal
object_evaluated (Ok b) n root s x c fs h e k = λ v. asked_child n v root s x c h ∙ object_child s (unfolded (n - 1) v root) root x fs (question_of c) e ∙ k v
object_evaluated (Err f) n root s x c fs h e k = k

pub other_evaluated : (n : ℕ) (v : Answers) (root s x : Datum) (c : Child) → 0 < n → fields_in s ≡ None → unfolded n v root (question_of c) s x ≡ false
other_evaluated n v root s x c h e = asked_child n v root s x c h ∙ other_child s (unfolded (n - 1) v root) root x (question_of c) e

-- ---- a keyword

named : (w : Answers) (root a x : Datum) (key bytes : List ℕ) (all rest : Fields) (k : Keyword) (q : Question) → is_named (chars key) rest ≡ false → IsUtf8 key → key ≡ bytes → k ≡ keyword_named key
    → keyword_evaluates w root all (chars bytes) a rest x q ≡ evaluates w root all k a x q
named w root a x key bytes all rest k q h u same is =
    let e : keyword_named (encode_utf8_all (chars key)) ≡ k = ap keyword_named (encodes-chars key u) ∙ sym is in
    ap (λ (t : List ℕ). keyword_evaluates w root all (chars t) a rest x q) (sym same)
    ∙ ap (λ (b : Bool). not b && evaluates w root all (keyword_named (encode_utf8_all (chars key))) a x q) h
    ∙ ap (λ (l : Keyword). evaluates w root all l a x q) e

pub named_evaluates : (r : Result Bool Error) (n : ℕ) (root a x : Datum) (key bytes : List ℕ) (all rest : Fields) (k : Keyword) (q : Question) → is_named (chars key) rest ≡ false → IsUtf8 key → key ≡ bytes → k ≡ keyword_named key
    → MatchResult r (λ b. (v : Answers) → evaluates (unfolded n v root) root all k a x q ≡ b) IsRefusal
    → MatchResult r (λ b. (v : Answers) → keyword_evaluates (unfolded n v root) root all (chars bytes) a rest x q ≡ b) IsRefusal
named_evaluates (Ok b) n root a x key bytes all rest k q h u same is found = λ v. named (unfolded n v root) root a x key bytes all rest k q h u same is ∙ found v
named_evaluates (Err f) n root a x key bytes all rest k q h u same is found = found

pub named_other : (n : ℕ) (v : Answers) (root a x : Datum) (key bytes : List ℕ) (all rest : Fields) (k : Keyword) (q : Question) → is_named (chars key) rest ≡ false → IsUtf8 key → key ≡ bytes → k ≡ keyword_named key
    → ((w : Answers) → evaluates w root all k a x q ≡ false) → keyword_evaluates (unfolded n v root) root all (chars bytes) a rest x q ≡ false
named_other n v root a x key bytes all rest k q h u same is none = named (unfolded n v root) root a x key bytes all rest k q h u same is ∙ none (unfolded n v root)

-- ---- what is the same settles the same

pub settles_as : (r : Result Bool Error) (n : ℕ) (root : Datum) (f g : Answers → Bool) → ((v : Answers) → f (unfolded n v root) ≡ g (unfolded n v root))
    → MatchResult r (λ b. (v : Answers) → g (unfolded n v root) ≡ b) IsRefusal → MatchResult r (λ b. (v : Answers) → f (unfolded n v root) ≡ b) IsRefusal
settles_as (Ok b) n root f g same k = λ v. same v ∙ k v
settles_as (Err e) n root f g same k = k

-- a keyword that asks for pairs
pub by_pairs : (k : Applicator) (root a x : Datum) (all : Fields) → (k ≡ applicator.If → ⊥) → (k ≡ applicator.Contains → ⊥) → (k ≡ applicator.PropertyNames → ⊥) → (k ≡ applicator.UnevaluatedProperties → ⊥) → (k ≡ applicator.UnevaluatedItems → ⊥)
    → applies root all k a x ≡ pairs_asked root all k a x
by_pairs applicator.If root a x all f g h i j = absurd (f refl)
by_pairs applicator.Contains root a x all f g h i j = absurd (g refl)
by_pairs applicator.PropertyNames root a x all f g h i j = absurd (h refl)
by_pairs applicator.UnevaluatedProperties root a x all f g h i j = absurd (i refl)
by_pairs applicator.UnevaluatedItems root a x all f g h i j = absurd (j refl)
by_pairs _ root a x all f g h i j = refl

pub evaluates_by_pairs : (k : Applicator) (w : Answers) (root a x : Datum) (all : Fields) (q : Question) → (k ≡ applicator.If → ⊥) → (k ≡ applicator.Contains → ⊥)
    → applicator_evaluates w root all k a x q ≡ (if is_in_place k then asked_evaluates w q (pairs_asked root all k a x) else reaches all k a q)
evaluates_by_pairs applicator.If w root a x all q f g = absurd (f refl)
evaluates_by_pairs applicator.Contains w root a x all q f g = absurd (g refl)
evaluates_by_pairs _ w root a x all q f g = refl

-- a choice: the value conforms to the schema of `if` or not
pub chosen_other : (r : Result Bool Error) (n : ℕ) (root s x : Datum) (found t e : Option Datum) (q : Question) (holds : Bool) → found ≡ e → holds ≡ false → ((v : Answers) → unfolded n v root conforming s x ≡ holds)
    → MatchResult r (λ b. (v : Answers) → part_evaluates (unfolded n v root) q found x ≡ b) IsRefusal → MatchResult r (λ b. (v : Answers) → asked_evaluates (unfolded n v root) q (choice s t e x) ≡ b) IsRefusal
chosen_other (Ok b) n root s x found t e q holds is h k part = λ v.
    ap (λ (c : Bool). if c then unfolded n v root q s x || part_evaluates (unfolded n v root) q t x else part_evaluates (unfolded n v root) q e x) (k v ∙ h) ∙ (ap (λ (o : Option Datum). part_evaluates (unfolded n v root) q o x) (sym is) ∙ part v)
chosen_other (Err f) n root s x found t e q holds is h k part = part

pub chosen_first : (r : Result Bool Error) (n : ℕ) (root s x : Datum) (found t e : Option Datum) (q : Question) (holds here : Bool) → found ≡ t → holds ≡ true → here ≡ false
    → ((v : Answers) → unfolded n v root conforming s x ≡ holds) → ((v : Answers) → unfolded n v root q s x ≡ here)
    → MatchResult r (λ b. (v : Answers) → part_evaluates (unfolded n v root) q found x ≡ b) IsRefusal → MatchResult r (λ b. (v : Answers) → asked_evaluates (unfolded n v root) q (choice s t e x) ≡ b) IsRefusal
chosen_first (Ok b) n root s x found t e q holds here is h i k j part = λ v.
    ap (λ (c : Bool). if c then unfolded n v root q s x || part_evaluates (unfolded n v root) q t x else part_evaluates (unfolded n v root) q e x) (k v ∙ h)
    ∙ (ap (λ (c : Bool). c || part_evaluates (unfolded n v root) q t x) (j v ∙ i) ∙ (ap (λ (o : Option Datum). part_evaluates (unfolded n v root) q o x) (sym is) ∙ part v))
chosen_first (Err f) n root s x found t e q holds here is h i k j part = part

-- ---- `contains`

pub counted_by : (n : ℕ) (v : Answers) (root s : Datum) (all : Fields) (xs : Items) (least most : Option Datum) (ps : List (Datum × Datum)) (count : ℕ) (b : Bool) → least ≡ beside (codes "minContains") all → most ≡ beside (codes "maxContains") all
    → ps ≡ each_item s xs → count_conforming (unfolded n v root conforming) ps ≡ count → b ≡ (is_enough least count && is_few most count) → satisfied (unfolded n v root) root (contains_on s all (array xs)) ≡ b
counted_by n v root s all xs least most ps count b low high pairs counts is =
    let number : count_conforming (unfolded n v root conforming) (each_item s xs) ≡ count = ap (count_conforming (unfolded n v root conforming)) (sym pairs) ∙ counts in
    ap (λ (m : ℕ). is_enough (beside (codes "minContains") all) m && is_few (beside (codes "maxContains") all) m) number
    ∙ (ap (λ (o : Option Datum). is_enough o count && is_few (beside (codes "maxContains") all) count) (sym low) ∙ (ap (λ (o : Option Datum). is_enough least count && is_few o count) (sym high) ∙ sym is))

-- ---- one of some, and those after it

pub keyword_at : (w : Answers) (root x : Datum) (all : Fields) (q : Question) (fs : List (String Global × Value)) (i : ℕ) (f : String Global × Value) (b : Bool) → i < length fs → f ≡ get_or fs i f
    → keyword_evaluates w root all (chars (string_bytes f.0)) (value_of f.1) (fields_view (take (length fs - (i + 1)) (drop (i + 1) fs))) x q ≡ b
    → keywords_evaluate w root all (fields_view (drop i fs)) x q ≡ (b || keywords_evaluate w root all (fields_view (drop (i + 1) fs)) x q)
keyword_at w root x all q fs i f b h is known =
    let here = from_here fs i f h is in
    let first : keyword_evaluates w root all (chars (string_bytes f.0)) (value_of f.1) (fields_view (drop (i + 1) fs)) x q ≡ b =
    ap (λ (gs : List (String Global × Value)). keyword_evaluates w root all (chars (string_bytes f.0)) (value_of f.1) (fields_view gs) x q) (sym (rest_is fs (i + 1))) ∙ known in
    rw here (ap (λ (c : Bool). c || keywords_evaluate w root all (fields_view (drop (i + 1) fs)) x q) first)

pub element_at : (w : Answers) (root s x : Datum) (all : Fields) (ys : List Value) (i : ℕ) (y : Value) (b : Bool) → i < length ys → y ≡ get_or ys i y
    → child_left_holds w root s all x (evaluating_index i) (value_of y) ≡ b → elements_left_hold w root s all x i (items_view (drop i ys)) ≡ (b && elements_left_hold w root s all x (i + 1) (items_view (drop (i + 1) ys)))
element_at w root s x all ys i y b h is known =
    let here : drop i ys ≡ y ∷ drop (i + 1) ys = drop_more ys i y h ∙ ap (λ (z : Value). z ∷ drop (i + 1) ys) (sym is) in
    let more : i + 1 ≡ suc i = omega arith in
    rw (here, more) (ap (λ (c : Bool). c && elements_left_hold w root s all x (suc i) (items_view (drop (suc i) ys))) known)

pub pair_at : (w : Answers) (q : Question) (ps : List Pair) (i : ℕ) (p : Pair) (b : Bool) → i < length ps → p ≡ get_or ps i p → pair_evaluates w q (pair_view p) ≡ b
    → some_evaluate w q (pairs_view (drop i ps)) ≡ (b || some_evaluate w q (pairs_view (drop (i + 1) ps)))
pair_at w q ps i p b h is known = rw (pair_from ps i p h is) (ap (λ (c : Bool). c || some_evaluate w q (pairs_view (drop (i + 1) ps))) known)

-- ---- what is left

pub left_of_members : (w : Answers) (root s x : Datum) (all fs : Fields) → x ≡ object fs → satisfied w root (members_left_on s all x) ≡ left_holds w root s all x
left_of_members w root s x all fs e = rw e refl

pub left_of_elements : (w : Answers) (root s x : Datum) (all : Fields) (xs : Items) → x ≡ array xs → satisfied w root (elements_left_on s all x) ≡ left_holds w root s all x
left_of_elements w root s x all xs e = rw e refl

pub left_elements : (r : Result Bool Error) (n : ℕ) (root s x : Datum) (all : Fields) (xs : Items) → x ≡ array xs → MatchResult r (λ b. (v : Answers) → elements_left_hold (unfolded n v root) root s all x 0 xs ≡ b) IsRefusal
    → MatchResult r (λ b. (v : Answers) → left_holds (unfolded n v root) root s all x ≡ b) IsRefusal
left_elements r n root s x all xs e k = settles_as r n root (λ w. left_holds w root s all x) (λ w. elements_left_hold w root s all x 0 xs) (λ v. rw e refl) k
