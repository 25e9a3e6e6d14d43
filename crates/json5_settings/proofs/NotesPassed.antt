-- An annotation in front of a schema's keywords changes nothing of what the schema says.
use Rattle.std.proofs.Common.{◌≡◌, ◌∙◌, ◌≤◌, ℕ, zero, suc, Bool, true, false, ◌&&◌, ◌||◌, not, if◌then◌else◌, List, [], ◌∷◌, nat_eq, refl, ap, sym, arith, Option, Some, None}
use Rattle.std.specs.Prelude.{codes, is_some}
use Rattle.std.specs.Char.{encode_utf8}
use Rattle.std.specs.Cmp.Lexicographic.{pointwise}
use Rattle.std.specs.Str.{chars, encode_utf8_all}
use Rattle.json5_grammar.specs.Language.Trees.{Tree}
use Rattle.json5_types.specs.ValueMeanings.{Datum, null, boolean, number, text, array, object, Fields, field, no_field, Items, item, no_item}
use Rattle.json5_numbers.specs.Sameness.{is_named}
use Rattle.json5_read.specs.TreeMeanings.{datum_of}
use Rattle.json5_schema.specs.declared.keyword.Applicator.{Applicator}
use Rattle.json5_schema.specs.declared.keyword.Applicator.TheVariants as applicator
use Rattle.json5_schema.specs.declared.keyword.Keyword.{Keyword}
use Rattle.json5_schema.specs.declared.keyword.Keyword.TheVariants as keyword
use Rattle.json5_schema.specs.Keywords.{keyword_named}
use Rattle.json5_schema.specs.Conformance.{Answers, Question, conforming, evaluating_name, evaluating_index, unfolded, beside, is_additional, each_additional, applies, asks, satisfied, reaches, evaluates, applicator_evaluates, keyword_evaluates, keywords_evaluate, members_left_hold, elements_left_hold, left_holds, keyword_holds, keywords_hold, latest, Conforms}
use Rattle.json5_settings.specs.DescribedSchemas.{Says, Sound, Plain, with_draft}
use Rattle.json5_settings.proofs.ValuesSaid.{once}
use Rattle.json5_settings.proofs.ListsSaid.{after_more, and_true}
use Rattle.json5_settings.proofs.FieldsSaid.{or_none}

-- a name that is no keyword, and that no keyword looks for beside it
pub record IsNote (u : List ℕ) : Type 0 where
  annotation : keyword_named (encode_utf8_all u) ≡ keyword.Annotation
  not_then : pointwise nat_eq u (chars (codes "then")) ≡ false
  not_else : pointwise nat_eq u (chars (codes "else")) ≡ false
  not_prefix : pointwise nat_eq u (chars (codes "prefixItems")) ≡ false
  not_items : pointwise nat_eq u (chars (codes "items")) ≡ false
  not_least : pointwise nat_eq u (chars (codes "minContains")) ≡ false
  not_most : pointwise nat_eq u (chars (codes "maxContains")) ≡ false
  not_properties : pointwise nat_eq u (chars (codes "properties")) ≡ false
  not_patterns : pointwise nat_eq u (chars (codes "patternProperties")) ≡ false

draft_is_note : IsNote (chars (codes "$schema"))
unfolding encode_utf8 chars
draft_is_note = record { annotation = refl; not_then = refl; not_else = refl; not_prefix = refl; not_items = refl; not_least = refl; not_most = refl; not_properties = refl; not_patterns = refl }

or_false : (b : Bool) → (b && false) ≡ false
or_false true = refl
or_false false = refl

or_true : (b : Bool) → (b || true) ≡ true
or_true true = refl
or_true false = refl

module _ (u : List ℕ) (a : Datum) (kw : Fields) (note : IsNote u) where
  beside_same : (name : List ℕ) → pointwise nat_eq u (chars name) ≡ false → beside name (field u a kw) ≡ beside name kw
  beside_same name h = rw h (or_none (beside name kw))

  additional_same : (k : List ℕ) → is_additional (field u a kw) k ≡ is_additional kw k
  additional_same k = rw (beside_same (codes "properties") note.not_properties, beside_same (codes "patternProperties") note.not_patterns) refl

  others_same : (s : Datum) (fs : Fields) → each_additional s (field u a kw) fs ≡ each_additional s kw fs
  others_same s no_field = refl
  others_same s (field k x fs) = rw (additional_same k, others_same s fs) refl

  -- ---- what the schema evaluates

  reaches_same : (k : Applicator) (b : Datum) (q : Question) → reaches (field u a kw) k b q ≡ reaches kw k b q
  reaches_same applicator.AdditionalProperties b (evaluating_name k) = additional_same k
  reaches_same applicator.Items b (evaluating_index i) = rw (beside_same (codes "prefixItems") note.not_prefix) refl
  reaches_same applicator.AdditionalItems b (evaluating_index i) = rw (beside_same (codes "items") note.not_items) refl
  reaches_same _ b q = refl

  applicator_same : (v : Answers) (root : Datum) (k : Applicator) (b x : Datum) (q : Question) → applicator_evaluates v root (field u a kw) k b x q ≡ applicator_evaluates v root kw k b x q
  applicator_same v root applicator.If b x q = rw (beside_same (codes "then") note.not_then, beside_same (codes "else") note.not_else) refl
  applicator_same v root applicator.AdditionalProperties b x q = reaches_same applicator.AdditionalProperties b q
  applicator_same v root applicator.Items b x q = reaches_same applicator.Items b q
  applicator_same v root applicator.AdditionalItems b x q = reaches_same applicator.AdditionalItems b q
  applicator_same v root _ b x q = refl

  evaluates_same : (v : Answers) (root : Datum) (k : Keyword) (b x : Datum) (q : Question) → evaluates v root (field u a kw) k b x q ≡ evaluates v root kw k b x q
  evaluates_same v root (keyword.Applicator k) b x q = applicator_same v root k b x q
  evaluates_same v root _ b x q = refl

  rest_evaluates : (v : Answers) (root : Datum) (rest : Fields) (x : Datum) (q : Question) → keywords_evaluate v root (field u a kw) rest x q ≡ keywords_evaluate v root kw rest x q
  rest_evaluates v root no_field x q = refl
  rest_evaluates v root (field name b rest) x q = rw (evaluates_same v root (keyword_named (encode_utf8_all name)) b x q, rest_evaluates v root rest x q) refl

  note_evaluates : (v : Answers) (root : Datum) (x : Datum) (q : Question) → keyword_evaluates v root (field u a kw) u a kw x q ≡ false
  note_evaluates v root x q = rw note.annotation (or_false (not (is_named u kw)))

  all_evaluate : (v : Answers) (root : Datum) (x : Datum) (q : Question) → keywords_evaluate v root (field u a kw) (field u a kw) x q ≡ keywords_evaluate v root kw kw x q
  all_evaluate v root x q = rw (note_evaluates v root x q) (rest_evaluates v root kw x q)

  -- ---- what is left

  members_same : (v : Answers) (root s x : Datum) (fs : Fields) → members_left_hold v root s (field u a kw) x fs ≡ members_left_hold v root s kw x fs
  members_same v root s x no_field = refl
  members_same v root s x (field k y fs) = rw (all_evaluate v root x (evaluating_name k), members_same v root s x fs) refl

  elements_same : (v : Answers) (root s x : Datum) (i : ℕ) (ys : Items) → elements_left_hold v root s (field u a kw) x i ys ≡ elements_left_hold v root s kw x i ys
  elements_same v root s x i no_item = refl
  elements_same v root s x i (item y ys) = rw (all_evaluate v root x (evaluating_index i), elements_same v root s x (suc i) ys) refl

  -- ---- what the keywords say

  items_satisfied : (v : Answers) (root b x : Datum) → satisfied v root (applies root (field u a kw) applicator.Items b x) ≡ satisfied v root (applies root kw applicator.Items b x)
  items_satisfied v root b x = rw (beside_same (codes "prefixItems") note.not_prefix) refl

  applies_same : (v : Answers) (root : Datum) (k : Applicator) (b x : Datum) → satisfied v root (applies root (field u a kw) k b x) ≡ satisfied v root (applies root kw k b x)
  applies_same v root applicator.If b x = rw (beside_same (codes "then") note.not_then, beside_same (codes "else") note.not_else) refl
  applies_same v root applicator.Items b x = items_satisfied v root b x
  applies_same v root applicator.AdditionalItems b x = rw (beside_same (codes "items") note.not_items) refl
  applies_same v root applicator.Contains b (array xs) = rw (beside_same (codes "minContains") note.not_least, beside_same (codes "maxContains") note.not_most) refl
  applies_same v root applicator.AdditionalProperties b (object fs) = rw (others_same b (latest fs)) refl
  applies_same v root applicator.UnevaluatedProperties b (object fs) = members_same v root b (object fs) (latest fs)
  applies_same v root applicator.UnevaluatedItems b (array xs) = elements_same v root b (array xs) 0 xs
  applies_same v root _ b x = refl

  asks_same : (v : Answers) (root : Datum) (k : Keyword) (b x : Datum) → satisfied v root (asks root (field u a kw) k b x) ≡ satisfied v root (asks root kw k b x)
  asks_same v root (keyword.Applicator k) b x = applies_same v root k b x
  asks_same v root (keyword.Assertion k) b x = refl
  asks_same v root keyword.Annotation b x = refl

  rest_holds : (v : Answers) (root : Datum) (rest : Fields) (x : Datum) → keywords_hold v root (field u a kw) rest x ≡ keywords_hold v root kw rest x
  rest_holds v root no_field x = refl
  rest_holds v root (field name b rest) x = rw (asks_same v root (keyword_named (encode_utf8_all name)) b x, rest_holds v root rest x) refl

  note_holds : (v : Answers) (root x : Datum) → keyword_holds v root (field u a kw) u a kw x ≡ true
  note_holds v root x = rw note.annotation (or_true (is_named u kw))

  all_hold_so : (v : Answers) (root x : Datum) → keywords_hold v root (field u a kw) (field u a kw) x ≡ keywords_hold v root kw kw x
  all_hold_so v root x = rw (note_holds v root x) (rest_holds v root kw x)

  pub noted_says : {C : Type 0} (convert : Tree → Option C) → Says kw convert → Says (field u a kw) convert
  noted_says convert says = after_more (field u a kw) convert says.steps (λ n h root v t s p. all_hold_so (unfolded n v root) root (datum_of t) ∙ (sym (once n v root kw (datum_of t)) ∙ says.verdict (suc n) (omega (arith, h)) root v t s p))

-- the whole schema says the same, as a root
pub drafted : {C : Type 0} (kw : Fields) (convert : Tree → Option C) → Says kw convert → (t : Tree) → Sound t → Plain t → Conforms (with_draft kw) (datum_of t) (is_some (convert t))
drafted kw convert says t s p =
    let whole = noted_says (chars (codes "$schema")) (text (chars (codes "http://json-schema.org/draft-07/schema#"))) kw draft_is_note convert says in
    (whole.steps, λ v. whole.verdict whole.steps (omega arith) (with_draft kw) v t s p)
