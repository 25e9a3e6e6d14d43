-- Names of keywords are compared with those of about their length alone.
use Rattle.std.proofs.Common.{◌≡◌, ◌∙◌, ◌≤◌, ◌<◌, ℕ, suc, Bool, true, false, nat_eq, nat_le, nat_lt, ◌&&◌, if◌then◌else◌, List, [], ◌∷◌, length, refl, ap, sym, arith}
use Rattle.std.specs.Cmp.Lexicographic.{pointwise}
use Rattle.std.proofs.lemmas.Bool.Decides.{nat_tests}
use lib.Chars.{codes}
use Rattle.json5_schema.specs.declared.keyword.Assertion.TheVariants as assertion
use Rattle.json5_schema.specs.declared.keyword.Applicator.TheVariants as applicator
use Rattle.json5_schema.specs.declared.keyword.Keyword.{Keyword}
use Rattle.json5_schema.specs.declared.keyword.Keyword.TheVariants as keyword
use Rattle.json5_schema.specs.Keywords.{keyword_named, keyword_to_four, keyword_of_five, keyword_to_seven, keyword_of_eight, keyword_to_ten, keyword_to_sixteen, long_keyword}

-- ---- a table of names

abbrev Table : Type 0
Table = List (List ℕ × Keyword)

abbrev look_up : Table → List ℕ → Keyword
look_up [] name = keyword.Annotation
look_up ((w, k) ∷ t) name = if pointwise nat_eq name w then k else look_up t name

-- the names whose length passes a test
abbrev kept : (ℕ → Bool) → Table → Table
kept p [] = []
kept p ((w, k) ∷ t) = if p (length w) then (w, k) ∷ kept p t else kept p t

other_length : (a b : List ℕ) → (length a ≡ length b → ⊥) → pointwise nat_eq a b ≡ false
other_length [] [] h = absurd (h refl)
other_length [] (y ∷ b) h = refl
other_length (x ∷ a) [] h = refl
other_length (x ∷ a) (y ∷ b) h = and_false (nat_eq x y) (pointwise nat_eq a b) (other_length a b (λ e. h (ap suc e)))
  where
    and_false : (p q : Bool) → q ≡ false → (p && q) ≡ false
    and_false true q e = e
    and_false false q e = refl

kept_same : (p : ℕ → Bool) (t : Table) (name : List ℕ) → p (length name) ≡ true → look_up t name ≡ look_up (kept p t) name
kept_same p [] name h = refl
kept_same p ((w, k) ∷ t) name h = by (kept_same p t name h) (p (length w)) refl
  where
    by : look_up t name ≡ look_up (kept p t) name → (b : Bool) → p (length w) ≡ b → look_up ((w, k) ∷ t) name ≡ look_up (if b then (w, k) ∷ kept p t else kept p t) name
    by rest true e = ap (λ r. if pointwise nat_eq name w then k else r) rest
    by rest false e =
        let other : pointwise nat_eq name w ≡ false = other_length name w (λ s. let both : true ≡ false = sym h ∙ ap p s ∙ e in absurd (cc)) in
        rw other rest

abbrev table : Table
table =
    (codes "type", keyword.Assertion assertion.Type) ∷
    (codes "enum", keyword.Assertion assertion.Enum) ∷
    (codes "const", keyword.Assertion assertion.Const) ∷
    (codes "multipleOf", keyword.Assertion assertion.MultipleOf) ∷
    (codes "maximum", keyword.Assertion assertion.Maximum) ∷
    (codes "exclusiveMaximum", keyword.Assertion assertion.ExclusiveMaximum) ∷
    (codes "minimum", keyword.Assertion assertion.Minimum) ∷
    (codes "exclusiveMinimum", keyword.Assertion assertion.ExclusiveMinimum) ∷
    (codes "maxLength", keyword.Assertion assertion.MaxLength) ∷
    (codes "minLength", keyword.Assertion assertion.MinLength) ∷
    (codes "pattern", keyword.Assertion assertion.Pattern) ∷
    (codes "format", keyword.Assertion assertion.Format) ∷
    (codes "maxItems", keyword.Assertion assertion.MaxItems) ∷
    (codes "minItems", keyword.Assertion assertion.MinItems) ∷
    (codes "uniqueItems", keyword.Assertion assertion.UniqueItems) ∷
    (codes "maxProperties", keyword.Assertion assertion.MaxProperties) ∷
    (codes "minProperties", keyword.Assertion assertion.MinProperties) ∷
    (codes "required", keyword.Assertion assertion.Required) ∷
    (codes "dependentRequired", keyword.Assertion assertion.DependentRequired) ∷
    (codes "allOf", keyword.Applicator applicator.AllOf) ∷
    (codes "anyOf", keyword.Applicator applicator.AnyOf) ∷
    (codes "oneOf", keyword.Applicator applicator.OneOf) ∷
    (codes "not", keyword.Applicator applicator.Not) ∷
    (codes "if", keyword.Applicator applicator.If) ∷
    (codes "dependentSchemas", keyword.Applicator applicator.DependentSchemas) ∷
    (codes "dependencies", keyword.Applicator applicator.Dependencies) ∷
    (codes "prefixItems", keyword.Applicator applicator.PrefixItems) ∷
    (codes "items", keyword.Applicator applicator.Items) ∷
    (codes "additionalItems", keyword.Applicator applicator.AdditionalItems) ∷
    (codes "contains", keyword.Applicator applicator.Contains) ∷
    (codes "properties", keyword.Applicator applicator.Properties) ∷
    (codes "patternProperties", keyword.Applicator applicator.PatternProperties) ∷
    (codes "additionalProperties", keyword.Applicator applicator.AdditionalProperties) ∷
    (codes "propertyNames", keyword.Applicator applicator.PropertyNames) ∷
    (codes "unevaluatedProperties", keyword.Applicator applicator.UnevaluatedProperties) ∷
    (codes "unevaluatedItems", keyword.Applicator applicator.UnevaluatedItems) ∷
    (codes "$ref", keyword.Applicator applicator.Ref) ∷ []

in_table : (name : List ℕ) → keyword_named name ≡ look_up table name
in_table name = refl

both : (a b : Bool) → a ≡ true → b ≡ true → (a && b) ≡ true
both true true h k = refl
both true false h k = k
both false b h k = h

at_most : (n m : ℕ) → n ≤ m → nat_le n m ≡ true
at_most n m h = grind (arith, nat_tests, h)

above : (n m : ℕ) → n < m → nat_lt n m ≡ true
above n m h = grind (arith, nat_tests, h)

exactly : (n m : ℕ) → n ≡ m → nat_eq n m ≡ true
exactly n m h = grind (arith, nat_tests, h)

-- ---- each of the smaller ones

pub as-keyword_to_four : (name : List ℕ) → length name ≤ 4 → keyword_to_four name ≡ keyword_named name
as-keyword_to_four name h = sym (in_table name ∙ kept_same (λ n. nat_le n 4) table name (at_most (length name) 4 h))

pub as-keyword_of_five : (name : List ℕ) → length name ≡ 5 → keyword_of_five name ≡ keyword_named name
as-keyword_of_five name h = sym (in_table name ∙ kept_same (λ n. nat_eq n 5) table name (exactly (length name) 5 h))

pub as-keyword_to_seven : (name : List ℕ) → (6 ≤ length name) × (length name ≤ 7) → keyword_to_seven name ≡ keyword_named name
as-keyword_to_seven name h = sym (in_table name ∙ kept_same (λ n. nat_le 6 n && nat_le n 7) table name (both _ _ (at_most 6 (length name) h.0) (at_most (length name) 7 h.1)))

pub as-keyword_of_eight : (name : List ℕ) → length name ≡ 8 → keyword_of_eight name ≡ keyword_named name
as-keyword_of_eight name h = sym (in_table name ∙ kept_same (λ n. nat_eq n 8) table name (exactly (length name) 8 h))

pub as-keyword_to_ten : (name : List ℕ) → (9 ≤ length name) × (length name ≤ 10) → keyword_to_ten name ≡ keyword_named name
as-keyword_to_ten name h = sym (in_table name ∙ kept_same (λ n. nat_le 9 n && nat_le n 10) table name (both _ _ (at_most 9 (length name) h.0) (at_most (length name) 10 h.1)))

pub as-keyword_to_sixteen : (name : List ℕ) → (11 ≤ length name) × (length name ≤ 16) → keyword_to_sixteen name ≡ keyword_named name
as-keyword_to_sixteen name h = sym (in_table name ∙ kept_same (λ n. nat_le 11 n && nat_le n 16) table name (both _ _ (at_most 11 (length name) h.0) (at_most (length name) 16 h.1)))

pub as-long_keyword : (name : List ℕ) → 16 < length name → long_keyword name ≡ keyword_named name
as-long_keyword name h = sym (in_table name ∙ kept_same (λ n. nat_lt 16 n) table name (above 16 (length name) h))
