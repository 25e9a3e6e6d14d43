-- Schemas of single values say what their types convert.
use Rattle.std.proofs.Common.{◌≡◌, ◌∙◌, ◌≤◌, ℕ, zero, suc, refl, arith, Option}
use Rattle.std.specs.Prelude.{is_some}
use Rattle.std.specs.Char.{encode_utf8}
use Rattle.std.specs.Str.{chars}
use Rattle.json5_grammar.specs.Language.Trees.{Tree, null, boolean, number, text, array, object}
use Rattle.json5_types.specs.ValueMeanings.{Datum, Fields}
use Rattle.json5_types.specs.ValueMeanings as datum
use Rattle.json5_read.specs.TreeMeanings.{datum_of}
use Rattle.json5_de.specs.Convert.{unit_of, bool_of, text_of, decimal_of, every_datum}
use Rattle.json5_schema.specs.Conformance.{Answers, conforming, unfolded, keywords_hold}
use Rattle.json5_settings.specs.DescribedSchemas.{Says, Sound, Plain, null_schema, boolean_schema, text_schema, number_schema, any_schema}

pub once : (n : ℕ) (v : Answers) (root : Datum) (kw : Fields) (x : Datum) → unfolded (suc n) v root conforming (datum.object kw) x ≡ keywords_hold (unfolded n v root) root kw kw x
unfolding unfolded
once n v root kw x = refl

-- what holds after one unfolding
pub after_one : {C : Type 0} (kw : Fields) (convert : Tree → Option C) → ((w : Answers) (root : Datum) (t : Tree) → Sound t → Plain t → keywords_hold w root kw kw (datum_of t) ≡ is_some (convert t)) → Says kw convert
after_one kw convert holds = record { steps = 1; verdict = by }
  where
    by : (n : ℕ) → 1 ≤ n → (root : Datum) (v : Answers) (t : Tree) → Sound t → Plain t → unfolded n v root conforming (datum.object kw) (datum_of t) ≡ is_some (convert t)
    by zero h root v t s p = absurd (omega (arith, h))
    by (suc n) h root v t s p = once n v root kw (datum_of t) ∙ holds (unfolded n v root) root t s p

null_holds : (w : Answers) (root : Datum) (t : Tree) → keywords_hold w root null_schema null_schema (datum_of t) ≡ is_some (unit_of t)
unfolding encode_utf8 chars
null_holds w root null = refl
null_holds w root (boolean b) = refl
null_holds w root (number n) = refl
null_holds w root (text u e) = refl
null_holds w root (array ts) = refl
null_holds w root (object ps) = refl

pub null_says : Says null_schema unit_of
null_says = after_one null_schema unit_of (λ w root t s p. null_holds w root t)

boolean_holds : (w : Answers) (root : Datum) (t : Tree) → keywords_hold w root boolean_schema boolean_schema (datum_of t) ≡ is_some (bool_of t)
unfolding encode_utf8 chars
boolean_holds w root null = refl
boolean_holds w root (boolean b) = refl
boolean_holds w root (number n) = refl
boolean_holds w root (text u e) = refl
boolean_holds w root (array ts) = refl
boolean_holds w root (object ps) = refl

pub boolean_says : Says boolean_schema bool_of
boolean_says = after_one boolean_schema bool_of (λ w root t s p. boolean_holds w root t)

text_holds : (w : Answers) (root : Datum) (t : Tree) → keywords_hold w root text_schema text_schema (datum_of t) ≡ is_some (text_of t)
unfolding encode_utf8 chars
text_holds w root null = refl
text_holds w root (boolean b) = refl
text_holds w root (number n) = refl
text_holds w root (text u e) = refl
text_holds w root (array ts) = refl
text_holds w root (object ps) = refl

pub text_says : Says text_schema text_of
text_says = after_one text_schema text_of (λ w root t s p. text_holds w root t)

number_holds : (w : Answers) (root : Datum) (t : Tree) → keywords_hold w root number_schema number_schema (datum_of t) ≡ is_some (decimal_of t)
unfolding encode_utf8 chars
number_holds w root null = refl
number_holds w root (boolean b) = refl
number_holds w root (number n) = refl
number_holds w root (text u e) = refl
number_holds w root (array ts) = refl
number_holds w root (object ps) = refl

pub number_says : Says number_schema decimal_of
number_says = after_one number_schema decimal_of (λ w root t s p. number_holds w root t)

pub any_says : Says any_schema every_datum
any_says = after_one any_schema every_datum (λ w root t s p. refl)
