-- What keywords are as values.
use Rattle.std.proofs.Common.{◌≡◌, Bool, ℤ, rules, subst}
use Rattle.std.specs.Prelude.{Result, Ok, Err, IfOk}
use Rattle.json5_grammar.specs.Language.Numbers.{whole}
use Rattle.json5_types.specs.declared.value.Value.{the_lemmas}
use Rattle.json5_types.specs.declared.value.Value as value
use Rattle.json5_types.specs.ValueMeanings.{boolean, number, value_of}
use Rattle.json5_settings.proofs.ValuesSaid.{null_says, boolean_says, text_says, number_says, any_says}
use Rattle.json5_types.proofs.ValuesCompared.{view-Array, view-Object, view-String}

pub view-Bool : (b : Bool) → value_of (value.Bool b) ≡ boolean b
view-Bool b = search (rules, the_lemmas)

pub view-Whole : (z : ℤ) → value_of (value.Whole z) ≡ number (whole z)
view-Whole z = search (rules, the_lemmas)

pub ruleset keyword_views = (view-Array, view-Bool, view-Object, view-String, view-Whole)

pub ruleset values_say = (null_says, boolean_says, text_says, number_says, any_says)

-- what holds of a result's value by two facts of it
pub if_ok_both : {T E : Type 0} {A B C : T → Type 0} (r : Result T E) → IfOk r A → IfOk r B → ((t : T) → A t → B t → C t) → IfOk r C
if_ok_both (Ok t) a b next = next t a b
if_ok_both (Err e) a b next = tt

-- what holds of the value of a result that has one
pub of_ok : {T E : Type 0} (A : T → Type 0) (r : Result T E) (t : T) → r ≡ Ok t → IfOk r A → A t
of_ok A r t is holds = subst (λ q. IfOk q A) is holds
