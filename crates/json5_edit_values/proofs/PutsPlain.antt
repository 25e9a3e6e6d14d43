-- A text that is JSON, or JSON but for comments, stays so as a value is put.
use Rattle.std.proofs.Common.{◌≡◌, ℕ, Bool, List, [], ◌∷◌, refl, subst, sym}
use Rattle.std.specs.Str.{chars}
use lib.Chars.{codes}
use Rattle.json5_edit.specs.Changes.{StaysPlainQuoted}
use Rattle.json5_edit.specs.declared.paths.Step.{Step}
use Rattle.json5_edit.specs.declared.paths.Step.TheVariants as step
use Rattle.json5_edit_style.specs.declared.habits.Names.{Names}
use Rattle.json5_edit_values.specs.Puts.{first_in}
use Rattle.json5_lexemes.specs.Plain.{PlainText, StaysPlain}
use Rattle.json5_lexemes.specs.Plain as plain

no_braces : (comments : Bool) → PlainText comments (codes "{}")
unfolding chars
no_braces comments = plain.opens refl (plain.closes (λ e. cc) refl plain.ends)

no_brackets : (comments : Bool) → PlainText comments (codes "[]")
unfolding chars
no_brackets comments = plain.opens refl (plain.closes (λ e. cc) refl plain.ends)

-- what an entry begins as is as plain as the value
begun_plain : (steps : List Step) (value : List ℕ) (comments : Bool) → PlainText comments value → PlainText comments (first_in steps value)
begun_plain [] value comments p = p
begun_plain (step.Key k ∷ ss) value comments p = no_braces comments
begun_plain (step.Index i ∷ ss) value comments p = no_brackets comments

-- an entry that begins so, and then the rest
pub plain_along : (first : Names) (steps : List Step) (text value between made : List ℕ) → StaysPlainQuoted first text (first_in steps value) between → StaysPlainQuoted first between value made
    → StaysPlainQuoted first text value made
plain_along first steps text value between made one rest quoted comments p v = rest quoted comments (one quoted comments p (begun_plain steps value comments v)) v

-- the text as it was
pub plain_same : (first : Names) (text value made : List ℕ) → made ≡ text → StaysPlainQuoted first text value made
plain_same first text value made same quoted comments p v = subst (PlainText comments) (sym same) p

pub plain_so : (first : Names) (text value made : List ℕ) → StaysPlain text value made → StaysPlainQuoted first text value made
plain_so first text value made k quoted comments p v = k comments p v
