-- Where the entries of brackets begin: the elements of an array and the members of an object.
-- Private.
use Rattle.std.specs.Prelude.{◌≡◌, ◌<◌, ◌≤◌, ℕ, Bool, true, false, cond, List, [], ◌∷◌, ◌==◌}
use Rattle.json5_grammar.specs.Faults.Fronts.{BracketKind, closing}
use Rattle.json5_grammar.specs.Model.Reading.{Read, got, and_then}
use Rattle.json5_grammar.specs.Model.ReadBlanks.{skip, between}
use Rattle.json5_grammar.specs.Model.ReadSteps.{forget, colon_after, separator}
use Rattle.json5_grammar.specs.Model.ReadTexts.{key}

-- a character from `!` to `~` that is no slash
pub record IsVisible (c : ℕ) : Type 0 where
  pub low : 32 < c
  pub high : c ≤ 126
  pub no_slash : c ≡ 47 → ⊥

-- false and past the closing bracket, if that is in front; else true, with nothing taken
abbrev pub entry_front : BracketKind → List ℕ → Read Bool
entry_front k [] = got true []
entry_front k (c ∷ r) = cond (c == closing k) (got false r) (got true (c ∷ r))

-- the same after blanks
abbrev pub entry_start : BracketKind → List ℕ → Read Bool
entry_start k x = and_then (skip between x) (λ u y. entry_front k y)

-- the comma if one is due, or the closing bracket; true if an entry may follow
abbrev pub due_comma : BracketKind → Bool → List ℕ → Read Bool
due_comma k false x = got true x
due_comma k true x = separator k x

-- up to the next entry, after a comma if one is due, or past the closing bracket
abbrev pub next_entry : BracketKind → Bool → List ℕ → Read Bool
next_entry k comma_due x = and_then (due_comma k comma_due x) (λ more y. cond more (entry_start k y) (got false y))

-- what is before the value of a member: a key, blanks, a colon and blanks
abbrev pub key_and_colon : List ℕ → Read (Unit {0})
key_and_colon x = and_then (forget (key x)) (λ u r. colon_after r)
