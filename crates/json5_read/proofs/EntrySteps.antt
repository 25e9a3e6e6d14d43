-- Reading on lists after an entry, by the character that is next.
use Rattle.std.proofs.Common.{◌≡◌, ℕ, Bool, true, false, cond, List, [], ◌∷◌, refl}
use Rattle.std.specs.Prelude.{◌==◌}
use Rattle.json5_grammar.specs.Language.Characters.{NotBegun}
use Rattle.json5_grammar.specs.Faults.Fronts.{BracketKind, of_array, of_object, closing}
use Rattle.json5_grammar.specs.Model.Reading.{Read, got, and_then}
use Rattle.json5_grammar.specs.Model.ReadBlanks.{skip, between}
use Rattle.json5_grammar.specs.Model.ReadSteps.{comma_at, separator}
use Rattle.json5_read.specs.Entries.{entry_front, entry_start}

-- ---- commas

pub separator_is : (k : BracketKind) (x : List ℕ) → separator k x ≡ and_then (skip between x) (λ u y. comma_at k y)
unfolding separator
separator_is k x = refl

pub closes_here : (k : BracketKind) (r : List ℕ) → comma_at k (closing k ∷ r) ≡ got false r
closes_here of_array r = refl
closes_here of_object r = refl

-- ---- entries

pub front_closes : (k : BracketKind) (r : List ℕ) → entry_front k (closing k ∷ r) ≡ got false r
front_closes of_array r = refl
front_closes of_object r = refl

pub front_goes : (k : BracketKind) (y : List ℕ) → NotBegun (λ d. d == closing k) y → entry_front k y ≡ got true y
front_goes k [] n = refl
front_goes k (c ∷ r) n = rw n refl

abbrev pub start_or_end : BracketKind → Bool → List ℕ → Read Bool
start_or_end k more y = cond more (entry_start k y) (got false y)
