-- What an edit with a value makes: what the edit with a text makes of one that spells the value's tree.
-- A promise rests on this.
use Rattle.std.specs.declared.alloc.Global.{Global}
use Rattle.std.specs.Prelude.{ℕ, List, MatchResult, Result, String, string_bytes}
use Rattle.std.specs.Str.{chars}
use Rattle.json5_edit.specs.Changes.{IsInserted, IsPushed, IsPutIn, StaysPlainQuoted}
use Rattle.json5_edit.specs.Sets.{IsSet}
use Rattle.json5_edit.specs.declared.faults.EditError.{EditError}
use Rattle.json5_edit.specs.declared.paths.Step.{Step}
use Rattle.json5_edit_style.specs.declared.habits.Names.{Names}
use Rattle.json5_edit_values.specs.Refusals.{RefusesInsertOf, RefusesPushOf, RefusesPutInOf, RefusesSetTo}
use Rattle.json5_edit_values.specs.Spelled.{Spells}
use Rattle.json5_write.specs.WrittenTrees.{Written}

-- the text `made` is the text with the value that the path leads to replaced by one of this tree
abbrev pub IsSetTo : Written → List ℕ → List Step → List ℕ → Type 0
IsSetTo t text path made = (new : List ℕ) × Spells t text (chars new) × IsSet text path new made

-- with one more element at the end of the array that the path leads to
abbrev pub IsPushedAs : Written → List ℕ → List Step → List ℕ → Type 0
IsPushedAs t text path made = (new : List ℕ) × Spells t text (chars new) × IsPushed text path new made

-- with one more element of the array that the path leads to, before that with this index
abbrev pub IsPutInAs : Written → List ℕ → List Step → ℕ → List ℕ → Type 0
IsPutInAs t text path i made = (new : List ℕ) × Spells t text (chars new) × IsPutIn text path i new made

-- with one more member, the last, of the object that the path leads to, where none had the key; as plain as the text where
-- the value's text is so too, if a name stands between quotes as the first key
abbrev pub IsInsertedAs : Names → Written → List ℕ → List Step → List ℕ → List ℕ → Type 0
IsInsertedAs first t text path key made = (new : List ℕ) × Spells t text (chars new) × IsInserted text path key new made × StaysPlainQuoted first text new made

-- what a call answers: the edit, or why it isn't made
abbrev pub SetsTo : Written → List ℕ → List Step → Result (String Global) EditError → Type 0
SetsTo t text path r = MatchResult r (λ made. IsSetTo t text path (string_bytes made)) (RefusesSetTo t text path)

abbrev pub PushesAs : Written → List ℕ → List Step → Result (String Global) EditError → Type 0
PushesAs t text path r = MatchResult r (λ made. IsPushedAs t text path (string_bytes made)) (RefusesPushOf t text path)

abbrev pub PutsInAs : Written → List ℕ → List Step → ℕ → Result (String Global) EditError → Type 0
PutsInAs t text path i r = MatchResult r (λ made. IsPutInAs t text path i (string_bytes made)) (RefusesPutInOf t text path i)

abbrev pub InsertsAs : Names → Written → List ℕ → List Step → List ℕ → Result (String Global) EditError → Type 0
InsertsAs first t text path key r = MatchResult r (λ made. IsInsertedAs first t text path key (string_bytes made)) (RefusesInsertOf t text path key)
