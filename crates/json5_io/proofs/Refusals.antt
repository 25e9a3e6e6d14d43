-- Why a reader's text isn't read.
use Rattle.std.proofs.Common.{◌≡◌, ◌⊎◌, inl, inr, ℕ, List, [], ◌++◌, Option, Some, None, Result, Ok, Err, refl, sym, ap, subst, ◌∙◌}
use Rattle.std.specs.Prelude.{IfSome, IfErr, IsErrAnd}
use Rattle.json5_types.specs.declared.error.Error.{Error}
use Rattle.json5_types.specs.declared.value.Value.{Value}
use Rattle.json5_io.specs.Bytes.{ReadsText}
use Rattle.json5_io.specs.Readers.{AreAll, RefusesReader, by_bytes, by_memory, ReadsReader, refused}

pub bytes_fault : (known : Option (List ℕ)) (bytes : List ℕ) (e : Error) → AreAll known bytes → ReadsText bytes (Err e) → RefusesReader known e
bytes_fault known bytes e all (no_text, inl f) = by_bytes bytes all no_text f
bytes_fault known bytes e all (no_text, inr m) = by_memory m

-- all that was left was read into a vector that was empty
pub all_read : (known : Option (List ℕ)) (old new bytes : List ℕ) → IfSome known (λ xs. new ≡ old ++ xs) → old ≡ [] → bytes ≡ new → AreAll known bytes
all_read None old new bytes h o e = tt
all_read (Some xs) old new bytes h o e = e ∙ h ∙ ap (λ l. l ++ xs) o

pub handed : {A : Type 0} (known : Option (List ℕ)) (e : Error) (r : Result A Error) → IsErrAnd r (λ y. y ≡ e) → RefusesReader known e → IfErr r (RefusesReader known)
handed known e (Ok v) h f = absurd h
handed known e (Err y) h f = subst (RefusesReader known) (sym h) f

pub handed_on : (known : Option (List ℕ)) (e : Error) (r : Result Value Error) → IsErrAnd r (λ y. y ≡ e) → RefusesReader known e → ReadsReader known r
handed_on known e (Ok v) h f = absurd h
handed_on known e (Err y) h f = refused y refl (subst (RefusesReader known) (sym h) f)
