-- The text of a string that was taken, by its characters.
use Rattle.std.proofs.Common.{◌≡◌, ℕ, Bool, true, false, List, [], ◌∷◌, refl, sym, subst}
use Rattle.std.specs.Prelude.{Ok}
use Rattle.std.specs.Str.{all_scalars}
use Rattle.std.specs.String.{string_bytes}
use Rattle.std.specs.declared.string.String.{String}
use Rattle.json5_grammar.specs.Language.Strings.{Str}
use Rattle.json5_tokens.proofs.UnicodeScalars.{text_characters}
use Rattle.json5_de.specs.Convert.{one_character}
use Rattle.json5_de.specs.State.{State}
use Rattle.json5_de.specs.TokenCalls.{TakesOwnString}
use Rattle.json5_de.specs.ReaderSteps.{TookOwned, TookCharacters}

pub same_character : (u : List ℕ) (escape_free : Bool) → one_character u escape_free ≡ one_character u false
same_character [] escape_free = refl
same_character (c ∷ []) escape_free = refl
same_character (c ∷ d ∷ u) escape_free = refl

-- the text that was taken is that of its characters
pub took_characters : {A : Type 0} (t : String A) (old new : State) → all_scalars old.unread ≡ true → TookOwned old new t → TookCharacters old new t
took_characters t old new scalars (s, u, escape_free, took, str, bytes) =
    (s, escape_free, took, subst (λ z. Str s z escape_free) (sym (text_characters old.unread new.unread (string_bytes t) took.split scalars str bytes)) str)

-- a string was taken, its text an owned copy
pub took_owned : {A : Type 0} (t : String A) (old new : State) → all_scalars old.unread ≡ true → TookOwned old new t → TakesOwnString old new (Ok t)
took_owned t old new scalars taken = record { taken = taken; characters = took_characters t old new scalars taken; refused = tt; failed = tt }
