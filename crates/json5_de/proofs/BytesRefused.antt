-- Texts that don't spell bytes.
use Rattle.std.proofs.Common.{◌≡◌, ◌∙◌, ℕ, true, List, refl, ap, sym, subst, ◌⊎◌, inl, inr, Some, None}
use Rattle.std.specs.Prelude.{Result, Ok, Err, IsErrAnd}
use Rattle.std.specs.Result.{result_ok}
use Rattle.hex.specs.Hex.{decode_of}
use Rattle.hex.specs.declared.error.FromHexError.{FromHexError}
use Rattle.hex.specs.declared.error.FromHexError.TheVariants as hex
use Rattle.json5_grammar.specs.declared.error_code.ErrorCode.TheVariants.{InvalidBytes}
use Rattle.json5_types.specs.ByteBufs.{bytes_of}
use Rattle.json5_types.specs.declared.byte_buf.ByteBuf.{ByteBuf}
use Rattle.json5_types.specs.declared.error.Error.{Error}
use Rattle.json5_types.specs.Errors.{LacksMemory}
use Rattle.json5_de.specs.declared.de.tokens.FoundText.{FoundText}
use Rattle.json5_de.specs.State.{State, GivesUp}
use Rattle.json5_de.specs.ReaderSteps.{IsMismatchOf, IsUndecoded}
use Rattle.json5_de.specs.Convert.{digits_bytes}
use Rattle.json5_de.specs.FoundTexts.{SpellsText, OfFound, JudgesText}

undecoded : (h : FromHexError) (input : List ℕ) (offset : ℕ) (e : Error) → IsUndecoded h input offset e → IsMismatchOf (Some InvalidBytes) input offset e
undecoded hex.OutOfMemory input offset e k = inl k
undecoded (hex.InvalidHexCharacter c i) input offset e k = inr k
undecoded hex.OddLength input offset e k = inr k
undecoded hex.InvalidStringLength input offset e k = inr k

-- the bytes of a text that was found can't be decoded
pub judged_undecoded : (old new : State) (found : FoundText) (result : Result ByteBuf Error) (h : FromHexError) (bytes : List ℕ) → SpellsText old found.token bytes → (h ≡ hex.OutOfMemory) ⊎ (decode_of bytes ≡ Err h)
    → IsErrAnd result (IsUndecoded h old.input found.start) → GivesUp old new → JudgesText true (Some InvalidBytes) digits_bytes bytes_of found old new result
judged_undecoded old new found (Ok v) h bytes spells why is failed = absurd is
judged_undecoded old new found (Err e) h bytes spells why is failed = record { converts = tt; kept = tt; other = by_cause why; refused = undecoded h old.input found.start e is; failed = failed }
  where
    by_cause : (h ≡ hex.OutOfMemory) ⊎ (decode_of bytes ≡ Err h) → ((true ≡ true) × LacksMemory e) ⊎ OfFound old found (λ u escape_free. digits_bytes u escape_free ≡ None)
    by_cause (inl memory) = inl (refl, subst (λ z. IsUndecoded z old.input found.start e) memory is)
    by_cause (inr none) = inr (λ u escape_free spelled scalars. ap (λ b. result_ok (decode_of b)) (sym (spells u escape_free spelled)) ∙ ap result_ok none)
