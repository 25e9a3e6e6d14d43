-- What is complete and isn't of the type: a custom message, at its start.
use Rattle.std.proofs.Common.{◌≡◌, ℕ, Bool, List, [], ◌++◌, length, sym, ◌∙◌, subst, inl, inr, Option, Some, None}
use Rattle.std.specs.Prelude.{Result, Ok, Err, IfErr, IsErrAnd}
use Rattle.std.specs.Str.{encode_utf8_all}
use Rattle.std.proofs.lemmas.List.{append-nil}
use Rattle.json5_grammar.specs.declared.error_code.ErrorCode.{ErrorCode}
use Rattle.json5_grammar.specs.Faults.Positions.{position_after}
use Rattle.json5_grammar.specs.Language.Numbers.{Number, Num}
use Rattle.json5_grammar.specs.Language.Strings.{Str}
use Rattle.json5_grammar.specs.Language.Values.{Stops}
use Rattle.json5_types.specs.declared.error.Error.{Error}
use Rattle.json5_types.specs.Errors.{error_position}
use Rattle.json5_de.specs.State.{State}
use Rattle.json5_de.specs.Faults.{RefusedByOrMemory, NotNumber, other_number, NotText, other_text}
use Rattle.json5_de.specs.ReaderSteps.{PassedGap, TookText, IsMismatch, IsMismatchOf}
use Rattle.json5_de.proofs.ReadSteps.{refused_token, input_of}

-- the offset is that of what is unread
abbrev pub StartsAt : State → ℕ → Type 0
StartsAt s start = (before : List ℕ) → s.input ≡ before ++ s.unread → start ≡ length (encode_utf8_all before)

mismatched : {F : List ℕ → Option ErrorCode → Option (List ℕ) → Type 0} (other : Option ErrorCode) (old mid new : State) (e : Error) (start : ℕ) (s : List ℕ) → PassedGap old mid → TookText mid s new → StartsAt mid start → F mid.unread other (Some [])
    → IsMismatchOf other new.input start e → RefusedByOrMemory F old e
mismatched other old mid new e start s p k at fault (inl m) = inl m
mismatched other old mid new e start s p k at fault (inr (says, placed)) =
    inr (refused_token old mid e p (record {
      reason = other;
      place = Some [];
      fault = fault;
      says = says;
      placed = λ before whole. subst (λ z. error_position e ≡ Some (position_after z)) (sym (append-nil before)) (placed before mid.unread (input_of k.rest ∙ whole) (at before whole));
    }))

pub refused_number : {V C : Type 0} (f : Number → Option C) (old mid new : State) (result : Result V Error) (start : ℕ) (s : List ℕ) (n : Number) → PassedGap old mid → TookText mid s new → Num s n → Stops s new.unread → f n ≡ None
    → StartsAt mid start → IsErrAnd result (IsMismatch new.input start) → IfErr result (RefusedByOrMemory (NotNumber f) old)
refused_number f old mid new (Ok v) start s n p k num stops none at is = tt
refused_number f old mid new (Err e) start s n p k num stops none at is =
    mismatched None old mid new e start s p k at (subst (λ x. NotNumber f x None (Some [])) (sym k.split) (other_number new.unread num stops none)) is

pub refused_text : {V C : Type 0} (other : Option ErrorCode) (f : List ℕ → Bool → Option C) (old mid new : State) (result : Result V Error) (start : ℕ) (s u : List ℕ) (escape_free : Bool) → PassedGap old mid → TookText mid s new → Str s u escape_free → f u escape_free ≡ None
    → StartsAt mid start → IsErrAnd result (IsMismatchOf other new.input start) → IfErr result (RefusedByOrMemory (NotText other f) old)
refused_text other f old mid new (Ok v) start s u escape_free p k str none at is = tt
refused_text other f old mid new (Err e) start s u escape_free p k str none at is =
    mismatched other old mid new e start s p k at (subst (λ x. NotText other f x other (Some [])) (sym k.split) (other_text new.unread str none)) is
