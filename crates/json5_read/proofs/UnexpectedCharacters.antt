-- Characters that aren't expected, and the signs and codes of brackets.
use Rattle.std.proofs.Common.{◌≡◌, ℕ, List, [], ◌++◌, ap, sym, ◌∙◌, subst, Option, Some, None}
use Rattle.std.specs.Prelude.{slice_get}
use Rattle.std.proofs.lemmas.List.{append-nil}
use Rattle.json5_grammar.specs.declared.error_code.ErrorCode.{ErrorCode}
use Rattle.json5_grammar.specs.declared.position.Position.{Position}
use Rattle.json5_grammar.specs.Faults.Fronts.{opening, closing}
use Rattle.json5_grammar.specs.Faults.Positions.{position_after}
use Rattle.json5_grammar.specs.Model.ReadSteps.{eof_in}
use Rattle.json5_types.specs.declared.error.Error.{Error}
use Rattle.json5_tokens.specs.Cursor.{Cursor, Refused}
use Rattle.json5_types.specs.Errors.{code, kind_of, error_position}
use Rattle.json5_read.specs.declared.brackets.BracketPair.{BracketPair}
use Rattle.json5_read.specs.declared.brackets.BracketKind.{BracketKind as OwnKind}
use Rattle.json5_read.specs.declared.brackets.BracketKind.TheVariants as kind
use Rattle.json5_read.specs.Brackets.{bracket_of, brackets_of}
use Rattle.json5_read.specs.ModelSteps.{Unexpected, at_end, at_char}
use Rattle.json5_read.proofs.ModelSteps.{none_next, some_next}

-- ---- what is next

-- the end is refused
pub refused_end : {ends differs : ErrorCode} (s : Cursor) (e : Error) (next : Option ℕ) → next ≡ slice_get s.unread 0 → next ≡ None → kind_of e ≡ code ends → error_position e ≡ None → Refused (Unexpected ends differs) s e
refused_end {ends = ends} {differs = differs} s e next peeked is kind place = record {
  reason = Some ends;
  place = None;
  fault = subst (λ x. Unexpected ends differs x (Some ends) None) (sym (none_next s.unread (sym peeked ∙ is))) at_end;
  says = kind;
  placed = place;
}

-- a character is refused
pub refused_char : {ends differs : ErrorCode} (s : Cursor) (e : Error) (next : Option ℕ) (c : ℕ) (p : Position) → next ≡ slice_get s.unread 0 → next ≡ Some c → kind_of e ≡ code differs → error_position e ≡ Some p
    → ((before : List ℕ) → s.input ≡ before ++ s.unread → p ≡ position_after before) → Refused (Unexpected ends differs) s e
refused_char {ends = ends} {differs = differs} s e next c p peeked is kind place there =
    let (r, x) = some_next s.unread c (sym peeked ∙ is) in
    record {
      reason = Some differs;
      place = Some [];
      fault = subst (λ x. Unexpected ends differs x (Some differs) (Some [])) (sym x) (at_char c r);
      says = kind;
      placed = λ before split. place ∙ ap (λ q. Some q) (there before split) ∙ ap (λ q. Some (position_after q)) (sym (append-nil before));
    }

-- ---- signs

pub opening_is : (k : OwnKind) (b : BracketPair) → b ≡ brackets_of k → b.opening ≡ opening (bracket_of k)
opening_is kind.Array b e = ap (λ (b : BracketPair). b.opening) e
opening_is kind.Object b e = ap (λ (b : BracketPair). b.opening) e

pub closing_is : (k : OwnKind) (b : BracketPair) → b ≡ brackets_of k → b.closing ≡ closing (bracket_of k)
closing_is kind.Array b e = ap (λ (b : BracketPair). b.closing) e
closing_is kind.Object b e = ap (λ (b : BracketPair). b.closing) e

pub ends_is : (k : OwnKind) (b : BracketPair) → b ≡ brackets_of k → b.ends ≡ eof_in (bracket_of k)
ends_is kind.Array b e = ap (λ (b : BracketPair). b.ends) e
ends_is kind.Object b e = ap (λ (b : BracketPair). b.ends) e
