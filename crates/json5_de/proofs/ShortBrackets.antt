-- A bracket that is taken by a short way.
use Rattle.std.proofs.Common.{◌≡◌, ℕ, ◌+◌, ◌-◌, ◌<◌, Bool, true, false, List, [], ◌∷◌, ◌++◌, Some, length, refl, ap, sym, ◌∙◌, subst, arith, append_assoc, length-append}
use Rattle.std.specs.Prelude.{Option, None, MatchOption}
use Rattle.std.specs.Str.{encode_utf8_all}
use Rattle.std.proofs.lemmas.Str.{encodes-append}
use Rattle.json5_grammar.specs.Language.Documents.{max_depth}
use Rattle.json5_tokens.specs.Cursor.{Cursor, offset_of}
use Rattle.json5_tokens.specs.ShortWays.{TakesShortSign}
use Rattle.json5_read.specs.Brackets.{brackets_of}
use Rattle.json5_read.specs.declared.brackets.BracketKind.{BracketKind}
use Rattle.json5_read.specs.declared.brackets.BracketPair.{BracketPair}
use Rattle.json5_read.specs.declared.brackets.BracketKind.TheVariants as kind
use Rattle.json5_read.proofs.ModelSteps.{counted_before}
use Rattle.json5_de.specs.Arrays.{Opened, Closed, IsStart}
use Rattle.json5_de.specs.State.{State}
use Rattle.json5_de.proofs.ShortReads.{reader_at}

-- an opening bracket is one byte
one_byte : (k : BracketKind) → length (encode_utf8_all ((brackets_of k).opening ∷ [])) ≡ 1
unfolding lib.Utf8.encode
one_byte kind.Array = refl
one_byte kind.Object = refl

-- the offset before a sign of one byte, from the offset after it
before_sign : (s : Cursor) (sign offset : ℕ) (before : List ℕ) → length (encode_utf8_all (sign ∷ [])) ≡ 1 → offset ≡ offset_of s → s.input ≡ before ++ sign ∷ s.unread → offset - 1 ≡ length (encode_utf8_all before)
before_sign s sign offset before one counted split =
    let after = counted_before s (before ++ sign ∷ []) offset counted (split ∙ sym (append_assoc before (sign ∷ []) s.unread)) in
    let apart = ap length (encodes-append before (sign ∷ [])) ∙ length-append (encode_utf8_all before) (encode_utf8_all (sign ∷ [])) in
    omega (arith, after, apart, one)

-- an opening bracket is taken, so many bytes after the start, or nothing
abbrev pub OpensShort : BracketPair → State → State → Option ℕ → Type 0
OpensShort b old new result = MatchOption result (new ≡ old) (λ start. Opened b old new × IsStart b old.input (record { reader = new; start = start; comma_due = false }))

pub short_open : (k : BracketKind) (before after : Cursor) (level offset : ℕ) (failed : Bool) (old : State) → reader_at before level failed ≡ old → failed ≡ false → level < max_depth → offset ≡ offset_of after
    → TakesShortSign (brackets_of k).opening before after true → OpensShort (brackets_of k) old (reader_at after (level + 1) failed) (Some (offset - 1))
short_open k before after level offset failed old e live room counted (sign, same) =
    subst (λ s. OpensShort (brackets_of k) s (reader_at after (level + 1) failed) (Some (offset - 1))) e (
      record { live = live; room = room; bracket = sign; rest = ap (λ i. record { input = i; unread = after.unread; level = level + 1; failed = failed }) same },
      λ front split. before_sign after (brackets_of k).opening offset front (one_byte k) counted (same ∙ split),
    )

-- a closing bracket is taken, or nothing
abbrev pub ClosesShort : BracketPair → State → State → Bool → Type 0
ClosesShort b old new true = Closed b false old new
ClosesShort b old new false = new ≡ old

pub short_close : (k : BracketKind) (before after : Cursor) (level : ℕ) (failed : Bool) (old : State) → reader_at before level failed ≡ old → failed ≡ false
    → TakesShortSign (brackets_of k).closing before after true → ClosesShort (brackets_of k) old (reader_at after (level - 1) failed) true
short_close k before after level failed old e live (sign, same) =
    subst (λ s. ClosesShort (brackets_of k) s (reader_at after (level - 1) failed) true) e
    (record { live = live; close = sign; rest = ap (λ i. record { input = i; unread = after.unread; level = level - 1; failed = failed }) same })
