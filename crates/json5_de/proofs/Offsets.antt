-- Offsets in bytes, and the positions at them.
use Rattle.std.proofs.Common.{◌≡◌, ℕ, true, List, ◌++◌, length, ap, sym, ◌∙◌}
use Rattle.std.specs.Str.{all_scalars, encode_utf8_all}
use Rattle.json5_tokens.specs.Cursor.{Cursor, IsOffset, offset_of}
use Rattle.json5_de.specs.State.{State}
use Rattle.json5_read.specs.Offsets.{PositionedAt}
use Rattle.json5_types.specs.declared.error.Error.{Error}
use Rattle.json5_de.specs.ReaderSteps.{IsCount}
use Rattle.json5_read.proofs.ModelSteps.{counted_before}

offset_before : (s : State) (cursor : Cursor) (offset : ℕ) → cursor.input ≡ s.input → cursor.unread ≡ s.unread → offset ≡ offset_of cursor → (before : List ℕ) × (cursor.input ≡ before ++ cursor.unread)
    → IsOffset s.input offset × ((before : List ℕ) → s.input ≡ before ++ s.unread → offset ≡ length (encode_utf8_all before))
offset_before s cursor offset same_input same_unread counted (before, split) = (
  (before, s.unread, sym same_input ∙ split ∙ ap (λ z. before ++ z) same_unread, counted_before cursor before offset counted split),
  λ front whole. counted_before cursor front offset counted (same_input ∙ whole ∙ ap (λ z. front ++ z) (sym same_unread)),
)

pub is_count : (s : State) (cursor : Cursor) (offset : ℕ) → cursor.input ≡ s.input → cursor.unread ≡ s.unread → offset ≡ offset_of cursor → (before : List ℕ) × (cursor.input ≡ before ++ cursor.unread) → all_scalars cursor.unread ≡ true
    → IsCount s offset
is_count s cursor offset same_input same_unread counted (before, split) scalars =
    let there = offset_before s cursor offset same_input same_unread counted (before, split) in
    record {
      offset = there.0;
      counted = there.1;
      suffix = (before, sym same_input ∙ split ∙ ap (λ z. before ++ z) same_unread);
      scalars = ap all_scalars (sym same_unread) ∙ scalars;
    }

-- the same for a narrower IsBefore
pub placed_where : {IsBefore OtherBefore : List ℕ → Type 0} {own e : Error} → ((before : List ℕ) → OtherBefore before → IsBefore before) → PositionedAt IsBefore own e → PositionedAt OtherBefore own e
placed_where is p = record { kind = p.kind; there = p.there; place = p.place; is_there = λ before b. p.is_there before (is before b) }
