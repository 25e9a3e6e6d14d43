use Rattle.std.proofs.Common.{◌-◌, take, ap, sym, ◌∙◌, subst}
use Rattle.std.specs.Str.{chars, IsCharBoundary}
use Rattle.json5_grammar.specs.Faults.Positions.{position_after}
use Rattle.json5_tokens.specs.Cursor.{Cursor}
use Rattle.json5_tokens.proofs.TextCuts.{cut_left, take_left, fits_left, whole_split}
use Rattle.json5_tokens.proofs.scanner.Scanner.position_where_left.Goals as goal

pub overflow_sub-self-inside : goal.overflow_sub-self-inside
overflow_sub-self-inside g c =
    let e = ap (λ (s : Cursor). s.unread) c.self.view_is ∙ c.requires.split in
    fits_left _ c.requires.rest c.self.invariant (whole_split c.requires.passed c.requires.rest c.self.invariant e) c.requires.counted

pub from_offset-requires : goal.from_offset-requires
from_offset-requires g c =
    let e = ap (λ (s : Cursor). s.unread) c.self.view_is ∙ c.requires.split in
    subst (λ z. IsCharBoundary z (c.self.inside.end - c.args.left)) (sym c.as_text.ensures)
    (cut_left _ c.requires.rest c.self.invariant (whole_split c.requires.passed c.requires.rest c.self.invariant e) c.requires.counted)

pub returns : goal.returns
returns g c = λ before rest split counted.
    c.from_offset.ensures
    ∙ ap (λ z. position_after (chars (take (c.self.inside.end - c.args.left) z))) c.as_text.ensures
    ∙ ap position_after (take_left before rest c.self.invariant (ap (λ (s : Cursor). s.input) c.self.view_is ∙ split) counted)
