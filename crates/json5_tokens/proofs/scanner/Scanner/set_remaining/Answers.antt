use Rattle.std.proofs.Common.{◌++◌, ap, sym, ◌∙◌}
use Rattle.json5_tokens.specs.Cursor.{Cursor}
use Rattle.json5_tokens.proofs.TextCuts.{cut_left, drop_left, fits_left, whole_split}
use Rattle.json5_tokens.proofs.scanner.Scanner.set_remaining.Goals as goal

pub overflow_sub-self : goal.overflow_sub-self
overflow_sub-self g c =
    let e = ap (λ (s : Cursor). s.unread) c.self.view_is ∙ c.requires.split in
    fits_left _ c.requires.rest c.self.invariant (whole_split c.requires.passed c.requires.rest c.self.invariant e) c.requires.counted

pub invariant_of-self : goal.invariant_of-self
invariant_of-self g c =
    let e = ap (λ (s : Cursor). s.unread) c.self.view_is ∙ c.requires.split in
    record {
      is_text = c.self.invariant.is_text;
      counted = c.self.invariant.counted;
      cut = cut_left _ c.requires.rest c.self.invariant (whole_split c.requires.passed c.requires.rest c.self.invariant e) c.requires.counted;
    }

pub returns : goal.returns
returns g c = λ taken rest split counted.
    let e = ap (λ (s : Cursor). s.unread) c.self.view_is ∙ split in
    let left = drop_left _ rest c.self.invariant (whole_split taken rest c.self.invariant e) counted in
    (record { split = split ∙ ap (λ z. taken ++ z) (sym left); same = ap (λ (s : Cursor). s.input) c.self.view_is }, left)
