use Rattle.std.proofs.Common.{ap, sym, ◌∙◌, subst, true≢false}
use Rattle.std.specs.Str.{chars}
use Rattle.json5_numbers.proofs.ParsedNumbers.{NoNumber, whole_exactly, refused_none}
use Rattle.json5_numbers.proofs.texts.is_number.Goals as goal
use Rattle.json5_numbers.proofs.texts.is_number.Goals.{in-Ok, in-Err}

pub returns : goal.returns
returns c =
    let start = ap (λ z. z.unread) c.new-scanner.ensures in
    elim c.match-skip_number.branch [
      | in-Ok w ↦
          let (s, n, took, num, stops, found) = w.in-Ok.ensures.taken in
          rw w.result-is (whole_exactly (chars c.args.text.now) s c.skip_number.new.self.unread n w.peek.result w.is_none.result (sym start ∙ took.split) num stops w.peek.ensures w.is_none.ensures)
      | in-Err w ↦
          let none = subst NoNumber start (refused_none c.new-scanner.result c.skip_number.new.self w.in-Err.field-0 w.in-Err.ensures) in
          (λ h. absurd (true≢false (sym h ∙ w.result-is)), λ (n, num). absurd (none n num))
    ]
