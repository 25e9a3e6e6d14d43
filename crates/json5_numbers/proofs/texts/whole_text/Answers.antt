use Rattle.std.proofs.Common.{ap, sym, ◌∙◌}
use Rattle.std.specs.Str.{chars}
use Rattle.json5_types.specs.NumberMeanings.{number_of}
use Rattle.json5_numbers.proofs.ParsedNumbers.{more_left, first_of_rest}
use Rattle.json5_numbers.proofs.texts.whole_text.Goals as goal

pub returns-in-Ok : goal.returns-in-Ok
returns-in-Ok c =
    let (s, took, num, stops) = c.in-Ok.ensures.taken in
    let (d, r, left) = first_of_rest c.number.new.self.unread c.in-Some.field-0 (sym c.peek.ensures ∙ c.in-Some.is) in
    more_left (chars c.args.text.now) s c.number.new.self.unread (number_of c.in-Ok.number) d r (sym (ap (λ z. z.unread) c.new-scanner.ensures) ∙ took.split) left num stops
