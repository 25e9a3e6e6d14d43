use Rattle.std.proofs.Common.{ap, sym, ◌∙◌}
use Rattle.std.specs.Prelude.{slice_get}
use Rattle.json5_read.proofs.ModelSteps.{some_next}
use Rattle.json5_de.specs.State.{State}
use Rattle.json5_de.proofs.de.Deserializer.at_text.Goals as goal

pub returns-in-Some-clause-found : goal.returns-in-Some-clause-found
returns-in-Some-clause-found g c = λ is.
    let next = c.peek.ensures ∙ ap (λ (s : State). slice_get s.unread 0) c.self.view_is in
    let (r, split) = some_next c.args.self.now.unread c.in-Some.c (sym next ∙ c.in-Some.is) in
    record { char = c.in-Some.c; more = r; split = split; is_first = sym c.is_quote.ensures ∙ is }
