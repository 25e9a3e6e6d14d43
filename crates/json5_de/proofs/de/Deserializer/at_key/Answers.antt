use Rattle.std.proofs.Common.{◌≡◌, ◌<◌, true, ap, sym, ◌∙◌, arith}
use Rattle.std.specs.Prelude.{◌==◌, ◌||◌, slice_get}
use Rattle.std.proofs.Math.Bool.{or-true}
use Rattle.std.proofs.lemmas.Bool.Decides.{nat_tests}
use Rattle.json5_grammar.specs.Language.Characters.{backslash}
use Rattle.json5_grammar.specs.Language.Strings.{is_quote}
use Rattle.json5_tokens.specs.ByteRuns.{is_ascii_start}
use Rattle.json5_tokens.proofs.AsciiNames.{ascii_start}
use Rattle.json5_read.proofs.ModelSteps.{some_next}
use Rattle.json5_de.specs.State.{State}
use Rattle.json5_de.proofs.de.Deserializer.at_key.Goals as goal

pub returns-then-matches-clause-found : goal.returns-then-matches-clause-found
returns-then-matches-clause-found g c = λ is.
    let x = c.in-Some.c in
    let next = c.peek.ensures ∙ ap (λ (s : State). slice_get s.unread 0) c.self.view_is in
    let (r, split) = some_next c.args.self.now.unread x (sym next ∙ c.in-Some.is) in
    let low : x < 128 = grind (arith, nat_tests, c.if-matches.true) in
    let front : (is_quote x || ((x == backslash) || is_ascii_start x)) ≡ true = grind (arith, nat_tests, c.if-matches.true) in
    record { char = x; more = r; split = split; is_first = ap (λ b. is_quote x || ((x == backslash) || b)) (ascii_start x low) ∙ front }

pub returns-else-matches-clause-found : goal.returns-else-matches-clause-found
returns-else-matches-clause-found g c = λ is.
    let x = c.in-Some.c in
    let next = c.peek.ensures ∙ ap (λ (s : State). slice_get s.unread 0) c.self.view_is in
    let (r, split) = some_next c.args.self.now.unread x (sym next ∙ c.in-Some.is) in
    let first = ap (λ b. is_quote x || ((x == backslash) || b)) (sym c.is_json5_identifier_start.ensures ∙ is) ∙ ap (λ b. is_quote x || b) (or-true (x == backslash)) ∙ or-true (is_quote x) in
    record { char = x; more = r; split = split; is_first = first }
