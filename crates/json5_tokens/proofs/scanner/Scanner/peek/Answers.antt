use Rattle.std.proofs.Common.{◌∙◌, ap}
use Rattle.std.specs.Prelude.{slice_get, Some}
use Rattle.json5_tokens.specs.Cursor.{Cursor}
use Rattle.json5_tokens.proofs.TextCuts.{ascii_next}
use Rattle.json5_tokens.proofs.scanner.Scanner.peek.Goals as goal

pub returns-then-bytes-self-lt128 : goal.returns-then-bytes-self-lt128
returns-then-bytes-self-lt128 g c =
    let same = c.as_bytes-bytes.ensures.value ∙ c.as_text.ensures in
    ap Some (c.from.ensures)
    ∙ ascii_next same c.self.invariant c.if-self-bytes.true c.if-bytes-self-lt128.true
    ∙ ap (λ (s : Cursor). slice_get s.unread 0) c.self.view_is
