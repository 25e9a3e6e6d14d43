use Rattle.json5_de.proofs.ShortReads.{slice_at}
use Rattle.json5_de.proofs.de.Deserializer.short_key_str.Goals as goal

pub returns : goal.returns
returns g c =
    let (u, took, stands) = c.in_ok-span.ensures in
    (u, took, c.borrowed_text_of_span.ensures u (slice_at c.self.inside.scanner c.self.view_is stands))
