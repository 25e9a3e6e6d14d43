use Rattle.std.proofs.Common.{sym, subst}
use Rattle.json5_io.specs.Readers.{AreAll}
use Rattle.json5_serde.specs.Bytes.{text}
use Rattle.json5_serde.proofs.BytesRead.{reader_refused}
use Rattle.json5_serde.proofs.bytes.from_reader.Goals as goal

pub returns-in_err-text : goal.returns-in_err-text
returns-in_err-text g c = reader_refused c.args.limit (g.R.Read.remaining c.args.reader.now) _ _ c.from_residual.ensures.1 c.in_err-text.ensures.refused

pub returns : goal.returns
returns g c =
    let known = g.R.Read.remaining c.args.reader.now in
    text c.as_str.result.now (subst (λ b. AreAll known b) (sym c.as_str.ensures.value) c.in_ok-text.ensures.text) c.as_str.utf8 c.from_str_owned.ensures
