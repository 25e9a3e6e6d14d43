use Rattle.json5_serde.proofs.BytesRead.{bytes_read, bytes_refused}
use Rattle.json5_serde.proofs.bytes.from_slice_within.Goals as goal

pub returns-in_err-text : goal.returns-in_err-text
returns-in_err-text g c = bytes_refused c.args.limit c.args.bytes.now _ _ c.from_residual.ensures.1 c.in_err-text.ensures.1

pub returns : goal.returns
returns g c =
    bytes_read c.args.limit c.args.bytes.now c.in_ok-text.text.now c.from_str_within.result c.in_ok-text.ensures.0 c.in_ok-text.ensures.1 c.from_str_within.ensures
