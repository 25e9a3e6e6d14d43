use Rattle.json5_io.proofs.Refusals.{bytes_fault, all_read, handed}
use Rattle.json5_io.proofs.readers.read_text.Goals as goal

pub returns-in_err-text_of_bytes-clause-refused : goal.returns-in_err-text_of_bytes-clause-refused
returns-in_err-text_of_bytes-clause-refused g c =
    let known = g.R.Read.remaining c.args.reader.now in
    let all = all_read known c.new-bytes.result.items c.read_to_end.new.buf.items c.deref.result.now c.in_default.ensures.bytes c.new-bytes.ensures.items c.deref.ensures.value in
    handed known _ _ c.from_residual-in_err-text_of_bytes.ensures.1 (bytes_fault known _ _ all c.in_err-text_of_bytes.ensures)
