use Rattle.cli_tidy.proofs.RefusalsRead.{fault_read, tidied_read}
use Rattle.cli_tidy.proofs.tidied.read_tidied.Goals as goal

pub returns-in-Ok : goal.returns-in-Ok
returns-in-Ok g c =
    let known = g.R.Read.remaining c.args.r.now in
    record {
      read = tidied_read c.args.style.stars c.args.style.last_commas c.args.name.now known c.in-Ok.bytes.items c.in-Ok.ensures.read c.tidied_bytes.result c.tidied_bytes.ensures.tidied;
      stopped = fault_read c.args.style.stars c.args.style.last_commas c.args.name.now known c.in-Ok.bytes.items c.in-Ok.ensures.read c.tidied_bytes.result c.tidied_bytes.ensures.refused;
    }
