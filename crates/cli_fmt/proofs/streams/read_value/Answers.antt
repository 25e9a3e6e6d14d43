use Rattle.cli_fmt.proofs.Refusals.{refused_text}
use Rattle.cli_fmt.proofs.streams.read_value.Goals as goal

pub returns : goal.returns
returns g c =
    rw c.at.ensures (refused_text _ c.as_str.result.now c.in-Err.e (rw c.as_str.ensures.value c.in_ok-text.ensures.read) (c.as_str.utf8, c.in-Err.ensures.refused, c.in-Err.ensures.complete))
