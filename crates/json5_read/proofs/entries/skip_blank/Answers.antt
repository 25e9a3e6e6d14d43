use Rattle.json5_read.proofs.TokenSteps.{blanks_step}
use Rattle.json5_read.proofs.entries.skip_blank.Goals as goal

pub returns : goal.returns
returns g c = rw c.leave_error.ensures (blanks_step c.args.scanner.now c.skip_blank.new.self c.skip_blank.result c.requires c.skip_blank.ensures)
