use Rattle.std.proofs.Common.{None, arith}
use Rattle.std.proofs.lemmas.Str.Pattern.{strip_prefix_char}
use Rattle.cli_files.specs.Folders.{point}
use Rattle.cli_files.proofs.NamesEnded.{whole_ending}
use Rattle.cli_files.proofs.endings.ending_of.Goals as goal

pub returns-in-None : goal.returns-in-None
returns-in-None c = whole_ending c.args.value.now (strip_prefix_char point c.args.value.now None c.in-None.ensures.cases (omega arith)) c.unless_empty-in-None.result c.unless_empty-in-None.ensures
