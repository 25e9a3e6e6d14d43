use Rattle.std.proofs.Common.{sym, refl}
use Rattle.cli_files.specs.NameLists.{names_of}
use Rattle.cli_check.specs.CommandWords.{choices_of}
use Rattle.cli_check.proofs.WordsTaken.{name_taken, end_taken, flag_taken}
use Rattle.cli_check.proofs.options.Options.take.Goals as goal

pub returns-in_ok-add_name-in-Name : goal.returns-in_ok-add_name-in-Name
returns-in_ok-add_name-in-Name c = name_taken (choices_of c.args.self.now) _ c.args.word.now (names_of c.args.rest.now) (sym c.in-Name.ensures) c.in_ok-add_name-in-Name.ensures

pub returns-in-End : goal.returns-in-End
returns-in-End c = end_taken (choices_of c.args.self.now) _ c.args.word.now (names_of c.args.rest.now) (sym c.in-End.ensures) refl

pub returns-in-Flag : goal.returns-in-Flag
returns-in-Flag c = flag_taken (choices_of c.args.self.now) _ c.args.word.now (names_of c.args.rest.now) c.in-Flag.flag (sym c.in-Flag.ensures) c.take_flag.ensures

pub returns-in-Other : goal.returns-in-Other
returns-in-Other c = c.take_setting.ensures (sym c.in-Other.ensures)
