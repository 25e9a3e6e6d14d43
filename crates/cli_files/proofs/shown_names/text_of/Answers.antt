use Rattle.cli_files.proofs.NamesShown.{escape_utf8}
use Rattle.cli_files.proofs.shown_names.text_of.Goals as goal

pub from_utf8_unchecked-requires : goal.from_utf8_unchecked-requires
from_utf8_unchecked-requires c = escape_utf8 c.hex_digit.result c.hex_digit-2.result c.hex_digit.ensures.ascii c.hex_digit-2.ensures.ascii
