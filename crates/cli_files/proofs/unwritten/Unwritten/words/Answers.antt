use Rattle.std.proofs.Common.{refl}
use Rattle.cli_files.proofs.NamesShown.{nothing_shown}
use Rattle.cli_files.proofs.unwritten.Unwritten.words.Goals as goal

pub returns-in-Refused : goal.returns-in-Refused
returns-in-Refused c = rw (c.in-Refused.is, nothing_shown, c.words.ensures) refl

pub returns-in-Changed : goal.returns-in-Changed
returns-in-Changed c = rw (c.in-Changed.is, nothing_shown) refl

pub returns-in-NoMemory : goal.returns-in-NoMemory
returns-in-NoMemory c = rw (c.in-NoMemory.is, nothing_shown) refl
