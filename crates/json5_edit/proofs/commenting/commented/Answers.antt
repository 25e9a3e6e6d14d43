use Rattle.std.proofs.Common.{subst}
use Rattle.std.specs.Str.{chars}
use Rattle.json5_edit.specs.Changes.{ChangesBy}
use Rattle.json5_edit.specs.Comparing.{HaveSameEntries}
use Rattle.json5_edit.specs.Places.{IsValue}
use Rattle.json5_edit.proofs.commenting.commented.Goals as goal

pub returns : goal.returns
returns c = (subst (ChangesBy HaveSameEntries c.args.old.now) c.as_str.ensures.value c.in_ok-check_same.ensures, (c.args.room, c.args.start, c.requires, c.in_ok-new.ensures), subst (λ x. IsValue c.args.room (chars x)) c.as_str-2.ensures.value c.in_ok-check_fits.ensures)
