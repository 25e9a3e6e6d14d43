use Rattle.std.proofs.Common.{subst}
use Rattle.std.specs.Str.{chars}
use Rattle.json5_edit.specs.Places.{IsValue}
use Rattle.json5_lexemes.specs.Plain.{KeepsPlain}
use Rattle.json5_edit.proofs.sorting.sorted.Goals as goal

pub returns : goal.returns
returns c = (c.in_ok-new.ensures, subst (λ x. IsValue c.args.room (chars x)) c.as_str-2.ensures.value c.in_ok-check_fits.ensures, subst (KeepsPlain c.args.old.now) c.as_str.ensures.value c.in_ok-check_plain.ensures)
