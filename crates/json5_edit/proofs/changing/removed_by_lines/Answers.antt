use Rattle.std.proofs.Common.{subst}
use Rattle.std.specs.Str.{chars}
use Rattle.json5_edit.specs.Changes.{ChangesBy}
use Rattle.json5_edit.specs.Comparing.{IsWithout}
use Rattle.json5_edit.specs.Places.{IsValue}
use Rattle.json5_lexemes.specs.Plain.{KeepsPlain}
use Rattle.json5_edit.proofs.changing.removed_by_lines.Goals as goal

pub returns : goal.returns
returns c =
    let is = c.as_str-text.ensures.value in
    (subst (ChangesBy (IsWithout c.args.step) c.args.old.now) is c.in_ok-check_removed.ensures, c.in_ok-new.ensures, subst (λ x. IsValue c.args.room (chars x)) is c.in_ok-check_fits.ensures, subst (KeepsPlain c.args.old.now) is c.in_ok-check_plain.ensures)
