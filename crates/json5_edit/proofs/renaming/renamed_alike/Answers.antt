use Rattle.std.proofs.Common.{subst}
use Rattle.std.specs.Str.{chars}
use Rattle.json5_edit.specs.Changes.{ChangesBy}
use Rattle.json5_edit.specs.Comparing.{IsRenamed}
use Rattle.json5_edit.specs.Places.{IsValue}
use Rattle.json5_lexemes.specs.Plain.{KeepsPlain}
use Rattle.json5_edit.proofs.renaming.renamed_alike.Goals as goal

pub returns : goal.returns
returns c =
    let is = c.as_str-text.ensures.value in
    (subst (ChangesBy (IsRenamed c.args.name.now c.args.key.now) c.args.old.now) is c.in_ok-check_renamed.ensures, c.in_ok-new.ensures, subst (λ x. IsValue c.args.room (chars x)) is c.in_ok-check_fits.ensures, subst (KeepsPlain c.args.old.now) is c.in_ok-check_plain.ensures)
