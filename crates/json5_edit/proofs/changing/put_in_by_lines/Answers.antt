use Rattle.std.proofs.Common.{refl, subst}
use Rattle.std.specs.Str.{chars}
use Rattle.json5_edit.specs.Changes.{ChangesBy, GainsAt, StaysPlainQuoted}
use Rattle.json5_edit.specs.Places.{IsValue}
use Rattle.json5_edit_style.specs.declared.habits.Names.TheVariants as layout_names
use Rattle.json5_edit.proofs.changing.put_in_by_lines.Goals as goal

pub returns-clause-added : goal.returns-clause-added
returns-clause-added c =
    let is = c.as_str-text.ensures.value in
    (subst (ChangesBy (GainsAt c.args.index c.args.value.now) c.args.old.now) is c.in_ok-check_put_in.ensures, c.in_ok-new.ensures, subst (λ x. IsValue c.args.room (chars x)) is c.in_ok-check_fits.ensures)

pub returns-clause-plain : goal.returns-clause-plain
returns-clause-plain c = subst (StaysPlainQuoted layout_names.Quoted c.args.collection.now.document.now c.args.value.now) c.as_str-text.ensures.value c.in_ok-check_as_plain.ensures refl
