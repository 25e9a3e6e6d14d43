use Rattle.std.proofs.Common.{refl, subst}
use Rattle.std.specs.Str.{chars}
use Rattle.json5_edit.specs.Changes.{ChangesBy, GainsMember, StaysPlainQuoted}
use Rattle.json5_edit.specs.Places.{IsValue}
use Rattle.json5_edit_style.specs.declared.habits.Names.TheVariants as layout_names
use Rattle.json5_edit.proofs.inserting.put_by_lines.Goals as goal

pub returns : goal.returns
returns c =
    let is = c.as_str-text.ensures.value in (
      (subst (ChangesBy (GainsMember c.args.before c.args.key.now c.args.value.now) c.args.old.now) is c.in_ok-check_inserted.ensures, c.in_ok-new.ensures, subst (λ x. IsValue c.args.room (chars x)) is c.in_ok-check_fits.ensures),
      subst (StaysPlainQuoted layout_names.Quoted c.args.collection.now.document.now c.args.value.now) is c.in_ok-check_as_plain.ensures refl,
    )
