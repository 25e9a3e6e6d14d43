use Rattle.std.proofs.Common.{subst, sym}
use Rattle.std.specs.Str.{chars}
use Rattle.json5_edit.specs.Changes.{ChangesBy, Gains, StaysPlainQuoted}
use Rattle.json5_edit.specs.Places.{IsValue}
use Rattle.json5_edit.specs.Spots.{EndTokens}
use Rattle.json5_edit.proofs.Removed.{due_tokens}
use Rattle.json5_edit.proofs.changing.added_by_lines.Goals as goal

pub grown-requires : goal.grown-requires
grown-requires c = subst (EndTokens c.args.old.now) (sym c.due_at.ensures) (due_tokens c.args.end c.utf8.old c.requires)

pub returns : goal.returns
returns c =
    let is = c.as_str-text.ensures.value in (
      (subst (ChangesBy (Gains c.args.kind c.args.key.now c.args.value.now) c.args.old.now) is c.in_ok-check_added.ensures, c.in_ok-new.ensures, subst (λ x. IsValue c.args.room (chars x)) is c.in_ok-check_fits.ensures),
      subst (StaysPlainQuoted c.args.collection.now.names c.args.collection.now.document.now c.args.value.now) is c.in_ok-check_as_plain.ensures,
    )
