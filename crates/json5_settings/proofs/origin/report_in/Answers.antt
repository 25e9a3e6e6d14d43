use Rattle.std.proofs.Common.{subst}
use Rattle.json5_edit.specs.Places.{Leads}
use Rattle.json5_settings.proofs.Told.{begins_text, nowhere, told_there}
use Rattle.json5_settings.proofs.origin.report_in.Goals as goal

pub returns-in-Ok-None : goal.returns-in-Ok-None
returns-in-Ok-None c = nowhere c.args.text.now c.args.steps.now (subst (Leads c.args.text.now c.args.steps.now) c.in-Ok-None.field-0-is c.in-Ok-None.ensures.found)

pub told_offset-requires : goal.told_offset-requires
told_offset-requires c = begins_text c.args.text.now c.args.steps.now c.in-Ok-Some.place c.utf8.text (subst (Leads c.args.text.now c.args.steps.now) c.in-Ok-Some.field-0-is c.in-Ok-Some.ensures.found)

pub returns : goal.returns
returns c =
    let (may, at) = c.in_ok-offset.ensures in (
      c.in-Ok-Some.place,
      c.in_ok-offset.offset,
      subst (Leads c.args.text.now c.args.steps.now) c.in-Ok-Some.field-0-is c.in-Ok-Some.ensures.found,
      may,
      told_there c.args.name.now c.args.text.now c.at-error.result c.position_of.result c.in_ok-offset.offset c.in_ok-new.field-0 c.at-error.ensures.place (c.position_of.ensures at) c.in_ok-new.ensures,
    )
