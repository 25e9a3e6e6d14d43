use Rattle.std.proofs.Common.{[], subst, sym}
use Rattle.json5_settings.specs.OldNames.{AreOldNames, no_name}
use Rattle.json5_settings.proofs.OldNamesTold.{all_names, names_more}
use Rattle.json5_settings.proofs.renames.old_names.Goals as goal

pub loop-old-init : goal.loop-old-init
loop-old-init c = subst (AreOldNames c.args.text.now []) (sym c.new-told.ensures.items) no_name

pub loop-old-preserved : goal.loop-old-preserved
loop-old-preserved c = names_more c.loop-old.old-index c.args.names.now c.loop-old.told.items c.add.new.told.items c.in_ok-fault.fault c.loop-old-test.true c.loop-old.invariant c.in_ok-fault.ensures c.in_ok-add.ensures

pub returns : goal.returns
returns c = all_names c.loop-old.old-index c.args.names.now c.loop-old.told.items c.loop-old-test.false c.loop-old.invariant
