use Rattle.std.proofs.Common.{inl}
use Rattle.json5_edit.proofs.Refused.{faulty}
use Rattle.json5_edit.proofs.places.refusal.Goals as goal

pub returns-in-Ok : goal.returns-in-Ok
returns-in-Ok c = inl (c.requires c.in-Ok.ensures.sound).kind

pub returns-in-Err : goal.returns-in-Err
returns-in-Err c = faulty c.args.text.now _ c.in-Err.ensures.refused
