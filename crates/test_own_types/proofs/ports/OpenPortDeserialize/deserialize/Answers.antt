use Rattle.std.proofs.Common.{ap, inr, rules}
use Rattle.json5.proofs.Refinement.{accepted_completes, refused_completes, refused_at}
use Rattle.test_own_types.specs.Accepted.{above_zero}
use Rattle.test_own_types.proofs.ports.OpenPortDeserialize.deserialize.Goals as goal

pub returns-in_err-port-clause-complete : goal.returns-in_err-port-clause-complete
returns-in_err-port-clause-complete g c = search (rules, accepted_completes above_zero c.in_err-port.ensures.reads.complete)

pub returns-then-port-eq0-clause-complete : goal.returns-then-port-eq0-clause-complete
returns-then-port-eq0-clause-complete g c = refused_completes _ above_zero c.in_ok-port.ensures.reads.complete (ap above_zero c.if-port-eq0.true)

pub returns-then-port-eq0-clause-refused : goal.returns-then-port-eq0-clause-refused
returns-then-port-eq0-clause-refused g c =
    let port = c.in_ok-port.ensures in
    inr (inr (refused_at _ above_zero c.args.de.now c.deserialize.new.de _ _ _ _ _ port.reads.sound port.spans (ap above_zero c.if-port-eq0.true) c.position_of-place.ensures.inside c.in_ok-custom_at.ensures))
