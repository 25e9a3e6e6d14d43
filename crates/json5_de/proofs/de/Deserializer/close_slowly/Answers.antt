use Rattle.std.proofs.Common.{◌∙◌}
use Rattle.json5_read.specs.Brackets.{brackets_of}
use Rattle.json5_de.proofs.OpenClose.{closes, refuses_closing}
use Rattle.json5_de.proofs.ObjectMembers.{signs_of}
use Rattle.json5_de.proofs.BracketSteps.{failed_of}
use Rattle.json5_de.proofs.ReadSteps.{input_of}
use Rattle.json5_de.proofs.de.Deserializer.close_slowly.Goals as goal

pub returns-in-Ok : goal.returns-in-Ok
returns-in-Ok g c = record { closes = closes (brackets_of c.args.kind) (signs_of c.args.kind) c.args.comma_due c.args.self.now c.close.new.self c.in-Ok.ensures.closed; same_text = c.in-Ok.ensures.same_text; failed = tt }

pub returns-in-Err : goal.returns-in-Err
returns-in-Err g c =
    let k = c.in-Err.ensures in
    rw c.refuse.ensures.result (record {
      closes = refuses_closing (brackets_of c.args.kind) (signs_of c.args.kind) c.args.comma_due c.args.self.now c.refuse.new.self c.in-Err.e k.refused k.complete k.before;
      same_text = input_of c.refuse.ensures.state ∙ k.same_text;
      failed = failed_of c.refuse.ensures.state;
    })
