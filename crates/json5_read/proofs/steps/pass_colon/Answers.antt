use Rattle.std.proofs.Common.{◌∙◌, refl}
use Rattle.std.proofs.lemmas.Result.{err_from_is_err_and}
use Rattle.json5_read.proofs.FoundEntries.{gap_of, sign_next, refused_blanks, missed_colon}
use Rattle.json5_read.proofs.ModelSteps.{same_of}
use Rattle.json5_read.proofs.steps.pass_colon.Goals as goal

pub returns-in_err-skip_blank : goal.returns-in_err-skip_blank
returns-in_err-skip_blank g c =
    let (y, is, from) = err_from_is_err_and c.from_residual.result c.from_residual.ensures.1 in
    rw (is, from) (record { found = tt; refused = refused_blanks c.args.scanner.now c.in_err-skip_blank.field-0.0 c.in_err-skip_blank.ensures.refused; same_text = same_of c.in_err-skip_blank.ensures.kept })

pub returns-then-not-eat : goal.returns-then-not-eat
returns-then-not-eat g c =
    let passed = c.in_ok-skip_blank.ensures.passed in
    let kept = c.if-not-eat.ensures.kept refl in
    record { found = tt; refused = missed_colon c.args.scanner.now c.skip_blank.new.self c.eat.new.self c.unexpected_here.result passed kept.0 kept.1 c.unexpected_here.ensures; same_text = same_of kept.0 ∙ passed.1.same }

pub returns : goal.returns
returns g c =
    let passed = c.in_ok-skip_blank.ensures.passed in
    let took = c.if-not-eat.ensures.taken refl in
    let colon = sign_next 58 c.args.scanner.now.unread c.skip_blank.new.self.unread c.eat.new.self.unread (gap_of c.args.scanner.now c.skip_blank.new.self passed) took.split in
    record { found = (colon, took.same ∙ passed.1.same); refused = tt; same_text = tt }
