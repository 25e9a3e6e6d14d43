use Rattle.std.proofs.Common.{◌+◌, nat_abs, rules}
use Rattle.std.proofs.lemmas.Result.{err_from_is_err_and}
use Rattle.json5_de.specs.Convert.{integer_below}
use Rattle.json5_de.proofs.Ranges.{integer_fits, stored_fits}
use Rattle.json5_de.proofs.TokenKinds.{narrower, out_of_range}
use Rattle.json5_de.proofs.de.Deserializer.read_signed_integer.Goals as goal

pub returns-in_err-start-clause-reads : goal.returns-in_err-start-clause-reads
returns-in_err-start-clause-reads g c =
    let (y, is, from) = err_from_is_err_and c.from_residual.result c.from_residual.ensures.1 in
    rw (is, from) (narrower (integer_below (nat_abs c.args.max + 1)) (λ read. read.1) (λ n. n) c.args.self.now c.read_whole.new.self c.in_err-start.field-0.0 c.in_err-start.ensures.reads)

pub returns-in_default-clause-reads : goal.returns-in_default-clause-reads
returns-in_default-clause-reads g c =
    out_of_range (integer_below (nat_abs c.args.max + 1)) (λ n. n) c.args.self.now c.read_whole.new.self c.refuse_mismatch.new.self c.refuse_mismatch.result c.in_ok-start.start c.in_ok-start.whole c.in_ok-start.ensures.place (search rules) c.refuse_mismatch.ensures.refused c.refuse_mismatch.ensures.failed

pub returns-clause-fits : goal.returns-clause-fits
returns-clause-fits g c = stored_fits c.args.max c.in-Some.integer c.ranges.max (integer_fits c.args.max c.in_ok-start.whole c.in-Some.integer c.requires (search rules))
