use Rattle.std.proofs.Common.{◌∙◌, arith}
use Rattle.std.proofs.lemmas.Bool.{false≢true}
use Rattle.json5_de.specs.ObjectFaults.{no_value, in_value}
use Rattle.json5_de.proofs.BracketSteps.{level_of, failed_of}
use Rattle.json5_de.proofs.MemberRefusals.{value_found}
use Rattle.json5_de.proofs.ReadSteps.{input_of}
use Rattle.json5_grammar.proofs.CommonLemmas.{true_false}
use Rattle.json5_de.proofs.de.Deserializer.take_member_value.Goals as goal

pub returns-in-None-clause-reads : goal.returns-in-None-clause-reads
returns-in-None-clause-reads g c =
    let k = c.in-None.ensures in
    record {
      sound = tt;
      complete = λ t r v live value shallow converts. absurd (false≢true (k.complete t r live value));
      cause = no_value k.refused;
      steady = record { same_text = k.steady.same_text; unprompted = k.steady.unprompted; before = k.steady.before };
    }

pub returns-in-None-clause-no_memory : goal.returns-in-None-clause-no_memory
returns-in-None-clause-no_memory g c = λ t r v live value shallow converts spare. absurd (false≢true (c.in-None.ensures.complete t r live value))

pub returns-in-Err-clause-reads : goal.returns-in-Err-clause-reads
returns-in-Err-clause-reads g c =
    let at = c.in-Some.ensures.passed in
    let read = c.in-Err.ensures in
    record {
      sound = tt;
      complete = λ t r v live value shallow converts.
          let level = level_of at.rest in
          read.complete.memory t r v (failed_of at.rest ∙ at.live) (value_found c.args.self.now c.take_colon.new.self t r at value) (omega (arith, level, shallow)) converts;
      cause = in_value c.take_colon.new.self at read.refused;
      steady = record {
        same_text = read.same_text ∙ input_of at.rest;
        unprompted = λ live. read.unprompted (failed_of at.rest ∙ live);
        before = λ h. absurd (true_false h at.live);
      };
    }

pub returns-in-Err-clause-no_memory : goal.returns-in-Err-clause-no_memory
returns-in-Err-clause-no_memory g c = λ t r v live value shallow converts spare.
    let at = c.in-Some.ensures.passed in
    let level = level_of at.rest in
    c.in-Err.ensures.no_memory t r v (failed_of at.rest ∙ at.live) (value_found c.args.self.now c.take_colon.new.self t r at value) (omega (arith, level, shallow)) converts spare
