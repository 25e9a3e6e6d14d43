use Rattle.std.proofs.Common.{◌∙◌, arith, rules}
use Rattle.std.proofs.Math.Bool.{or-true}
use Rattle.json5_grammar.proofs.CommonLemmas.{true_false}
use Rattle.json5_read.specs.Brackets.{square}
use Rattle.json5_de.specs.AccessCalls.{not_reached, in_element}
use Rattle.json5_de.proofs.BracketSteps.{square_signs, no_element_next, element_found, no_close_found, took_element, level_of, failed_of}
use Rattle.json5_de.proofs.ReadSteps.{input_of}
use Rattle.json5_de.proofs.de.Deserializer.take_element.Goals as goal

pub returns-in-Ok : goal.returns-in-Ok
returns-in-Ok g c =
    let at = rw c.in-Some-true.field-0-test at c.in-Some-true.ensures.sound in
    let (t, took, is) = c.in-Ok.ensures.sound in
    record {
      sound = (t, took_element c.args.comma_due c.args.self.now c.take_step.new.self c.deserialize.new.de t at took, or-true c.args.comma_due, is);
      complete = search rules;
      closing = search rules;
      cause = search rules;
      steady = record { same_text = c.in-Ok.ensures.same_text ∙ input_of at.rest; unprompted = search rules; before = λ h. absurd (true_false h at.live) };
    }

pub returns-in-Err : goal.returns-in-Err
returns-in-Err g c =
    let at = rw c.in-Some-true.field-0-test at c.in-Some-true.ensures.sound in
    let level = level_of at.rest in
    record {
      sound = search rules;
      complete = λ t r v live element shallow converts. c.in-Err.ensures.complete.memory t r v (failed_of at.rest ∙ at.live) (element_found c.args.comma_due c.args.self.now.unread c.take_step.new.self.unread r t at.begun element) (omega (arith, shallow, level)) converts;
      closing = λ r live close. absurd (no_close_found square square_signs c.args.comma_due c.args.self.now.unread c.take_step.new.self.unread r at.begun at.inside close);
      cause = in_element c.take_step.new.self at c.in-Err.ensures.refused;
      steady = record { same_text = c.in-Err.ensures.same_text ∙ input_of at.rest; unprompted = λ live. c.in-Err.ensures.unprompted (failed_of at.rest ∙ live); before = λ h. absurd (true_false h at.live) };
    }

pub returns-in-None : goal.returns-in-None
returns-in-None g c =
    let step = c.in-None.ensures in
    record {
      sound = search rules;
      complete = λ t r v live element shallow converts. absurd (no_element_next square c.args.comma_due c.args.self.now.unread r t (step.nowhere live) element);
      closing = λ r live close. absurd ((step.nowhere live).no_close r close);
      cause = not_reached step.refused;
      steady = record { same_text = step.steady.same_text; unprompted = step.steady.unprompted; before = step.steady.before };
    }
