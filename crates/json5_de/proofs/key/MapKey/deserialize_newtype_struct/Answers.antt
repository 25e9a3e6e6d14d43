use Rattle.std.proofs.Common.{ap, refl, ◌∙◌}
use Rattle.std.proofs.lemmas.Result.{err_from_is_err_and}
use Rattle.json5_grammar.proofs.CommonLemmas.{true_false}
use Rattle.json5_de.specs.Lending.{reader_of_key}
use Rattle.json5_de.specs.State.{State}
use Rattle.json5_de.proofs.ReadSteps.{input_of}
use Rattle.json5_de.proofs.key.MapKey.deserialize_newtype_struct.Goals as goal

pub returns-in-Err : goal.returns-in-Err
returns-in-Err g c = rw c.refuse.ensures.result (record {
  reads = record {
    sound = tt;
    complete = c.in-Err.ensures.complete;
    refused = λ live. (reader_of_key c.deserialize_key.new.key, c.in-Err.ensures.refused, c.refuse.ensures.state);
    unprompted = c.in-Err.ensures.unprompted;
    same_text = input_of c.refuse.ensures.state ∙ c.in-Err.ensures.same_text;
    failed = ap (λ (s : State). s.failed) c.refuse.ensures.state;
    before = λ h. absurd (true_false h c.in_ok-check_not_failed.ensures.live.0);
  };
  same_reference = c.in-Err.ensures.same_reference;
})

pub returns-in-Ok : goal.returns-in-Ok
returns-in-Ok g c = record {
  reads = record {
    sound = c.in-Ok.ensures.sound;
    complete = c.in-Ok.ensures.complete;
    refused = tt;
    unprompted = tt;
    same_text = c.in-Ok.ensures.same_text;
    failed = tt;
    before = λ h. absurd (true_false h c.in_ok-check_not_failed.ensures.live.0);
  };
  same_reference = c.in-Ok.ensures.same_reference;
}

pub returns-in_err-check_not_failed : goal.returns-in_err-check_not_failed
returns-in_err-check_not_failed g c =
    let (y, is, from) = err_from_is_err_and c.from_residual.result c.from_residual.ensures.1 in
    let had = c.in_err-check_not_failed.ensures.failed in
    rw (is, from) (record {
      reads = record {
        sound = tt;
        complete = record { memory = λ u escape_free r c live reads converts. absurd (true_false had.0 live) };
        refused = λ live. absurd (true_false had.0 live);
        unprompted = λ live. absurd (true_false had.0 live);
        same_text = refl;
        failed = had.0;
        before = λ h. (had.1, refl);
      };
      same_reference = refl;
    })
