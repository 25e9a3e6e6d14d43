use Rattle.std.proofs.Common.{Some, refl, ap, sym, ◌∙◌}
use Rattle.std.specs.Result.{result_ok}
use Rattle.hex.specs.Hex.{decode_of}
use Rattle.json5_de.proofs.BytesRefused.{judged_undecoded}
use Rattle.json5_de.proofs.de.Deserializer.bytes_of.Goals as goal

pub returns-in-Ok : goal.returns-in-Ok
returns-in-Ok g c = record {
  converts = λ u escape_free is scalars. ap (λ b. result_ok (decode_of b)) (sym (c.token_text.ensures u escape_free is)) ∙ ap result_ok c.in-Ok.ensures.ok ∙ ap Some (sym c.from_vec.ensures);
  kept = refl;
  other = tt;
  refused = tt;
  failed = tt;
}

pub returns-in-Err : goal.returns-in-Err
returns-in-Err g c =
    judged_undecoded c.args.self.now c.undecoded.new.self c.args.found.now c.undecoded.result c.in-Err.error c.token_text.result.now c.token_text.ensures c.in-Err.ensures.err
    c.undecoded.ensures.refused c.undecoded.ensures.failed
