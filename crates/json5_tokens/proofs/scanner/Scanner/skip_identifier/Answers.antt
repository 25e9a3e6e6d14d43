use Rattle.std.proofs.Common.{refl, ◌∙◌}
use Rattle.std.specs.Str.{chars}
use Rattle.json5_grammar.specs.Model.ReadTexts.{identifier}
use Rattle.json5_tokens.specs.TokenFaults.{FaultyName}
use Rattle.json5_tokens.proofs.ScanFaults.{refusal_in, refused}
use Rattle.json5_tokens.proofs.ScanTokens.{left_counted, leaves_rest, name_taken, name_faulty, name_never}
use Rattle.json5_tokens.proofs.scanner.Scanner.skip_identifier.Goals as goal

pub fault-requires : goal.fault-requires
fault-requires g c = refusal_in FaultyName c.args.self.now c.in-Err.refusal (identifier (chars c.rest.result.now)) (name_faulty _ _ c.rest.ensures) c.in-Err.ensures.refused

pub returns-in-Err : goal.returns-in-Err
returns-in-Err g c = record {
  taken = tt;
  stops = tt;
  refused = refused FaultyName c.args.self.now c.fault.result c.in-Err.refusal (identifier (chars c.rest.result.now)) (name_faulty _ _ c.rest.ensures) c.in-Err.ensures.refused c.fault.ensures;
  kept = refl;
  memory = λ s u r d escape_free split is_name stops. absurd (name_never (chars c.rest.result.now) c.args.self.now.unread s u r d escape_free c.in-Err.refusal c.rest.ensures c.in-Err.ensures.refused c.in-Err.ensures.known split is_name stops);
}

pub set_remaining-requires : goal.set_remaining-requires
set_remaining-requires g c =
    let given = c.in-Ok.ensures in
    let k = name_taken (chars c.rest.result.now) c.args.self.now.unread given.value.0 (chars c.in-Ok.rest.now) given.value.1 c.rest.ensures given.read in
    leaves_rest k.name c.in-Ok.rest.now k.split given.text

pub returns : goal.returns
returns g c =
    let given = c.in-Ok.ensures in
    let k = name_taken (chars c.rest.result.now) c.args.self.now.unread given.value.0 (chars c.in-Ok.rest.now) given.value.1 c.rest.ensures given.read in
    let l = c.set_remaining.ensures k.name (chars c.in-Ok.rest.now) k.split (left_counted c.in-Ok.rest.now given.text) in
    record {
      taken = (k.name, given.value.0, given.value.1, l.0, k.is_name);
      stops = (k.stops.0, k.stops.1, l.1 ∙ k.stops.2, k.stops.3);
      refused = tt;
      kept = tt;
      memory = λ s u r d escape_free split is_name stops. refl;
    }
