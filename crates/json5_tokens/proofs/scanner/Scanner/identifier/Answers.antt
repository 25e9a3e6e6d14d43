use Rattle.std.proofs.Common.{refl, ◌∙◌}
use Rattle.std.specs.Str.{chars}
use Rattle.json5_grammar.specs.Model.ReadTexts.{identifier}
use Rattle.json5_tokens.specs.TokenFaults.{FaultyName}
use Rattle.json5_tokens.proofs.ScanFaults.{refusal_in, refused}
use Rattle.json5_tokens.proofs.ScanTokens.{left_counted, leaves_rest, name_taken, name_faulty, escape_free_name_memory}
use Rattle.json5_tokens.proofs.scanner.Scanner.identifier.Goals as goal

pub fault-requires : goal.fault-requires
fault-requires g c = refusal_in FaultyName c.args.self.now c.in-Err.refusal (identifier (chars c.rest.result.now)) (name_faulty _ _ c.rest.ensures) c.in-Err.ensures.refused

pub returns-in-Err : goal.returns-in-Err
returns-in-Err g c = record {
  taken = tt;
  stops = tt;
  refused = refused FaultyName c.args.self.now c.fault.result c.in-Err.refusal (identifier (chars c.rest.result.now)) (name_faulty _ _ c.rest.ensures) c.in-Err.ensures.refused c.fault.ensures;
  kept = refl;
  escape_free = λ s u r d split is_name stops. absurd (escape_free_name_memory (chars c.rest.result.now) c.args.self.now.unread s u r d c.in-Err.refusal c.rest.ensures c.in-Err.ensures.refused c.in-Err.ensures.memory split is_name stops);
}

pub set_remaining-requires : goal.set_remaining-requires
set_remaining-requires g c =
    let given = c.in-Ok.ensures in
    let k = name_taken (chars c.rest.result.now) c.args.self.now.unread given.spelled (chars c.in-Ok.rest.now) given.escape_free c.rest.ensures given.read in
    leaves_rest k.name c.in-Ok.rest.now k.split given.text

pub returns : goal.returns
returns g c =
    let given = c.in-Ok.ensures in
    let k = name_taken (chars c.rest.result.now) c.args.self.now.unread given.spelled (chars c.in-Ok.rest.now) given.escape_free c.rest.ensures given.read in
    let l = c.set_remaining.ensures k.name (chars c.in-Ok.rest.now) k.split (left_counted c.in-Ok.rest.now given.text) in
    record {
      taken = (k.name, given.spelled, given.escape_free, l.0, k.is_name, given.is_text.borrowed, given.is_text.bytes);
      stops = (k.stops.0, k.stops.1, l.1 ∙ k.stops.2, k.stops.3);
      refused = tt;
      kept = tt;
      escape_free = λ s u r d split is_name stops. refl;
    }
