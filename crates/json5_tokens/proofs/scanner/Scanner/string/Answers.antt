use Rattle.std.proofs.Common.{refl}
use Rattle.std.specs.Str.{chars}
use Rattle.json5_tokens.specs.ScanTexts.{string_at}
use Rattle.json5_tokens.specs.TokenFaults.{FaultyString}
use Rattle.json5_tokens.proofs.ScanFaults.{refusal_in, refused}
use Rattle.json5_tokens.proofs.ScanTokens.{left_counted, leaves_rest, string_taken, string_faulty, escape_free_memory}
use Rattle.json5_tokens.proofs.scanner.Scanner.string.Goals as goal

pub fault-requires : goal.fault-requires
fault-requires g c = refusal_in FaultyString c.args.self.now c.in-Err.refusal (string_at (chars c.rest.result.now)) (string_faulty _ _ c.rest.ensures) c.in-Err.ensures.refused

pub returns-in-Err : goal.returns-in-Err
returns-in-Err g c = record {
  taken = tt;
  refused = refused FaultyString c.args.self.now c.fault.result c.in-Err.refusal (string_at (chars c.rest.result.now)) (string_faulty _ _ c.rest.ensures) c.in-Err.ensures.refused c.fault.ensures;
  kept = refl;
  escape_free = λ s u r split is_string. absurd (escape_free_memory (chars c.rest.result.now) c.args.self.now.unread s u r c.in-Err.refusal c.rest.ensures c.in-Err.ensures.refused c.in-Err.ensures.memory split is_string);
}

pub set_remaining-requires : goal.set_remaining-requires
set_remaining-requires g c =
    let given = c.in-Ok.ensures in
    let k = string_taken (chars c.rest.result.now) c.args.self.now.unread given.spelled (chars c.in-Ok.rest.now) given.escape_free c.rest.ensures given.read in
    leaves_rest k.string c.in-Ok.rest.now k.split given.text

pub returns : goal.returns
returns g c =
    let given = c.in-Ok.ensures in
    let k = string_taken (chars c.rest.result.now) c.args.self.now.unread given.spelled (chars c.in-Ok.rest.now) given.escape_free c.rest.ensures given.read in
    let l = c.set_remaining.ensures k.string (chars c.in-Ok.rest.now) k.split (left_counted c.in-Ok.rest.now given.text) in
    record {
      taken = (k.string, given.spelled, given.escape_free, l.0, k.is_string, (given.is_text.borrowed, given.is_text.bytes));
      refused = tt;
      kept = tt;
      escape_free = λ s u r split is_string. refl;
    }
