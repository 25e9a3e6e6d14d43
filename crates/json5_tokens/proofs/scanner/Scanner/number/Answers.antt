use Rattle.std.proofs.Common.{refl, sym, subst}
use Rattle.std.specs.Str.{chars}
use Rattle.json5_grammar.specs.Language.Characters.{NotBegun}
use Rattle.json5_grammar.specs.Language.Numbers.{lengthens}
use Rattle.json5_grammar.specs.Model.ReadNumbers.{number}
use Rattle.json5_types.specs.NumberMeanings.{number_of}
use Rattle.json5_tokens.specs.TokenFaults.{FaultyNumber}
use Rattle.json5_tokens.proofs.ScanFaults.{refusal_in, refused}
use Rattle.json5_tokens.proofs.ScanNumbers.{number_taken, number_faulty, number_memory}
use Rattle.json5_tokens.proofs.ScanTokens.{left_counted, leaves_rest}
use Rattle.json5_tokens.proofs.scanner.Scanner.number.Goals as goal

pub fault-requires : goal.fault-requires
fault-requires g c = refusal_in FaultyNumber c.args.self.now c.in-Err.refusal (number (chars c.rest.result.now)) (number_faulty _ _ c.rest.ensures) c.in-Err.ensures.refused

pub returns-in-Err : goal.returns-in-Err
returns-in-Err g c = record {
  taken = tt;
  refused = refused FaultyNumber c.args.self.now c.fault.result c.in-Err.refusal (number (chars c.rest.result.now)) (number_faulty _ _ c.rest.ensures) c.in-Err.ensures.refused c.fault.ensures;
  kept = refl;
  memory = λ s r n split num stops free. absurd (number_memory (chars c.rest.result.now) c.args.self.now.unread s r n c.in-Err.refusal c.rest.ensures c.in-Err.ensures.refused c.in-Err.ensures.memory split num stops free);
}

pub set_remaining-requires : goal.set_remaining-requires
set_remaining-requires g c =
    let k = number_taken (chars c.rest.result.now) c.args.self.now.unread (chars c.in-Ok.rest.now) (number_of c.in-Ok.token) c.rest.ensures c.in-Ok.ensures.read in
    leaves_rest k.literal c.in-Ok.rest.now k.split c.in-Ok.ensures.text

pub returns : goal.returns
returns g c =
    let k = number_taken (chars c.rest.result.now) c.args.self.now.unread (chars c.in-Ok.rest.now) (number_of c.in-Ok.token) c.rest.ensures c.in-Ok.ensures.read in
    let l = c.set_remaining.ensures k.literal (chars c.in-Ok.rest.now) k.split (left_counted c.in-Ok.rest.now c.in-Ok.ensures.text) in
    record { taken = (k.literal, l.0, k.is_number, subst (NotBegun (lengthens k.literal)) (sym l.1) k.stops); refused = tt; kept = tt; memory = λ s r n split num stops free. refl }
