use Rattle.std.proofs.Common.{ap, refl, sym, subst}
use Rattle.std.specs.Str.{chars}
use Rattle.json5_grammar.specs.Language.Names.{Key}
use Rattle.json5_tokens.specs.Cursor.{Cursor}
use Rattle.json5_tokens.specs.ScanKeys.{key_ahead}
use Rattle.json5_tokens.specs.TokenFaults.{FaultyKey}
use Rattle.json5_tokens.proofs.ScanFaults.{refusal_in, refused}
use Rattle.json5_tokens.proofs.TextTokens.{unread_fits, token_inside}
use Rattle.json5_tokens.proofs.ScanKeys.{key_taken, key_faulty, key_memory, escape_free_key_memory, made_of_memory}
use Rattle.json5_tokens.proofs.ScanTokens.{left_counted, leaves_rest}
use Rattle.json5_tokens.proofs.scanner.Scanner.key.Goals as goal

pub fault-requires : goal.fault-requires
fault-requires g c = refusal_in FaultyKey c.args.self.now c.in-Err.refusal (key_ahead (chars c.rest.result.now)) (key_faulty _ _ c.rest.ensures) c.in-Err.ensures.refused

pub returns-in-Err : goal.returns-in-Err
returns-in-Err g c = record {
  taken = tt;
  refused = refused FaultyKey c.args.self.now c.fault.result c.in-Err.refusal (key_ahead (chars c.rest.result.now)) (key_faulty _ _ c.rest.ensures) c.in-Err.ensures.refused c.fault.ensures;
  kept = refl;
  complete = λ s u r escape_free split is_key. made_of_memory c.args.self.now c.in-Err.refusal c.fault.result
      (key_memory (chars c.rest.result.now) c.args.self.now.unread s u r escape_free c.in-Err.refusal c.rest.ensures c.in-Err.ensures.refused split is_key) c.fault.ensures;
  escape_free = λ s u r split is_key. absurd (escape_free_key_memory (chars c.rest.result.now) c.args.self.now.unread s u r c.in-Err.refusal c.rest.ensures c.in-Err.ensures.refused c.in-Err.ensures.memory split is_key);
}

pub set_remaining-requires : goal.set_remaining-requires
set_remaining-requires g c =
    let given = c.in-Ok.ensures in
    let k = key_taken (chars c.rest.result.now) c.args.self.now.unread given.spelled (chars c.in-Ok.rest.now) given.escape_free c.rest.ensures given.read in
    leaves_rest k.key c.in-Ok.rest.now k.split given.text

pub returns : goal.returns
returns g c =
    let given = c.in-Ok.ensures in
    let k = key_taken (chars c.rest.result.now) c.args.self.now.unread given.spelled (chars c.in-Ok.rest.now) given.escape_free c.rest.ensures given.read in
    let l = c.set_remaining.ensures k.key (chars c.in-Ok.rest.now) k.split (left_counted c.in-Ok.rest.now given.text) in
    record {
      taken = (
        k.key,
        given.spelled,
        given.escape_free,
        l.0,
        subst (λ z. Key k.key z given.spelled given.escape_free) (sym l.1) k.is_key,
        token_inside c.args.self.now (chars c.rest.result.now) given.spelled given.escape_free c.in-Ok.token c.self.invariant (ap (λ (s : Cursor). s.input) c.self.view_is) (ap (λ (s : Cursor). s.unread) c.self.view_is) c.rest.ensures given.is_text,
      );
      refused = tt;
      kept = tt;
      complete = λ s u r escape_free split is_key. tt;
      escape_free = λ s u r split is_key. refl;
    }

pub read_key-requires : goal.read_key-requires
read_key-requires g c = unread_fits c.args.self.now c.rest.result.now c.self.invariant c.rest.utf8 c.rest.ensures (ap (λ (s : Cursor). s.unread) c.self.view_is)
