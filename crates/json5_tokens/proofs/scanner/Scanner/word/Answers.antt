use Rattle.std.proofs.Common.{refl}
use Rattle.std.specs.Str.{chars}
use Rattle.json5_grammar.specs.Model.Reading.{word_at}
use Rattle.json5_tokens.specs.TokenFaults.{FaultyWord}
use Rattle.json5_tokens.proofs.ScanFaults.{refusal_in, coded}
use Rattle.json5_tokens.proofs.ScanTokens.{left_counted, leaves_rest, word_passed, word_faulty}
use Rattle.json5_tokens.proofs.scanner.Scanner.word.Goals as goal

pub fault-requires : goal.fault-requires
fault-requires g c =
    refusal_in (FaultyWord (chars c.args.word.now) c.args.ends c.args.differs) c.args.self.now c.in-Err.refusal (word_at c.args.ends c.args.differs tt (chars c.args.word.now) (chars c.rest.result.now))
    (word_faulty _ _ _ _ _ c.rest.ensures) c.in-Err.ensures.refused

pub returns-in-Err : goal.returns-in-Err
returns-in-Err g c = record {
  taken = tt;
  refused = coded (FaultyWord (chars c.args.word.now) c.args.ends c.args.differs) c.args.self.now c.fault.result c.in-Err.refusal (word_at c.args.ends c.args.differs tt (chars c.args.word.now) (chars c.rest.result.now))
      (word_faulty _ _ _ _ _ c.rest.ensures) c.in-Err.ensures.refused c.in-Err.ensures.known c.fault.ensures;
  kept = refl;
}

pub set_remaining-requires : goal.set_remaining-requires
set_remaining-requires g c = leaves_rest (chars c.args.word.now) c.in-Ok.rest.now (word_passed _ _ _ _ _ _ c.rest.ensures c.in-Ok.ensures.read) c.in-Ok.ensures.text

pub returns : goal.returns
returns g c = record {
  taken = (c.set_remaining.ensures (chars c.args.word.now) (chars c.in-Ok.rest.now) (word_passed _ _ _ _ _ _ c.rest.ensures c.in-Ok.ensures.read) (left_counted c.in-Ok.rest.now c.in-Ok.ensures.text)).0;
  refused = tt;
  kept = tt;
}
