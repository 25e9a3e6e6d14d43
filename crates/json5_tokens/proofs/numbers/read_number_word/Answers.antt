use Rattle.std.specs.Str.{chars}
use Rattle.std.proofs.lemmas.Result.{err_from_is_err_and}
use Rattle.json5_tokens.specs.NumberParts.{scanned_of}
use Rattle.json5_tokens.proofs.NumberSteps.{word_read, word_refused}
use Rattle.json5_tokens.proofs.ScanFaults.{code_known}
use Rattle.json5_tokens.proofs.numbers.read_number_word.Goals as goal

pub returns-in_err-rest : goal.returns-in_err-rest
returns-in_err-rest c =
    let p = err_from_is_err_and c.from_residual.result c.from_residual.ensures.1 in
    let refusal = c.in_err-rest.ensures in
    rw (p.1, p.2) (record {
      refused = word_refused (scanned_of c.args.number) (chars c.args.letters.now) (chars c.args.text.now) c.in_err-rest.field-0.0 refusal.refused;
      known = code_known c.in_err-rest.field-0.0 refusal.known;
    })

pub returns : goal.returns
returns c = record {
  read = word_read (scanned_of c.args.number) (chars c.args.letters.now) (chars c.args.text.now) _ c.in_ok-rest.ensures.read;
  text = c.in_ok-rest.ensures.text;
}
