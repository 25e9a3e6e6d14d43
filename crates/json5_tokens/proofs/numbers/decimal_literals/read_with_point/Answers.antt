use Rattle.std.specs.Str.{chars}
use Rattle.json5_tokens.specs.NumberParts.{run_of}
use Rattle.json5_tokens.proofs.DecimalLiteralParts.{point_without_digits, point_without_exponent, point_found}
use Rattle.json5_tokens.proofs.numbers.decimal_literals.read_with_point.Goals as goal

pub returns-then-not-has_digits : goal.returns-then-not-has_digits
returns-then-not-has_digits c = point_without_digits c.args.before.now c.args.after.now (run_of (chars c.args.text.now)) _ c.has_digits.ensures c.if-not-has_digits.true

pub returns-in_err-tail : goal.returns-in_err-tail
returns-in_err-tail c = rw c.from_residual.ensures (point_without_exponent c.args.before.now c.args.after.now (run_of (chars c.args.text.now)) _ c.has_digits.ensures c.if-not-has_digits.false c.in_err-tail.ensures)

pub returns : goal.returns
returns c =
    let tail = c.in_ok-tail.ensures in
    record {
      read = point_found c.args.before.now c.args.after.now (run_of (chars c.args.text.now)) _ _ c.has_digits.ensures c.if-not-has_digits.false tail.read;
      digits = record { before = c.requires.before; after = c.requires.after; exponent = tail.digits };
      ends = tail.ends;
    }
