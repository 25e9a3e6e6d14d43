use Rattle.std.proofs.Common.{refl, arith}
use Rattle.json5_styles.proofs.PiecesPut.{glyph}
use Rattle.json5_styles.proofs.strings.hex_digit.Goals as goal

pub returns-in-0 : goal.returns-in-0
returns-in-0 c = glyph 48 c.args.number 0 c.in-0.is (omega arith) refl

pub returns-in-1 : goal.returns-in-1
returns-in-1 c = glyph 49 c.args.number 1 c.in-1.is (omega arith) refl

pub returns-in-2 : goal.returns-in-2
returns-in-2 c = glyph 50 c.args.number 2 c.in-2.is (omega arith) refl

pub returns-in-3 : goal.returns-in-3
returns-in-3 c = glyph 51 c.args.number 3 c.in-3.is (omega arith) refl

pub returns-in-4 : goal.returns-in-4
returns-in-4 c = glyph 52 c.args.number 4 c.in-4.is (omega arith) refl

pub returns-in-5 : goal.returns-in-5
returns-in-5 c = glyph 53 c.args.number 5 c.in-5.is (omega arith) refl

pub returns-in-6 : goal.returns-in-6
returns-in-6 c = glyph 54 c.args.number 6 c.in-6.is (omega arith) refl

pub returns-in-7 : goal.returns-in-7
returns-in-7 c = glyph 55 c.args.number 7 c.in-7.is (omega arith) refl

pub returns-in-8 : goal.returns-in-8
returns-in-8 c = glyph 56 c.args.number 8 c.in-8.is (omega arith) refl

pub returns-in-9 : goal.returns-in-9
returns-in-9 c = glyph 57 c.args.number 9 c.in-9.is (omega arith) refl

pub returns-in-10 : goal.returns-in-10
returns-in-10 c = glyph 97 c.args.number 10 c.in-10.is (omega arith) refl

pub returns-in-11 : goal.returns-in-11
returns-in-11 c = glyph 98 c.args.number 11 c.in-11.is (omega arith) refl

pub returns-in-12 : goal.returns-in-12
returns-in-12 c = glyph 99 c.args.number 12 c.in-12.is (omega arith) refl

pub returns-in-13 : goal.returns-in-13
returns-in-13 c = glyph 100 c.args.number 13 c.in-13.is (omega arith) refl

pub returns-in-14 : goal.returns-in-14
returns-in-14 c = glyph 101 c.args.number 14 c.in-14.is (omega arith) refl

pub returns-in_default : goal.returns-in_default
returns-in_default c = glyph 102 c.args.number 15 (omega arith) (omega arith) refl
