use Rattle.std.proofs.Common.{refl}
use Rattle.json5_lexemes.specs.SameLexemes.{Same, Within, is_separator, is_sign, is_word_part, is_line_part}
use Rattle.json5_lexemes.specs.SameLexemes as same
use Rattle.json5_lexemes.proofs.same.same_line_end.Goals as goal

pub returns : goal.returns
returns c = record {
  same = λ t m s. c.pass_line_blanks.ensures.line.left m c.args.right.now.unread (c.pass_line_blanks-2.ensures.line.right m c.pass_line_blanks.new.text.unread (same.line_ends (c.if-not-ends_line.ensures refl) (c.ends_line-2.ensures t) s));
  shorter = c.pass_line_blanks.ensures.line.shorter;
}
