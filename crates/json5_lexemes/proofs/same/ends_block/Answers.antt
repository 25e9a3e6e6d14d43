use Rattle.std.proofs.Common.{sym}
use Rattle.json5_lexemes.specs.SameLexemes.{Same, Within, is_separator, is_sign, is_word_part, is_line_part}
use Rattle.json5_lexemes.specs.SameLexemes as same
use Rattle.json5_lexemes.proofs.SameSteps.{star_then}
use Rattle.json5_lexemes.proofs.same.ends_block.Goals as goal

pub returns-then-c-ne42 : goal.returns-then-c-ne42
returns-then-c-ne42 c = record { ends = λ e. absurd (cc); goes_on = λ e m x y k s. same.block_goes_on c.if-c-ne42.true s; in_line = λ e m x y k n s. same.stars_go_on c.if-c-ne42.true n s }

pub returns-in-Some : goal.returns-in-Some
returns-in-Some c = star_then c.args.c c.in-Some.next c.args.text.now.unread c.if-c-ne42.false (sym c.in-Some.ensures)
