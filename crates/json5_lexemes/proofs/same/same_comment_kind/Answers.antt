use Rattle.json5_grammar.specs.Language.Characters.{slash_sign, star_sign}
use Rattle.json5_lexemes.specs.SameLexemes.{Same, Within, is_separator, is_sign, is_word_part, is_line_part}
use Rattle.json5_lexemes.specs.SameLexemes as same
use Rattle.json5_lexemes.proofs.SameSteps.{as_first}
use Rattle.json5_lexemes.proofs.same.same_comment_kind.Goals as goal

pub returns-then-c-eq47 : goal.returns-then-c-eq47
returns-then-c-eq47 c = record {
  same = λ t s. as_first Within.slash c.args.c slash_sign c.args.left.now.unread c.args.right.now.unread c.if-c-eq47.true (same.line_begins (c.same_line.ensures.same t c.args.moves s));
  shorter = c.same_line.ensures.shorter;
}

pub returns-then-c-eq42 : goal.returns-then-c-eq42
returns-then-c-eq42 c = record {
  same = λ t s. as_first Within.slash c.args.c star_sign c.args.left.now.unread c.args.right.now.unread c.if-c-eq42.true (c.same_block_or_stars.ensures.same t s);
  shorter = c.same_block_or_stars.ensures.shorter;
}
