use Rattle.std.proofs.Common.{◌≡◌, true, sym, arith}
use Rattle.json5_grammar.specs.Language.Characters.{slash_sign}
use Rattle.json5_grammar.specs.Language.Strings.{is_quote}
use Rattle.json5_lexemes.specs.SameLexemes.{Same, Within, is_separator, is_sign, is_word_part, is_line_part}
use Rattle.json5_lexemes.specs.SameLexemes as same
use Rattle.json5_lexemes.proofs.SameSteps.{as_first}
use Rattle.json5_lexemes.proofs.same.same_rest.Goals as goal

pub returns-then-is_sign : goal.returns-then-is_sign
returns-then-is_sign c = let is : is_sign c.args.c ≡ true = sym c.if-is_sign.ensures in record { same = λ t s. same.sign is s; shorter = omega arith }

pub returns-then-is_quote : goal.returns-then-is_quote
returns-then-is_quote c = let is : is_quote c.args.c ≡ true = sym c.if-is_quote.ensures in record { same = λ t s. same.string_begins is (c.same_string.ensures.same t c.args.moves s); shorter = c.same_string.ensures.shorter }

pub returns-then-c-eq47 : goal.returns-then-c-eq47
returns-then-c-eq47 c = record {
  same = λ t s. as_first Within.between c.args.c slash_sign c.args.left.now.unread c.args.right.now.unread c.if-c-eq47.true (same.comment_begins (c.same_comment.ensures.same t s));
  shorter = c.same_comment.ensures.shorter;
}

pub returns : goal.returns
returns c = let is : is_word_part c.args.c ≡ true = sym c.if-not-is_word_part.ensures in record { same = λ t s. same.word_begins is (c.same_word.ensures.same t c.args.moves s); shorter = c.same_word.ensures.shorter }
