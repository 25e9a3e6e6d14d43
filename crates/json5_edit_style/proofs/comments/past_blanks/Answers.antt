use Rattle.std.proofs.Common.{sym, ◌∙◌}
use Rattle.json5_edit_style.proofs.CommentsPassed.{blanks_start, blanks_on}
use Rattle.json5_edit_style.proofs.comments.past_blanks.Goals as goal
use Rattle.std.specs.Str.{chars}

pub loop-c-init : goal.loop-c-init
loop-c-init c = (c.utf8.text, blanks_start c.args.begins (chars c.args.text.now))

pub loop-c-preserved : goal.loop-c-preserved
loop-c-preserved c = (c.in-Some.ensures.text, blanks_on c.in-Some.c _ _ (sym c.is_json5_whitespace.ensures ∙ c.if-not-is_json5_whitespace.false) c.begins_after-now.ensures c.loop-c.invariant.1 c.in-Some.ensures.chars)
